use Rattle.std.proofs.Common.{◌≡◌, ◌≤◌, ◌++◌, drop, length}
use Rattle.abstract_values.specs.Codes.{codes_join}
use Rattle.abstract_values.proofs.functions.join_codes.Given as goal

abbrev pub invariant-loop-code : goal.invariant-loop-code
invariant-loop-code l = (l.all.items ++ codes_join (drop l.place l.left) (drop l.code-index l.right) ≡ codes_join l.left l.right) × (l.place ≤ length l.left)
