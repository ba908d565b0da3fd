use Rattle.std.proofs.Common.{◌≡◌, ◌≤◌, drop}
use Rattle.c_rules.specs.LibraryCalls as rule
use Rattle.c_rules.specs.Seen.{seen_operands}
use Rattle.c_rules.proofs.library_calls.take_all.Given as goal

abbrev pub invariant-loop-x : goal.invariant-loop-x
invariant-loop-x l =
    (rule.take_all (drop l.place l.marks) (seen_operands (drop l.x-index l.xs)) ≡ rule.take_all l.fn.marks (seen_operands l.fn.xs))
    × (l.place ≤ l.x-index)
