use Rattle.std.proofs.Common.{◌≡◌, map, drop}
use Rattle.c_kinds.specs.View.{view}
use Rattle.c_rules.specs.Calls as rule
use Rattle.c_rules.specs.Seen.{seen_operands}
use Rattle.c_rules.proofs.calls.are_accepted.Given as goal

abbrev pub invariant-loop-x : goal.invariant-loop-x
invariant-loop-x l = rule.are_accepted (map view l.rest) (seen_operands (drop l.x-index l.xs)) ≡ rule.are_accepted (map view l.fn.dues) (seen_operands l.fn.xs)
