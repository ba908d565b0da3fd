use Rattle.std.proofs.Common.{◌≡◌, length}
use Rattle.flat_programs.specs.Condition.{aborts_first}
use Rattle.flat_programs.proofs.condition.aborts_first.Given as goal

abbrev pub invariant-loop-first : goal.invariant-loop-first
invariant-loop-first l = aborts_first l.rest ≡ aborts_first l.calls

abbrev pub decreases-loop-first : goal.decreases-loop-first
decreases-loop-first l = length l.rest
