use Rattle.std.proofs.Common.{◌≡◌, length}
use Rattle.flat_programs.specs.Condition.{are_safe}
use Rattle.flat_programs.proofs.condition.are_safe.Given as goal

abbrev pub invariant-loop-first : goal.invariant-loop-first
invariant-loop-first l = are_safe l.statements l.rest ≡ are_safe l.program.statements l.program.handlers

abbrev pub decreases-loop-first : goal.decreases-loop-first
decreases-loop-first l = length l.rest
