use Rattle.std.proofs.Common.{◌≡◌, length}
use Rattle.flat_programs.specs.Condition.{is_installed}
use Rattle.flat_programs.proofs.condition.is_installed.Given as goal

abbrev pub invariant-loop-first : goal.invariant-loop-first
invariant-loop-first l = is_installed l.rest l.name ≡ is_installed l.statements l.name

abbrev pub decreases-loop-first : goal.decreases-loop-first
decreases-loop-first l = length l.rest
