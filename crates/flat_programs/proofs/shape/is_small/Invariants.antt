use Rattle.std.proofs.Common.{◌≡◌, ◌+◌, length}
use Rattle.flat_programs.specs.FlatShape.{calls_in}
use Rattle.flat_programs.proofs.shape.is_small.Given as goal

abbrev pub invariant-loop-first : goal.invariant-loop-first
invariant-loop-first l = calls_in l.handlers + length l.statements + l.room ≡ 100 + calls_in l.rest

abbrev pub decreases-loop-first : goal.decreases-loop-first
decreases-loop-first l = length l.rest
