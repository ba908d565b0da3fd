use Rattle.std.proofs.Common.{◌≡◌, length}
use Rattle.flat_programs.specs.Shape.{names_differ}
use Rattle.flat_programs.proofs.shape.names_differ.Given as goal

abbrev pub invariant-loop-first : goal.invariant-loop-first
invariant-loop-first l = names_differ l.rest ≡ names_differ l.handlers

abbrev pub decreases-loop-first : goal.decreases-loop-first
decreases-loop-first l = length l.rest
