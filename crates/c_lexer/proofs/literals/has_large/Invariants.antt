use Rattle.std.proofs.Common.{◌≡◌, length, false}
use Rattle.c_lexer.specs.Literals.{has_large}
use Rattle.c_lexer.proofs.literals.has_large.Given as goal

abbrev pub invariant-loop-z : goal.invariant-loop-z
invariant-loop-z l = has_large l.escaped l.z ≡ has_large false l.initial.z

abbrev pub decreases-loop-z : goal.decreases-loop-z
decreases-loop-z l = length l.z
