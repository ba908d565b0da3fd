use Rattle.std.proofs.Common.{◌≡◌, ◌+◌, length, false}
use Rattle.c_lexer.specs.Literals.{first_bad}
use Rattle.c_lexer.proofs.literals.first_bad.Given as goal

abbrev pub invariant-loop-z : goal.invariant-loop-z
invariant-loop-z l =
    (first_bad l.escaped l.at l.z ≡ first_bad false l.initial.at l.initial.z) × (l.at + length l.z ≡ l.initial.at + length l.initial.z)

abbrev pub decreases-loop-z : goal.decreases-loop-z
decreases-loop-z l = length l.z
