use Rattle.std.proofs.Common.{◌≡◌, ◌+◌, ◌≤◌, length, false}
use Rattle.c_lexer.specs.Literals.{closing}
use Rattle.c_lexer.proofs.literals.closing.Given as goal

abbrev pub invariant-loop-z : goal.invariant-loop-z
invariant-loop-z l =
    (closing l.escaped l.at l.z ≡ closing false l.initial.at l.initial.z) × (l.at + length l.z ≡ l.initial.at + length l.initial.z) × (l.initial.at ≤ l.at)

abbrev pub decreases-loop-z : goal.decreases-loop-z
decreases-loop-z l = length l.z
