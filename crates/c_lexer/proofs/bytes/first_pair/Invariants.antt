use Rattle.std.proofs.Common.{◌≡◌, ◌+◌, length}
use Rattle.c_lexer.specs.Bytes.{first_pair}
use Rattle.c_lexer.proofs.bytes.first_pair.Given as goal

abbrev pub invariant-loop-z : goal.invariant-loop-z
invariant-loop-z l = (first_pair l.a l.b l.at l.z ≡ first_pair l.a l.b l.initial.at l.initial.z) × (l.at + length l.z ≡ l.initial.at + length l.initial.z)

abbrev pub decreases-loop-z : goal.decreases-loop-z
decreases-loop-z l = length l.z
