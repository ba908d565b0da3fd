use Rattle.std.proofs.Common.{◌≡◌, ◌+◌, ◌≤◌, length}
use Rattle.c_lexer.specs.Lexis.{moved}
use Rattle.c_lexer.proofs.scanner.moved.Given as goal

abbrev pub invariant-loop-z : goal.invariant-loop-z
invariant-loop-z l = record {
  same : moved l.place l.z ≡ moved l.fn.from l.text;
  line : l.place.line + length l.z ≤ l.fn.from.line + length l.text;
  column : l.place.column + length l.z ≤ l.fn.from.column + length l.text;
}

abbrev pub decreases-loop-z : goal.decreases-loop-z
decreases-loop-z l = length l.z
