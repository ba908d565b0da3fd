use Rattle.std.proofs.Common.{◌≡◌, length}
use Rattle.c_lexer.specs.Lexis.{lexis, rest}
use Rattle.c_lexer.specs.Progress.{progress, IsReady}
use Rattle.c_lexer.proofs.Stands.{Keeps}
use Rattle.c_lexer.proofs.lexis.scan.Given as goal

abbrev pub invariant-loop-rest : goal.invariant-loop-rest
invariant-loop-rest l = record { same : rest (progress l.scanner) l.rest ≡ lexis l.text; ready : IsReady (progress l.scanner) (length l.rest); keeps : Keeps l.text l.scanner.tokens.items l.scanner.fresh l.rest }

abbrev pub decreases-loop-rest : goal.decreases-loop-rest
decreases-loop-rest l = length l.rest
