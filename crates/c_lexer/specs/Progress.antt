-- What the scanner holds, and what it keeps from step to step.
use Rattle.std.specs.Prelude.{◌≡◌, ℕ, ◌+◌, ◌^◌, ◌<◌, length, map, string_bytes, Result, Ok, Err}
use Rattle.c_lexer.specs.Lexis.{Progress}
use Rattle.c_lexer.specs.declared.scanner.Scanner.{Scanner}
use Rattle.c_lexer.specs.declared.fault.LexFault.{LexFault}
use Rattle.c_lexer.specs.declared.fault.LexFault.TheVariants as fault

abbrev pub progress : Scanner → Progress
progress s = record { tokens = s.tokens.items; places = s.places.items; files = map string_bytes s.files.keys; place = s.place; fresh = s.fresh }

-- each token has a place, and the numbers still fit when n more bytes are read
pub record IsReady (p : Progress) (n : ℕ) : Type 0 where
  pub line : p.place.line + n < 2 ^ 31
  pub column : p.place.column + n < 2 ^ 30
  pub files : length p.files + n < 2 ^ 30
  pub paired : length p.places ≡ length p.tokens

-- a step gave this, and took as many bytes as it answers, unless memory ran out
abbrev pub Steps : Result ℕ LexFault → Progress → Result (Progress × ℕ) LexFault → Type 0
Steps (Ok n) new read = read ≡ Ok (new, n)
Steps (Err fault.NoMemory) new read = Unit {0}
Steps (Err e) new read = read ≡ Err e
