-- A statement at the head of a list of tokens.
use Rattle.std.specs.Prelude.{ℕ, List, Option, Some, None, if◌then◌else◌, option_and_then, codes}
use Rattle.std.specs.Option.{option_map}
use Rattle.base_core.specs.Signal.{signal_named}
use Rattle.base_core.specs.declared.token.Class.TheVariants.{Name, Punctuator}
use Rattle.base_core.specs.declared.token.Token.{Token}
use Rattle.flat_programs.specs.declared.flat.LibraryFunction.{LibraryFunction}
use Rattle.flat_programs.specs.declared.flat.Statement.{Statement}
use Rattle.flat_programs.specs.declared.flat.Statement.TheVariants.{Call, Install}
use Rattle.flat_programs.specs.Expect.{Reader, is_name, expect, first_as, letter}
use Rattle.flat_programs.specs.Call.{call}

-- the signal that a token names
abbrev pub signal_of : Token → Option ℕ
signal_of t = if is_name t then signal_named t.lexeme else None

abbrev pub signal : Reader ℕ
signal = first_as signal_of

-- , handler ) ;
abbrev pub installed : Reader ℕ
installed ts =
    option_and_then (λ a. option_and_then (λ h. option_and_then (λ b.
    option_map (λ rest. (h.0, rest)) (expect Punctuator (codes ";") b)) (expect Punctuator (codes ")") h.1)) (letter a))
    (expect Punctuator (codes ",") ts)

-- signal ( SIGNAL , handler ) ;
abbrev pub install : Reader Statement
install ts =
    option_and_then (λ a. option_and_then (λ b. option_and_then (λ s. option_map (λ h. (Install s.0 h.0, h.1)) (installed s.1)) (signal b))
    (expect Punctuator (codes "(") a)) (expect Name (codes "signal") ts)

abbrev pub or_install : List Token → Option (LibraryFunction × List Token) → Option (Statement × List Token)
or_install ts None = install ts
or_install ts (Some p) = Some (Call p.0, p.1)

-- a call or an install
abbrev pub statement : Reader Statement
statement ts = or_install ts (call ts)
