-- A call at the head of a list of tokens.
use Rattle.std.specs.Prelude.{ℕ, List, Option, Some, None, if◌then◌else◌, option_and_then, codes}
use Rattle.std.specs.Option.{option_map}
use Rattle.std.specs.Str.{bytes_eq}
use Rattle.base_core.specs.declared.token.Class.TheVariants.{Punctuator}
use Rattle.base_core.specs.declared.token.Token.{Token}
use Rattle.flat_programs.specs.declared.flat.LibraryFunction.{LibraryFunction}
use Rattle.flat_programs.specs.declared.flat.LibraryFunction.TheVariants.{Abort, Getpid, Pause, Rand}
use Rattle.flat_programs.specs.Expect.{Reader, is_name, expect, first_as}

abbrev pub function_named : List ℕ → Option LibraryFunction
function_named name =
    if bytes_eq name (codes "abort") then Some Abort
    else if bytes_eq name (codes "getpid") then Some Getpid
    else if bytes_eq name (codes "pause") then Some Pause
    else if bytes_eq name (codes "rand") then Some Rand
    else None

abbrev pub function_of : Token → Option LibraryFunction
function_of t = if is_name t then function_named t.lexeme else None

-- behind ( ) ;
abbrev pub call_end : List Token → Option (List Token)
call_end ts =
    option_and_then (λ a. option_and_then (λ b. expect Punctuator (codes ";") b) (expect Punctuator (codes ")") a)) (expect Punctuator (codes "(") ts)

-- function ( ) ;
abbrev pub call : Reader LibraryFunction
call ts = option_and_then (λ p. option_map (λ rest. (p.0, rest)) (call_end p.1)) (first_as function_of ts)
