-- The beginnings and the end of the functions of a flat program.
use Rattle.std.specs.Prelude.{ℕ, List, Option, option_and_then, codes}
use Rattle.std.specs.Option.{option_map}
use Rattle.base_core.specs.declared.token.Class.TheVariants.{Keyword, Name, Integer, Punctuator}
use Rattle.base_core.specs.declared.token.Token.{Token}
use Rattle.flat_programs.specs.Expect.{Reader, expect, letter}

-- ( int LETTER ) {
abbrev pub parameters : Reader ℕ
parameters ts =
    option_and_then (λ a. option_and_then (λ b. option_and_then (λ p. option_and_then (λ c.
    option_map (λ rest. (p.0, rest)) (expect Punctuator (codes "{") c)) (expect Punctuator (codes ")") p.1)) (letter b))
    (expect Keyword (codes "int") a)) (expect Punctuator (codes "(") ts)

-- void LETTER ( int LETTER ) {
abbrev pub handler_head : Reader (ℕ × ℕ)
handler_head ts =
    option_and_then (λ a. option_and_then (λ n. option_map (λ p. ((n.0, p.0), p.1)) (parameters n.1)) (letter a)) (expect Keyword (codes "void") ts)

-- int main ( void ) {
abbrev pub main_head : List Token → Option (List Token)
main_head ts =
    option_and_then (λ a. option_and_then (λ b. option_and_then (λ c. option_and_then (λ d. option_and_then (λ e.
    expect Punctuator (codes "{") e) (expect Punctuator (codes ")") d)) (expect Keyword (codes "void") c))
    (expect Punctuator (codes "(") b)) (expect Name (codes "main") a)) (expect Keyword (codes "int") ts)

-- return 0 ; }
abbrev pub main_tail : List Token → Option (List Token)
main_tail ts =
    option_and_then (λ a. option_and_then (λ b. option_and_then (λ c. expect Punctuator (codes "}") c) (expect Punctuator (codes ";") b))
    (expect Integer (codes "0") a)) (expect Keyword (codes "return") ts)
