-- Character constants and string literals (C11 6.4.4.4 and 6.4.5).
use Rattle.std.specs.Prelude.{ℕ, ◌+◌, ◌-◌, Bool, false, not, ◌&&◌, ◌||◌, if◌then◌else◌, ◌==◌, nat_lt, [], ◌∷◌, take, drop, slice_index, Option, Some, None}
use Rattle.base_core.specs.declared.token.Class.TheVariants as class
use Rattle.c_lexer.specs.Bytes.{Text, is_in, run}
use Rattle.c_lexer.specs.Numbers.{value}
use Rattle.c_lexer.specs.declared.bytes.ByteClass.TheVariants.{Octal, Hexadecimal}
use Rattle.c_lexer.specs.declared.item.Item.{Item}
use Rattle.c_lexer.specs.declared.item.Item.TheVariants.{Token, Fault}
use Rattle.c_lexer.specs.declared.item.Refusal.TheVariants.{BadByte, OpenLiteral, NumberTooLarge}

-- ---- escape sequences, behind their `\`

-- simple-escape-sequence: one of ' " ? \ a b f n r t v
abbrev pub is_simple : ℕ → Bool
is_simple b = b == 39 || b == 34 || b == 63 || b == 92 || b == 97 || b == 98 || b == 102 || b == 110 || b == 114 || b == 116 || b == 118

-- octal-escape-sequence: one to three digits
abbrev pub octal_digits : Text → ℕ
octal_digits e = run Octal (take 3 e)

-- hexadecimal-escape-sequence: all the digits behind the `x`
abbrev pub hexadecimal_digits : Text → ℕ
hexadecimal_digits e = run Hexadecimal (drop 1 e)

-- the length of the escape sequence, or 0 where there is none
unfoldable pub escape : Text → ℕ
escape e =
    if is_in Octal (slice_index e 0) then octal_digits e
    else (if slice_index e 0 == 120 then (if hexadecimal_digits e == 0 then 0 else hexadecimal_digits e + 1)
    else (if is_simple (slice_index e 0) then 1 else 0))

-- its value is past that of an unsigned char
unfoldable pub is_large : Text → Bool
is_large e =
    if is_in Octal (slice_index e 0) then nat_lt 255 (value 8 (take (octal_digits e) e))
    else (if slice_index e 0 == 120 then nat_lt 255 (value 16 (take (hexadecimal_digits e) (drop 1 e)))
    else false)

-- ---- character constants

-- an ASCII character other than ' \ and newline
abbrev pub is_plain : ℕ → Bool
is_plain b = nat_lt b 128 && not (b == 39 || b == 92 || b == 10)

-- behind the quote stands a `\`
unfoldable pub escaped_character : Text → Item
escaped_character z =
    let e = drop 2 z in
    if escape e == 0 then Fault BadByte 1
    else (if not (slice_index z (escape e + 2) == 39) then Fault OpenLiteral 0
    else (if is_large e then Fault NumberTooLarge 0
    else Token class.Character (escape e + 3)))

unfoldable pub character : Text → Item
character z =
    if slice_index z 1 == 92 then escaped_character z
    else (if is_plain (slice_index z 1) && slice_index z 2 == 39 then Token class.Character 3
    else Fault OpenLiteral 0)

-- ---- string literals

-- The place of the closing quote, if it comes before a newline and the end. An escaped byte stands directly behind a `\` that isn't escaped.
abbrev pub closing : Bool → ℕ → Text → Option ℕ
closing escaped at [] = None
closing escaped at (b ∷ z) = if b == 10 then None else (if b == 34 && not escaped then Some at else closing (b == 92 && not escaped) (at + 1) z)

-- some escape sequence has a value past that of an unsigned char
abbrev pub has_large : Bool → Text → Bool
has_large escaped [] = false
has_large escaped (b ∷ z) = (b == 92 && not escaped && is_large z) || has_large (b == 92 && not escaped) z

-- the place of the first `\` that is not escaped and begins no escape sequence
abbrev pub first_bad : Bool → ℕ → Text → Option ℕ
first_bad escaped at [] = None
first_bad escaped at (b ∷ z) = if b == 92 && not escaped && (escape z == 0) then Some at else first_bad (b == 92 && not escaped) (at + 1) z

abbrev pub string_judged : ℕ → Option ℕ → Item
string_judged end None = Token class.Text (end + 1)
string_judged end (Some at) = Fault BadByte at

abbrev pub string_ending : Text → Option ℕ → Item
string_ending z None = Fault OpenLiteral 0
string_ending z (Some end) =
    let body = take (end - 1) (drop 1 z) in if has_large false body then Fault NumberTooLarge 0 else string_judged end (first_bad false 1 body)

unfoldable pub string : Text → Item
string z = string_ending z (closing false 1 (drop 1 z))
