-- Bytes and runs of bytes at the front of a text. A text reads as 0 past its end.
use Rattle.std.specs.Prelude.{ℕ, ◌+◌, Bool, not, ◌&&◌, ◌||◌, if◌then◌else◌, ◌==◌, nat_le, List, [], ◌∷◌, length, drop, slice_index, Option, Some, None}
use Rattle.std.specs.Char.{is_ascii_digit, is_ascii_hexdigit, is_ascii_alphabetic, is_ascii_alphanumeric}
use Rattle.std.specs.List.{prefix_len, list_any}
use Rattle.std.specs.Str.{bytes_eq}
use Rattle.c_lexer.specs.declared.bytes.ByteClass.{ByteClass}
use Rattle.c_lexer.specs.declared.bytes.ByteClass.TheVariants.{Blank, Line, Word, Digit, Octal, Hexadecimal, Header, File, Group}

abbrev pub Text : Type 0
Text = List ℕ

-- space, horizontal tab, newline, vertical tab, form feed and carriage return (C11 6.4, "white-space characters")
abbrev pub is_blank : ℕ → Bool
is_blank b = b == 32 || (nat_le 9 b && nat_le b 13)

-- the nondigits of C11 6.4.2.1
abbrev pub is_letter : ℕ → Bool
is_letter b = is_ascii_alphabetic b || b == 95

abbrev pub is_in : ByteClass → ℕ → Bool
is_in Blank b = is_blank b
is_in Line b = not (b == 10)
is_in Word b = is_ascii_alphanumeric b || b == 95
is_in Digit b = is_ascii_digit b
is_in Octal b = nat_le 48 b && nat_le b 55
is_in Hexadecimal b = is_ascii_hexdigit b
is_in Header b = not (b == 62)
is_in File b = not (b == 34 || b == 92)
is_in Group b = is_ascii_digit b || is_blank b

-- how many bytes at the front are in the class
abbrev pub run : ByteClass → Text → ℕ
run c z = prefix_len (is_in c) z

-- what follows the blanks at the front
abbrev pub past_blanks : Text → Text
past_blanks z = drop (run Blank z) z

abbrev pub all_in : ByteClass → Text → Bool
all_in c z = run c z == length z

-- the text is one of these
abbrev pub is_among : List Text → Text → Bool
is_among words z = list_any (bytes_eq z) words

-- the first place where the byte a stands directly before the byte b, where the text begins at the place `at`
abbrev pub first_pair : ℕ → ℕ → ℕ → Text → Option ℕ
first_pair a b at [] = None
first_pair a b at (x ∷ z) = if x == a && slice_index z 0 == b then Some at else first_pair a b (at + 1) z
