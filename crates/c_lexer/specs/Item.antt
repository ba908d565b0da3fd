-- What stands at the front of a text.
use Rattle.std.specs.Prelude.{◌≡◌, ℕ, ◌<◌, ◌≤◌, true, length, take, drop, slice_index}
use Rattle.c_lexer.specs.Bytes.{Text, is_blank}
use Rattle.c_lexer.specs.Directives.{body, is_marker}
use Rattle.c_lexer.specs.Lexemes.{IsWhole}
use Rattle.c_lexer.specs.declared.item.Item.{Item}
use Rattle.c_lexer.specs.declared.item.Item.TheVariants.{Blank, Gap, Marker, Token, Fault}

-- from 1 to the length of the text
abbrev pub IsPart : ℕ → Text → Type 0
IsPart n z = (1 ≤ n) × (n ≤ length z)

-- the item isn't longer than the text, a blank is a blank byte, a lexeme is whole, a marker is one and ends with its line, and a fault lies in the text or at its end
abbrev pub IsWithin : Item → Text → Type 0
IsWithin Blank z = is_blank (slice_index z 0) ≡ true
IsWithin (Gap n) z = IsPart n z
IsWithin (Marker n) z = IsPart n z × (is_marker (body z) ≡ true) × (n < length z → slice_index z n ≡ 10)
IsWithin (Token class n) z = IsPart n z × IsWhole class (take n z) (drop n z)
IsWithin (Fault refusal n) z = n ≤ length z
