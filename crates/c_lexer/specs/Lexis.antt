-- The lexis of a text (C11 6.4): its tokens in order, with blanks, comments and directives between them, or its first fault.
use Rattle.std.specs.Prelude.{◌≡◌, ℕ, zero, suc, ◌+◌, ◌-◌, Bool, true, false, ◌||◌, if◌then◌else◌, ◌==◌, List, [], ◌∷◌, ◌++◌, length, take, slice_index, unwrap_or, Result, Ok, Err}
use Rattle.std.specs.List.{position_or_len}
use Rattle.std.specs.Str.{bytes_eq}
use Rattle.base_core.specs.declared.place.Place.{Place}
use Rattle.base_core.specs.declared.token.Token.{Token}
use Rattle.base_core.specs.declared.token.Class.{Class}
use Rattle.c_lexer.specs.Bytes.{Text, is_among}
use Rattle.c_lexer.specs.Directives.{body, file_name, line_number}
use Rattle.c_lexer.specs.First.{first}
use Rattle.c_lexer.specs.declared.item.Item.{Item}
use Rattle.c_lexer.specs.declared.item.Item.TheVariants as item
use Rattle.c_lexer.specs.declared.item.Refusal.{Refusal}
use Rattle.c_lexer.specs.declared.item.Refusal.TheVariants as refusal
use Rattle.c_lexer.specs.declared.fault.LexFault.{LexFault}
use Rattle.c_lexer.specs.declared.fault.LexFault.TheVariants as fault

-- the tokens of a text, their places, the place of its end, and the files of its line markers in order of first appearance
pub record Lexis : Type 0 where
  pub tokens : List Token
  pub places : List Place
  pub end : Place
  pub files : List Text

-- What was read of a text, and the place of what follows. It is fresh where only blanks stand before that on its line.
pub record Progress : Type 0 where
  pub tokens : List Token
  pub places : List Place
  pub files : List Text
  pub place : Place
  pub fresh : Bool

-- ---- places: lines and columns begin at 1, and a column counts bytes

abbrev pub beyond : Place → ℕ → Place
beyond place b = if b == 10 then record place { line = place.line + 1; column = 1 } else record place { column = place.column + 1 }

-- the place behind a text that begins at a place
unfoldable pub moved : Place → Text → Place
moved place [] = place
moved place (b ∷ z) = moved (beyond place b) z

-- ---- files

-- the files with one more, if it isn't among them
abbrev pub with_file : List Text → Text → List Text
with_file files name = if is_among files name then files else files ++ name ∷ []

-- the number of a file, from 1
abbrev pub file_number : List Text → Text → ℕ
file_number files name = position_or_len (bytes_eq name) files + 1

-- ---- one item

abbrev pub refused : Refusal → Place → LexFault
refused refusal.BadByte place = fault.BadByte place
refused refusal.OpenComment place = fault.OpenComment place
refused refusal.OpenLiteral place = fault.OpenLiteral place
refused refusal.NumberTooLarge place = fault.NumberTooLarge place
refused refusal.Directive place = fault.Directive place

-- what was read, with this behind it
abbrev pub passed : Progress → Text → Bool → Progress
passed p text fresh = record p { place = moved p.place text; fresh = fresh }

abbrev pub with_token : Progress → Class → Text → Progress
with_token p class lexeme =
    record p { tokens = p.tokens ++ record { class = class; lexeme = lexeme } ∷ []; places = p.places ++ p.place ∷ []; place = moved p.place lexeme; fresh = false }

-- The line behind the marker has the marker's number and file.
abbrev pub with_marker : Progress → Text → Progress
with_marker p line =
    let name = file_name (body line) in
    record p { files = with_file p.files name; place = record { file = file_number p.files name; line = unwrap_or (line_number (body line)) 0; column = 1 }; fresh = true }

-- what was read after one more item, and the length of the item
abbrev pub after : Progress → Text → Item → Result (Progress × ℕ) LexFault
after p z item.Blank = Ok (passed p (take 1 z) (p.fresh || slice_index z 0 == 10), 1)
after p z (item.Gap n) = Ok (passed p (take n z) false, n)
after p z (item.Marker n) =
    if n == length z then Ok (record p { files = with_file p.files (file_name (body z)); place = moved p.place z; fresh = false }, n)
    else Ok (with_marker p z, n + 1)
after p z (item.Token class n) = Ok (with_token p class (take n z), n)
after p z (item.Fault refusal n) = Err (refused refusal (moved p.place (take n z)))

unfoldable pub step : Progress → Text → Result (Progress × ℕ) LexFault
step p z = after p z (first p.fresh z)

-- ---- all items

infixl 10 ◌>>=◌
abbrev pub ◌>>=◌ : {A B : Type 0} → Result A LexFault → (A → Result B LexFault) → Result B LexFault
(Ok x) >>= f = f x
(Err e) >>= f = Err e

-- the lexis of a text of which this much was read before; the number counts the bytes that are left of the last item
abbrev pub rest_from : ℕ → Progress → Text → Result Lexis LexFault
rest_from left p [] = Ok (record { tokens = p.tokens; places = p.places; end = p.place; files = p.files })
rest_from (suc left) p (b ∷ z) = rest_from left p z
rest_from zero p (b ∷ z) = step p (b ∷ z) >>= λ next. rest_from (next.1 - 1) next.0 z

unfoldable pub rest : Progress → Text → Result Lexis LexFault
rest = rest_from 0

abbrev pub start : Progress
start = record { tokens = []; places = []; files = []; place = record { file = 0; line = 1; column = 1 }; fresh = true }

-- the lexis of a text, or its first fault
unfoldable pub lexis : Text → Result Lexis LexFault
lexis = rest start

-- what a function answers is this, unless memory ran out
abbrev pub Gives : {A : Type 0} → Result A LexFault → Result A LexFault → Type 0
Gives (Err fault.NoMemory) read = Unit {0}
Gives answer read = read ≡ answer
