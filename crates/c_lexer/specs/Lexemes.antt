-- The forms of lexemes, and what can't follow them (C11 6.4): each is the longest that begins at its place.
use Rattle.std.specs.Prelude.{◌≡◌, true, false, [], ◌∷◌, slice_index}
use Rattle.base_core.specs.declared.token.Class.{Class}
use Rattle.base_core.specs.declared.token.Class.TheVariants.{Keyword, Name, Integer, Punctuator}
use Rattle.base_core.specs.Keywords.{is_keyword}
use Rattle.c_lexer.specs.Bytes.{Text, is_letter, is_in, all_in, is_among}
use Rattle.c_lexer.specs.Integers.{spoils}
use Rattle.c_lexer.specs.Punctuators.{of_one, of_two, of_three}
use Rattle.c_lexer.specs.declared.bytes.ByteClass.TheVariants.{Word}

-- a letter or `_`, then letters, digits and `_`, and none of these behind it
pub record IsWholeWord (z rest : Text) : Type 0 where
  pub begins : is_letter (slice_index z 0) ≡ true
  pub goes_on : all_in Word z ≡ true
  pub ends : is_in Word (slice_index rest 0) ≡ false

-- a punctuator, and no longer one begins with it
abbrev pub IsWholePunctuator : Text → Text → Type 0
IsWholePunctuator (a ∷ []) rest =
    (is_among of_one (a ∷ []) ≡ true) × (is_among of_two (a ∷ slice_index rest 0 ∷ []) ≡ false)
    × (is_among of_three (a ∷ slice_index rest 0 ∷ slice_index rest 1 ∷ []) ≡ false)
IsWholePunctuator (a ∷ b ∷ []) rest = (is_among of_two (a ∷ b ∷ []) ≡ true) × (is_among of_three (a ∷ b ∷ slice_index rest 0 ∷ []) ≡ false)
IsWholePunctuator z rest = is_among of_three z ≡ true

-- The lexeme of the class, where the other text follows it. A literal ends with its quote.
abbrev pub IsWhole : Class → Text → Text → Type 0
IsWhole Keyword z rest = IsWholeWord z rest × (is_keyword z ≡ true)
IsWhole Name z rest = IsWholeWord z rest × (is_keyword z ≡ false)
IsWhole Integer z rest = spoils (slice_index rest 0) ≡ false
IsWhole Punctuator z rest = IsWholePunctuator z rest
IsWhole other z rest = Unit {0}
