-- Single tokens at the head of a list.
use Rattle.std.specs.Prelude.{ℕ, List, [], ◌∷◌, Bool, true, false, ◌&&◌, nat_le, Option, Some, None, if◌then◌else◌}
use Rattle.std.specs.Option.{option_map}
use Rattle.std.specs.Str.{bytes_eq}
use Rattle.base_core.specs.declared.token.Class.{Class}
use Rattle.base_core.specs.declared.token.Class.TheVariants.{Keyword, Name, Integer, Character, Text, Punctuator}
use Rattle.base_core.specs.declared.token.Token.{Token}

-- a reader gives a value and the tokens that are left, or nothing
abbrev pub Reader : Type 0 → Type 0
Reader A = List Token → Option (A × List Token)

abbrev pub same_class : Class → Class → Bool
same_class Keyword Keyword = true
same_class Name Name = true
same_class Integer Integer = true
same_class Character Character = true
same_class Text Text = true
same_class Punctuator Punctuator = true
same_class _ _ = false

abbrev pub is_token : Token → Class → List ℕ → Bool
is_token t class bytes = same_class t.class class && bytes_eq t.lexeme bytes

-- the tokens behind one of this class and these bytes
abbrev pub expect : Class → List ℕ → List Token → Option (List Token)
expect class bytes [] = None
expect class bytes (t ∷ ts) = if is_token t class bytes then Some ts else None

abbrev pub is_name : Token → Bool
is_name t = same_class t.class Name

abbrev pub letter_at : List ℕ → Option ℕ
letter_at [] = None
letter_at (b ∷ []) = if nat_le 97 b && nat_le b 122 then Some b else None
letter_at (b ∷ c ∷ bs) = None

-- the letter that a token is
abbrev pub letter_of : Token → Option ℕ
letter_of t = if is_name t then letter_at t.lexeme else None

-- the value of the first token
abbrev pub first_as : {A : Type 0} → (Token → Option A) → Reader A
first_as f [] = None
first_as f (t ∷ ts) = option_map (λ x. (x, ts)) (f t)

abbrev pub letter : Reader ℕ
letter = first_as letter_of
