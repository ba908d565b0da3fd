-- The token list of a text, as a relation (C11 6.4).
use Rattle.std.specs.Prelude.{◌≡◌, ℕ, Bool, true, false, ◌||◌, ◌==◌, List, [], ◌∷◌, ◌++◌, length}
use Rattle.base_core.specs.declared.token.Token.{Token}
use Rattle.c_lexer.specs.Bytes.{Text, is_blank}
use Rattle.c_lexer.specs.First.{first}
use Rattle.c_lexer.specs.Lexemes.{IsWhole}
use Rattle.c_lexer.specs.declared.item.Item.{Item}
use Rattle.c_lexer.specs.declared.item.Item.TheVariants as item

-- the item is a comment or a directive of n bytes
abbrev pub IsPassed : Item → ℕ → Type 0
IsPassed (item.Gap k) n = n ≡ k
IsPassed (item.Marker k) n = n ≡ k
IsPassed item.Blank n = ⊥
IsPassed (item.Token class k) n = ⊥
IsPassed (item.Fault refusal k) n = ⊥

-- the longest lexeme at the front of a text, and its class, where the line is fresh or not
abbrev pub IsLexeme : Bool → Token → Text → Type 0
IsLexeme fresh t z = first fresh z ≡ item.Token t.class (length t.lexeme)

-- The lexemes of the tokens stand in the text in this order, each the longest that begins at its place, with blanks, comments and directives
-- between them. The line is fresh at the front of the text, that is, only blanks stand before it on its line, or it isn't; a directive begins
-- on a fresh line alone (C11 6.10).
pub data AreTokensFrom : Bool → List Token → Text → Type 0 where
  end : (fresh : Bool) → AreTokensFrom fresh [] []
  blank : (fresh : Bool) (ts : List Token) (b : ℕ) (z : Text) → is_blank b ≡ true → AreTokensFrom (fresh || b == 10) ts z → AreTokensFrom fresh ts (b ∷ z)
  passed : (fresh : Bool) (ts : List Token) (piece z : Text) → IsPassed (first fresh (piece ++ z)) (length piece) → AreTokensFrom false ts z
      → AreTokensFrom fresh ts (piece ++ z)
  token : (fresh : Bool) (t : Token) (ts : List Token) (z : Text) → IsLexeme fresh t (t.lexeme ++ z) → IsWhole t.class t.lexeme z → AreTokensFrom false ts z
      → AreTokensFrom fresh (t ∷ ts) (t.lexeme ++ z)

-- the tokens of a text, which begins on a fresh line
abbrev pub AreTokensOf : List Token → Text → Type 0
AreTokensOf ts z = AreTokensFrom true ts z
