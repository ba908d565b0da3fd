-- A text has one token list.
use Rattle.std.proofs.Common.{◌≡◌, ℕ, ◌||◌, ◌==◌, slice_index, Bool, true, false, cond, List, [], ◌∷◌, ◌++◌, length, take, drop, refl, sym, subst, ap, ◌∙◌}
use Rattle.std.proofs.Math.Seq.{drop-append_seam, take-append_seam}
use Rattle.std.proofs.lemmas.Bool.{false≢true}
use Rattle.base_core.specs.declared.token.Token.{Token}
use Rattle.c_lexer.specs.Bytes.{Text, is_blank}
use Rattle.c_lexer.specs.First.{first, sign}
use Rattle.c_lexer.specs.Punctuators.{punctuator}
use Rattle.c_lexer.specs.Grammar.{IsPassed, AreTokensFrom, AreTokensOf, end, blank, passed, token}
use Rattle.c_lexer.specs.declared.item.Item.{Item}
use Rattle.c_lexer.specs.declared.item.Item.TheVariants as item

cond_is : {A : Type 0} (t : Bool) (x y : A) → t ≡ true → cond t x y ≡ x
cond_is true x y h = refl
cond_is false x y h = absurd (false≢true h)

-- a blank byte is a blank
first_blank : (fresh : Bool) (b : ℕ) (z : Text) → is_blank b ≡ true → first fresh (b ∷ z) ≡ item.Blank
unfolding first
first_blank fresh b z is = cond_is (is_blank b) item.Blank _ is

-- What follows the item at the front of a text whose tokens these are.
abbrev Next : Bool → List Token → Text → Item → Type 0
Next fresh ts z item.Blank = AreTokensFrom (fresh || slice_index z 0 == 10) ts (drop 1 z)
Next fresh ts z (item.Gap k) = AreTokensFrom false ts (drop k z)
Next fresh ts z (item.Marker k) = AreTokensFrom false ts (drop k z)
Next fresh ts z (item.Token class k) =
    (us : List Token) × (ts ≡ record { class = class; lexeme = take k z } ∷ us) × AreTokensFrom false us (drop k z)
Next fresh ts z (item.Fault refusal k) = ts ≡ []

-- at the end of the text there are no tokens
next_end : (fresh : Bool) → Next fresh [] [] (first fresh [])
unfolding first sign punctuator
next_end fresh = refl

end_next : (fresh : Bool) (ts : List Token) → Next fresh ts [] (first fresh []) → ts ≡ []
unfolding first sign punctuator
end_next fresh ts next = next

-- behind a comment or a directive
into_passed : (fresh : Bool) (ts : List Token) (piece z : Text) (i : Item) → IsPassed i (length piece) → AreTokensFrom false ts z → Next fresh ts (piece ++ z) i
into_passed fresh ts piece z item.Blank by stands = absurd by
into_passed fresh ts piece z (item.Gap k) by stands =
    subst (λ n. AreTokensFrom false ts (drop n (piece ++ z))) by (subst (AreTokensFrom false ts) (sym (drop-append_seam piece z)) stands)
into_passed fresh ts piece z (item.Marker k) by stands =
    subst (λ n. AreTokensFrom false ts (drop n (piece ++ z))) by (subst (AreTokensFrom false ts) (sym (drop-append_seam piece z)) stands)
into_passed fresh ts piece z (item.Token class k) by stands = absurd by
into_passed fresh ts piece z (item.Fault refusal k) by stands = absurd by

from_passed : (fresh : Bool) (ts : List Token) (piece z : Text) (i : Item) → IsPassed i (length piece) → Next fresh ts (piece ++ z) i → AreTokensFrom false ts z
from_passed fresh ts piece z item.Blank by next = absurd by
from_passed fresh ts piece z (item.Gap k) by next =
    subst (AreTokensFrom false ts) (drop-append_seam piece z) (subst (λ n. AreTokensFrom false ts (drop n (piece ++ z))) (sym by) next)
from_passed fresh ts piece z (item.Marker k) by next =
    subst (AreTokensFrom false ts) (drop-append_seam piece z) (subst (λ n. AreTokensFrom false ts (drop n (piece ++ z))) (sym by) next)
from_passed fresh ts piece z (item.Token class k) by next = absurd by
from_passed fresh ts piece z (item.Fault refusal k) by next = absurd by

-- the token at the front of a text
front_token : (t : Token) (z : Text) → record { class = t.class; lexeme = take (length t.lexeme) (t.lexeme ++ z) } ≡ t
front_token t z = ap (λ (l : Text). record { class = t.class; lexeme = l }) (take-append_seam t.lexeme z)

next : (fresh : Bool) (ts : List Token) (z : Text) → AreTokensFrom fresh ts z → Next fresh ts z (first fresh z)
next _ _ _ (end fresh) = next_end fresh
next _ _ _ (blank fresh ts b z is stands) = subst (Next fresh ts (b ∷ z)) (sym (first_blank fresh b z is)) stands
next _ _ _ (passed fresh ts piece z is stands) = into_passed fresh ts piece z (first fresh (piece ++ z)) is stands
next _ _ _ (token fresh t ts z is whole stands) =
    subst (Next fresh (t ∷ ts) (t.lexeme ++ z)) (sym is)
    (ts, ap (λ u. u ∷ ts) (sym (front_token t z)), subst (AreTokensFrom false ts) (sym (drop-append_seam t.lexeme z)) stands)

only_from : (fresh : Bool) (ts : List Token) (z : Text) → AreTokensFrom fresh ts z → (us : List Token) → AreTokensFrom fresh us z → ts ≡ us
only_from _ _ _ (end fresh) us others = sym (end_next fresh us (next fresh us [] others))
only_from _ _ _ (blank fresh ts b z is stands) us others =
    only_from _ ts z stands us (subst (Next fresh us (b ∷ z)) (first_blank fresh b z is) (next fresh us (b ∷ z) others))
only_from _ _ _ (passed fresh ts piece z is stands) us others =
    only_from false ts z stands us (from_passed fresh us piece z (first fresh (piece ++ z)) is (next fresh us (piece ++ z) others))
only_from _ _ _ (token fresh t ts z is whole stands) us others =
    let behind = subst (Next fresh us (t.lexeme ++ z)) is (next fresh us (t.lexeme ++ z) others) in
    let same = only_from false ts z stands behind.0 (subst (AreTokensFrom false behind.0) (drop-append_seam t.lexeme z) behind.2) in
    ap (λ l. t ∷ l) same ∙ ap (λ u. u ∷ behind.0) (sym (front_token t z)) ∙ sym behind.1

-- a text has at most one token list
pub only_tokens : (text : Text) (ts us : List Token) → AreTokensOf ts text → AreTokensOf us text → ts ≡ us
only_tokens text ts us stands others = only_from true ts text stands us others
