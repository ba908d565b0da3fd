-- A text is looked up among the kinds whose texts have its length.
use Rattle.std.proofs.Common.{◌≡◌, ◌≢◌, ℕ, Bool, true, false, List, [], ◌∷◌, length, cond, refl, sym, ap, ◌∙◌, ◌==◌}
use Rattle.std.specs.Str.{bytes_eq}
use Rattle.std.proofs.lemmas.Bool.Decides.{Decides-eqb}
use Rattle.std.proofs.lemmas.Slice.Eq.{bytes_eq-Decides, text_from_reads, HasBytesAt}
use Rattle.c_grammar.specs.declared.kind.Kind.{Kind}
use Rattle.c_grammar.specs.declared.kind.Kind.TheVariants as k
use Rattle.c_grammar.specs.Kind.{among, of_length, text_of, keywords, marks}

same_length : (text : List ℕ) (x : Kind) → bytes_eq text (text_of x) ≡ true → (length (text_of x) == length text) ≡ true
same_length text x e = (Decides-eqb _ _).1 (sym (ap length ((bytes_eq-Decides text (text_of x)).0 e)))

one : (text : List ℕ) (x : Kind) (xs : List Kind) (a b : Bool) → bytes_eq text (text_of x) ≡ a → (length (text_of x) == length text) ≡ b → (a ≡ true → b ≡ true)
    → among (of_length (length text) xs) text ≡ among xs text
    → among (cond b (x ∷ of_length (length text) xs) (of_length (length text) xs)) text ≡ cond a x (among xs text)
one text x xs true true e f same step = rw e refl
one text x xs true false e f same step = let h : false ≡ true = same refl in absurd (cc)
one text x xs false true e f same step = rw e step
one text x xs false false e f same step = step

by_length : (xs : List Kind) (text : List ℕ) → among (of_length (length text) xs) text ≡ among xs text
by_length [] text = refl
by_length (x ∷ xs) text = one text x xs (bytes_eq text (text_of x)) (length (text_of x) == length text) refl refl (λ e. same_length text x e) (by_length xs text)

-- only kinds whose texts have the length of the text are looked at
pub among_length : (n : ℕ) (xs : List Kind) (text : List ℕ) → length text ≡ n → among (of_length n xs) text ≡ among xs text
among_length n xs text e = rw (← e) (by_length xs text)

-- a text with the bytes of a kind's text is found as that kind
pub among_read : (xs : List Kind) (text : List ℕ) (x : Kind) → among xs (text_of x) ≡ x → length text ≡ length (text_of x) → HasBytesAt text 0 (text_of x) → x ≡ among xs text
among_read xs text x e len bytes = sym e ∙ ap (λ t. among xs t) (sym (text_from_reads text (text_of x) len bytes))

false_of : (b : Bool) → (b ≡ true → ⊥) → b ≡ false
false_of true h = absurd (h refl)
false_of false h = refl

other : (a n : ℕ) → n ≢ a → (a == n) ≡ false
other a n h = false_of (a == n) (λ e. h (sym ((Decides-eqb a n).0 e)))

no_keyword : (n : ℕ) → n ≢ 2 → n ≢ 3 → n ≢ 4 → n ≢ 5 → n ≢ 6 → n ≢ 7 → n ≢ 8 → of_length n keywords ≡ []
no_keyword n a b c d e f g = simp (other 2 n a, other 3 n b, other 4 n c, other 5 n d, other 6 n e, other 7 n f, other 8 n g)

no_mark : (n : ℕ) → n ≢ 1 → n ≢ 2 → n ≢ 3 → of_length n marks ≡ []
no_mark n a b c = simp (other 1 n a, other 2 n b, other 3 n c)

-- no keyword has another length than these
pub keyword_other : (text : List ℕ) → length text ≢ 2 → length text ≢ 3 → length text ≢ 4 → length text ≢ 5 → length text ≢ 6 → length text ≢ 7 → length text ≢ 8 → k.Foreign ≡ among keywords text
keyword_other text a b c d e f g = ap (λ xs. among xs text) (sym (no_keyword (length text) a b c d e f g)) ∙ by_length keywords text

-- no punctuator has another length than these
pub mark_other : (text : List ℕ) → length text ≢ 1 → length text ≢ 2 → length text ≢ 3 → k.Foreign ≡ among marks text
mark_other text a b c = ap (λ xs. among xs text) (sym (no_mark (length text) a b c)) ∙ by_length marks text
