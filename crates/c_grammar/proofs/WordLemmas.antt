-- The first words of a type name a type too.
use Rattle.std.proofs.Common.{◌≡◌, ◌⊎◌, inl, inr, ℕ, ◌+◌, ◌*◌, ◌≤◌, Bool, true, ◌&&◌, nat_le, cond, List, [], ◌∷◌, ◌++◌, length, refl, ap, ◌∙◌, append_assoc, length-append, arith}
use Rattle.std.specs.List.{list_all, count_by}
use Rattle.std.proofs.lemmas.List.Sums.{sum_by-cons, sum_by-append, sum_by_push}
use Rattle.std.proofs.lemmas.Bool.{and_from, and_parts}
use Rattle.std.proofs.lemmas.Bool.Decides.{nat_tests}
use Rattle.c_tree.specs.TypeWords.{is_integer_word, is_short, is_int, is_long, is_sign, is_integer_type, is_one_type}
use Rattle.c_tree.specs.declared.type_word.TypeWord.{TypeWord}
use Rattle.c_tree.specs.declared.type_word.TypeWord.TheVariants as tw

fewer : (p : TypeWord → Bool) (us : List TypeWord) (w : TypeWord) (vs : List TypeWord) → count_by p (us ++ w ∷ []) ≤ count_by p (us ++ w ∷ vs)
fewer p us w vs =
    let f : TypeWord → ℕ = λ x. cond (p x) 1 0 in
    omega (arith, sum_by_push f us w, sum_by-append f us (w ∷ vs), sum_by-cons f w vs)

all_fewer : (p : TypeWord → Bool) (us : List TypeWord) (w : TypeWord) (vs : List TypeWord) → list_all p (us ++ w ∷ vs) ≡ true → list_all p (us ++ w ∷ []) ≡ true
all_fewer p [] w vs e = let h = and_parts (p w) (list_all p vs) e in and_from (p w) true h.0 refl
all_fewer p (u ∷ us) w vs e =
    let h = and_parts (p u) (list_all p (us ++ w ∷ vs)) e in
    and_from (p u) (list_all p (us ++ w ∷ [])) h.0 (all_fewer p us w vs h.1)

integer_fewer : (us : List TypeWord) (w : TypeWord) (vs : List TypeWord) → is_integer_type (us ++ w ∷ vs) ≡ true → is_integer_type (us ++ w ∷ []) ≡ true
integer_fewer us w vs e =
    let xs = us ++ w ∷ vs in
    let ys = us ++ w ∷ [] in
    let h = and_parts (list_all is_integer_word xs && nat_le 1 (length xs) && nat_le (count_by is_sign xs) 1 && nat_le (count_by is_int xs) 1) (nat_le (2 * count_by is_short xs + count_by is_long xs) 2) e in
    let i = and_parts (list_all is_integer_word xs && nat_le 1 (length xs) && nat_le (count_by is_sign xs) 1) (nat_le (count_by is_int xs) 1) h.0 in
    let j = and_parts (list_all is_integer_word xs && nat_le 1 (length xs)) (nat_le (count_by is_sign xs) 1) i.0 in
    let m = and_parts (list_all is_integer_word xs) (nat_le 1 (length xs)) j.0 in
    let long : nat_le 1 (length ys) ≡ true = grind (arith, nat_tests, length-append us (w ∷ [])) in
    let a = fewer is_sign us w vs in
    let b = fewer is_int us w vs in
    let c = fewer is_short us w vs in
    let f = fewer is_long us w vs in
    let signs : nat_le (count_by is_sign ys) 1 ≡ true = grind (arith, nat_tests, j.1, a) in
    let ints : nat_le (count_by is_int ys) 1 ≡ true = grind (arith, nat_tests, i.1, b) in
    let longs : nat_le (2 * count_by is_short ys + count_by is_long ys) 2 ≡ true = grind (arith, nat_tests, h.1, c, f) in
    and_from (list_all is_integer_word ys && nat_le 1 (length ys) && nat_le (count_by is_sign ys) 1 && nat_le (count_by is_int ys) 1) (nat_le (2 * count_by is_short ys + count_by is_long ys) 2)
    (and_from (list_all is_integer_word ys && nat_le 1 (length ys) && nat_le (count_by is_sign ys) 1) (nat_le (count_by is_int ys) 1)
    (and_from (list_all is_integer_word ys && nat_le 1 (length ys)) (nat_le (count_by is_sign ys) 1)
    (and_from (list_all is_integer_word ys) (nat_le 1 (length ys)) (all_fewer is_integer_word us w vs m.0) long) signs) ints) longs

integer_one : (xs : List TypeWord) → is_integer_type xs ≡ true → is_one_type xs ≡ true
integer_one (tw.Void ∷ []) h = refl
integer_one (tw.Char ∷ []) h = refl
integer_one (tw.Signed ∷ tw.Char ∷ []) h = refl
integer_one (tw.Unsigned ∷ tw.Char ∷ []) h = refl
integer_one (tw.Whole ∷ []) h = refl
integer_one _ h = h

one_alone : (w : TypeWord) → is_one_type (w ∷ []) ≡ true
one_alone tw.Void = refl
one_alone _ = refl

-- two words and more name an integer, or a character
one_integer : (u : TypeWord) (us : List TypeWord) (w : TypeWord) (vs : List TypeWord) → is_one_type (u ∷ (us ++ w ∷ vs)) ≡ true →
    (is_integer_type (u ∷ (us ++ w ∷ vs)) ≡ true) ⊎ (is_one_type (u ∷ (us ++ w ∷ [])) ≡ true)
one_integer tw.Signed [] tw.Char vs e = inr refl
one_integer tw.Unsigned [] tw.Char vs e = inr refl
one_integer tw.Signed [] w vs e = inl e
one_integer tw.Unsigned [] w vs e = inl e
one_integer u [] w vs e = inl e
one_integer tw.Signed (tw.Char ∷ []) w vs e = inl e
one_integer tw.Unsigned (tw.Char ∷ []) w vs e = inl e
one_integer tw.Signed (tw.Char ∷ (x ∷ xs)) w vs e = inl e
one_integer tw.Unsigned (tw.Char ∷ (x ∷ xs)) w vs e = inl e
one_integer u (x ∷ xs) w vs e = inl e

-- where words name a type, so do the first of them
pub first_words : (us : List TypeWord) (w : TypeWord) (vs : List TypeWord) → is_one_type (us ++ w ∷ vs) ≡ true → is_one_type (us ++ w ∷ []) ≡ true
first_words [] w vs e = one_alone w
first_words (u ∷ us) w vs e = elim (one_integer u us w vs e) [ inl h ↦ integer_one (u ∷ (us ++ w ∷ [])) (integer_fewer (u ∷ us) w vs h) | inr h ↦ h ]

-- the words behind the first go on with them
pub next_words : (us : List TypeWord) (w : TypeWord) (vs : List TypeWord) → is_one_type (us ++ w ∷ vs) ≡ true → is_one_type ((us ++ w ∷ []) ++ vs) ≡ true
next_words us w vs e = ap is_one_type (append_assoc us (w ∷ []) vs) ∙ e
