-- Two lists of codes that rise, joined in one walk along both.
use Rattle.std.proofs.Common.{◌≡◌, ℕ, zero, suc, ◌+◌, ◌-◌, ◌≤◌, List, [], ◌∷◌, ◌++◌, drop, take, refl, ap, sym, ◌∙◌, subst, arith, Bool, true, false, cond, nat_lt, ◌==◌}
use Rattle.std.specs.Prelude.{Some, slice_get}
use Rattle.std.specs.List.{slice_range}
use Rattle.std.proofs.lemmas.List.{append_assoc, drop-drop}
use Rattle.std.proofs.lemmas.Bool.{eqb-true}
use Rattle.std.proofs.lemmas.Bool.Decides.{nat_tests}
use Rattle.abstract_values.specs.Places.{leading}
use Rattle.abstract_values.specs.Codes.{AreCodes, with_code, codes_join, after}
use Rattle.abstract_values.proofs.Places.{first_of_drop}
use Rattle.abstract_values.proofs.Codes.{lower, place, codes_from, codes-with}

-- a code that is lower than all of the second list stays in front
front : (c : ℕ) (ys more : List ℕ) → AreCodes (c + 1) more → codes_join (c ∷ ys) more ≡ c ∷ codes_join ys more
front c ys [] h = refl
front c ys (d ∷ more) h =
    let le = h.0 in
    let less : nat_lt c d ≡ true = grind (arith, nat_tests) in
    ap (λ t. codes_join (cond t (c ∷ with_code d ys) (cond (c == d) (c ∷ ys) (d ∷ c ∷ ys))) more) less
    ∙ front c (with_code d ys) more (codes_from (c + 1) (d + 1) more (omega (arith, le)) h.2)

-- the join with a code and higher ones: what is lower, the code, and the join of what is behind
split : (code : ℕ) (xs more : List ℕ) → AreCodes (code + 1) more
    → codes_join xs (code ∷ more) ≡ take (place code xs) xs ++ code ∷ codes_join (after code (drop (place code xs) xs)) more
split code [] more h = front code [] more h
split code (c ∷ cs) more h = by_tests (split code cs more h) (nat_lt c code) refl (c == code) refl
  where
    by_tests : codes_join cs (code ∷ more) ≡ take (place code cs) cs ++ code ∷ codes_join (after code (drop (place code cs) cs)) more
        → (t : Bool) → nat_lt c code ≡ t → (s : Bool) → (c == code) ≡ s
        → codes_join (cond t (c ∷ with_code code cs) (cond s (c ∷ cs) (code ∷ c ∷ cs))) more
        ≡ take (cond t (suc (place code cs)) 0) (c ∷ cs) ++ code ∷ codes_join (after code (drop (cond t (suc (place code cs)) 0) (c ∷ cs))) more
    by_tests ih true less s e =
        let le : c + 1 ≤ code + 1 = grind (arith, nat_tests) in
        front c (with_code code cs) more (codes_from (c + 1) (code + 1) more le h) ∙ ap (λ l. c ∷ l) ih
    by_tests ih false less true e =
        let is : c ≡ code = eqb-true c code e in
        front c cs more (codes_from (c + 1) (code + 1) more (omega (arith, is)) h) ∙ (λ i. is i ∷ codes_join (cond (sym e i) cs (c ∷ cs)) more)
    by_tests ih false less false e = front code (c ∷ cs) more h ∙ (λ i. code ∷ codes_join (cond (sym e i) cs (c ∷ cs)) more)

pub after_met : (codes : List ℕ) (at code : ℕ) → slice_get codes at ≡ Some code → drop (at + 1) codes ≡ after code (drop at codes)
after_met codes at code h = sym (drop-drop 1 at codes) ∙ sym (first (drop at codes) (first_of_drop codes at ∙ h))
  where
    first : (l : List ℕ) → slice_get l 0 ≡ Some code → after code l ≡ drop 1 l
    first [] e = absurd cc
    first (c ∷ cs) e =
        let is : c ≡ code = cc in
        let same : (c == code) ≡ true = grind (arith, nat_tests) in
        ap (λ b. cond b cs (c ∷ cs)) same

pub after_unmet : (codes : List ℕ) (at code : ℕ) → (slice_get codes at ≡ Some code → ⊥) → drop at codes ≡ after code (drop at codes)
after_unmet codes at code h = sym (first (drop at codes) (λ e. h (sym (first_of_drop codes at) ∙ e)))
  where
    first : (l : List ℕ) → (slice_get l 0 ≡ Some code → ⊥) → after code l ≡ l
    first [] e = refl
    first (c ∷ cs) e = by_test (c == code) refl
      where
        by_test : (s : Bool) → (c == code) ≡ s → cond s cs (c ∷ cs) ≡ c ∷ cs
        by_test true same = absurd (e (ap Some (eqb-true c code same)))
        by_test false same = refl

codes_behind : (n i : ℕ) (codes : List ℕ) → AreCodes n codes → (m : ℕ) × AreCodes m (drop i codes)
codes_behind n zero [] h = (n, tt)
codes_behind n (suc i) [] h = (n, tt)
codes_behind n zero (c ∷ cs) h = (n, h)
codes_behind n (suc i) (c ∷ cs) h = codes_behind (c + 1) i cs h.2

grouped : (a t r : List ℕ) (x : ℕ) → (a ++ (t ++ x ∷ [])) ++ r ≡ a ++ (t ++ x ∷ r)
grouped a t r x = append_assoc a (t ++ x ∷ []) r ∙ ap (λ l. a ++ l) (append_assoc t (x ∷ []) r)

-- one turn of the walk
pub merged : (left right all whole : List ℕ) (i at next code at' : ℕ) → AreCodes 0 right → drop i right ≡ code ∷ drop (i + 1) right
    → next ≡ at + leading (λ c. lower c code) (drop at left) → drop at' left ≡ after code (drop next left)
    → all ++ codes_join (drop at left) (drop i right) ≡ whole
    → (all ++ (slice_range left at next ++ code ∷ [])) ++ codes_join (drop at' left) (drop (i + 1) right) ≡ whole
merged left right all whole i at next code at' rising here is past h =
    let xs : List ℕ = drop at left in
    let more : List ℕ = drop (i + 1) right in
    let n : ℕ = place code xs in
    let behind = codes_behind 0 i right rising in
    let higher : AreCodes (code + 1) more = (subst (AreCodes behind.0) here behind.1).2 in
    let count : next - at ≡ n = omega (arith, is) in
    let rest : drop n xs ≡ drop next left = drop-drop n at left ∙ ap (λ k. drop k left) (sym is) in
    grouped all (slice_range left at next) (codes_join (drop at' left) more) code
    ∙ (λ j. all ++ (take (count j) xs ++ code ∷ codes_join ((past ∙ ap (after code) (sym rest)) j) more))
    ∙ ap (λ l. all ++ l) (sym (split code xs more higher))
    ∙ ap (λ l. all ++ codes_join xs l) (sym here)
    ∙ h

pub join_codes : (n : ℕ) (xs ys : List ℕ) → AreCodes 0 xs → AreCodes n ys → AreCodes 0 (codes_join xs ys)
join_codes n xs [] h g = h
join_codes n xs (d ∷ more) h g = join_codes (d + 1) (with_code d xs) more (codes-with 0 d xs (omega arith) g.1 h) g.2
