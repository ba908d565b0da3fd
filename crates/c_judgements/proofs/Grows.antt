-- How the parts of a list in preorder grow.
use Rattle.std.proofs.Common.{◌≡◌, ℕ, zero, suc, ◌+◌, ◌<◌, ◌≤◌, List, [], ◌∷◌, ◌++◌, length, take, drop, reverse, set, refl, ap, sym, ◌∙◌, arith, append_assoc, length-append, length-drop, add-one, subst}
use Rattle.std.proofs.lemmas.List.Sums.{sum_by-cons}
use Rattle.std.proofs.lemmas.List.{reverse-append, append-nil, take-append-le, drop-append-le, length-take-le, length-set}
use Rattle.c_judgements.specs.Parts.{added, closed, count, parts, AreOpen}

-- one list behind another, one list
pub added_twice : {T : Type 0} (xs ys : List T) (ps : List (List T)) → added ys (added xs ps) ≡ added (xs ++ ys) ps
added_twice xs ys [] = refl
added_twice xs ys (p ∷ ps) = ap (λ q. q ∷ ps) (append_assoc p xs ys)

pub added_none : {T : Type 0} (ps : List (List T)) → added [] ps ≡ ps
added_none [] = refl
added_none (p ∷ ps) = ap (λ q. q ∷ ps) (append-nil p)

pub reverse-push : {A : Type 0} (xs : List A) (x : A) → reverse (xs ++ x ∷ []) ≡ x ∷ reverse xs
reverse-push xs x = reverse-append xs (x ∷ [])

pub grown : {T : Type 0} (xs zs : List T) (is : List ℕ) → AreOpen (length xs) is → parts (xs ++ zs) is ≡ added zs (parts xs is)
grown xs zs [] h = refl
grown xs zs (i ∷ is) h =
    ap (λ p. p ∷ parts (take i (xs ++ zs)) is) (drop-append-le (i + 1) xs zs (omega arith))
    ∙ ap (λ q. (drop (i + 1) xs ++ zs) ∷ parts q is) (take-append-le i xs zs (omega arith))

pub still_open : (m n : ℕ) (is : List ℕ) → m ≤ n → AreOpen m is → AreOpen n is
still_open m n [] less h = tt
still_open m n (i ∷ is) less h = (omega arith, h.1)

set_cut : {T : Type 0} (xs : List T) (i : ℕ) (x : T) → i < length xs → set xs i x ≡ take i xs ++ x ∷ drop (suc i) xs
set_cut [] i x h = absurd (omega arith)
set_cut (y ∷ ys) zero x h = refl
set_cut (y ∷ ys) (suc i) x h = ap (λ zs. y ∷ zs) (set_cut ys i x (omega arith))

-- a node's own in its place
pub closes : {T : Type 0} (xs : List T) (i : ℕ) (is : List ℕ) (x : T) → AreOpen (length xs) (i ∷ is) → parts (set xs i x) is ≡ closed x (parts xs (i ∷ is))
closes xs i is x h =
    ap (λ l. parts l is) (set_cut xs i x h.0 ∙ ap (λ k. take i xs ++ x ∷ drop k xs) (sym (add-one i)))
    ∙ grown (take i xs) (x ∷ drop (i + 1) xs) is (still_open i (length (take i xs)) is (omega (arith, length-take-le i xs)) h.1)

pub closes_open : {T : Type 0} (xs : List T) (i : ℕ) (is : List ℕ) (x : T) → AreOpen (length xs) (i ∷ is) → AreOpen (length (set xs i x)) is
closes_open xs i is x h = still_open i (length (set xs i x)) is (omega (arith, length-set xs i x)) h.1

pub pushes_open : {T : Type 0} (xs : List T) (is : List ℕ) (x : T) → AreOpen (length xs) is → AreOpen (length (xs ++ x ∷ [])) is
pushes_open xs is x h = still_open (length xs) (length (xs ++ x ∷ [])) is (omega (arith, length-append xs (x ∷ []))) h

some_part : {T : Type 0} (xs : List T) (is : List ℕ) → 0 < length (parts xs is)
some_part xs [] = omega arith
some_part xs (i ∷ is) = omega arith

-- the whole list is as long as all parts, with the open nodes between them
pub counts : {T : Type 0} (xs : List T) (is : List ℕ) → AreOpen (length xs) is → length xs ≡ count (parts xs is)
counts xs [] h = omega arith
counts xs (i ∷ is) h =
    let within : i < length xs = h.0 in
    let front : length (take i xs) ≡ i = length-take-le i xs (omega arith) in
    rw (sum_by-cons length (drop (i + 1) xs) (parts (take i xs) is))
    omega (arith, length-drop (i + 1) xs, some_part (take i xs) is, counts (take i xs) is (subst (λ n. AreOpen n is) (sym front) h.1))

-- one part is the whole list
pub whole : {T : Type 0} (xs : List T) (is : List ℕ) → length (parts xs is) ≡ 1 → parts xs is ≡ xs ∷ []
whole xs [] h = refl
whole xs (i ∷ is) h = absurd (omega (arith, some_part (take i xs) is))
