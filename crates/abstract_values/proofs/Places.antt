-- Walks along two lists that rise: for each element of the first, the second is passed over up to where it stands.
use Rattle.std.proofs.Common.{◌≡◌, ℕ, zero, suc, ◌+◌, ◌≤◌, List, [], ◌∷◌, length, drop, refl, ap, sym, ◌∙◌, subst, arith, Bool, true, false, cond}
use Rattle.std.specs.Prelude.{Option, IsSomeAnd, slice_get}
use Rattle.std.proofs.lemmas.List.{drop-drop}
use Rattle.abstract_values.specs.Places.{leading}

-- what is left behind the elements at the front that pass
abbrev pub behind : {X : Type 0} → (X → Bool) → List X → List X
behind passes xs = drop (leading passes xs) xs

pub behind_more : {X : Type 0} (passes : X → Bool) (x : X) (xs : List X) → behind passes (x ∷ xs) ≡ cond (passes x) (behind passes xs) (x ∷ xs)
behind_more passes x xs = by_test (passes x)
  where
    by_test : (t : Bool) → drop (cond t (suc (leading passes xs)) 0) (x ∷ xs) ≡ cond t (behind passes xs) (x ∷ xs)
    by_test true = refl
    by_test false = refl

pub first_of_drop : {X : Type 0} (xs : List X) (i : ℕ) → slice_get (drop i xs) 0 ≡ slice_get xs i
first_of_drop [] zero = refl
first_of_drop [] (suc i) = refl
first_of_drop (x ∷ xs) zero = refl
first_of_drop (x ∷ xs) (suc i) = first_of_drop xs i

module _ {X : Type 0} (before : X → X → Bool) (meets : X → X → Type 0) where
  abbrev pub past : X → List X → List X
  past x others = behind (λ y. before y x) others

  -- what stands there meets x
  abbrev pub Met : X → Option X → Type 0
  Met x there = IsSomeAnd there (λ y. meets y x)

  -- each of the elements is met in its place
  abbrev pub Walk : List X → List X → Type 0
  Walk [] others = Unit {0}
  Walk (x ∷ xs) others = Met x (slice_get (past x others) 0) × Walk xs (past x others)

  -- the whole walk is what is left of it
  pub record Left (xs others : List X) (i place : ℕ) : Type 0 where
    pub to : Walk (drop i xs) (drop place others) → Walk xs others
    pub back : Walk xs others → Walk (drop i xs) (drop place others)
    pub within : place ≤ length others

  pub left_whole : (xs others : List X) → Left xs others 0 0
  left_whole xs others = record { to = λ w. w; back = λ w. w; within = omega arith }

  module _ (xs others : List X) (i place next : ℕ) (x : X) (left : Left xs others i place) (here : drop i xs ≡ x ∷ drop (i + 1) xs) (is : next ≡ place + leading (λ y. before y x) (drop place others)) where
    there : past x (drop place others) ≡ drop next others
    there = drop-drop (leading (λ y. before y x) (drop place others)) place others ∙ ap (λ n. drop n others) (sym is)

    met_there : Met x (slice_get (past x (drop place others)) 0) ≡ Met x (slice_get others next)
    met_there = ap (λ l. Met x (slice_get l 0)) there ∙ ap (Met x) (first_of_drop others next)

    split : Walk (drop i xs) (drop place others) → Met x (slice_get others next) × Walk (drop (i + 1) xs) (drop next others)
    split w =
        let both : Walk (x ∷ drop (i + 1) xs) (drop place others) = subst (λ l. Walk l (drop place others)) here w in
        (subst (λ A. A) met_there both.0, subst (Walk (drop (i + 1) xs)) there both.1)

    unsplit : Met x (slice_get others next) → Walk (drop (i + 1) xs) (drop next others) → Walk (drop i xs) (drop place others)
    unsplit m w =
        subst (λ l. Walk l (drop place others)) (sym here) (subst (λ A. A) (sym met_there) m, subst (Walk (drop (i + 1) xs)) (sym there) w)

    pub left_met : next ≤ length others → Met x (slice_get others next) → Left xs others (i + 1) next
    left_met within m = record {
      to = λ w. left.to (unsplit m w);
      back = λ w. (split (left.back w)).1;
      within = within;
    }

    pub left_first : Walk xs others → Met x (slice_get others next)
    left_first w = (split (left.back w)).0
