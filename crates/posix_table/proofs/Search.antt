-- Where a binary search for a name ends among rows that are sorted by their names.
use Rattle.std.proofs.Common.{◌≡◌, ℕ, suc, ◌<◌, ◌≤◌, Bool, true, false, List, [], ◌∷◌, length, map, slice_get, get_or, None, Some, Ok, Err, cond, refl, sym, ap, ◌∙◌, subst, arith, lit≤, inl, inr}
use Rattle.std.proofs.lemmas.Bool.{cases_lt, lt-ltb, le-ltb}
use Rattle.std.proofs.Math.Dec.{ltb}
use Rattle.std.proofs.lemmas.List.Folds.{find_at}
use Rattle.std.proofs.lemmas.List.Sums.{position_or_len_is}
use Rattle.std.proofs.lemmas.Option.{slice_get-get_or}
use Rattle.std.proofs.lemmas.List.{length-map}
use Rattle.std.proofs.Math.ListN.{get_or-map}
use Rattle.std.proofs.lemmas.Map.Keys.{Less-from_sorted}
use Rattle.std.proofs.lemmas.Map.Text.{is_eq-slice_cmp}
use Rattle.std.proofs.lemmas.Cmp.{nat_list_cmp_total}
use Rattle.std.specs.Cmp.{IsTotalOrder}
use Rattle.std.specs.Cmp.Lexicographic.{slice_cmp}
use Rattle.std.specs.Ordering.{nat_cmp, ordering_index, ordering_reverse, is_eq}
use Rattle.std.specs.declared.cmp.Ordering.{Ordering}
use Rattle.std.specs.declared.cmp.Ordering.TheVariants.{Less, Equal, Greater}
use Rattle.std.specs.List.{find, position}
use Rattle.std.specs.List.Sorted.{IsStrictlySortedBy, IsNonDecreasingBy, IsSearchInRange, IsBinarySearchResult}
use Rattle.std.specs.Str.{bytes_eq}
use Rattle.posix_table.specs.declared.row.Row.{Row}
use Rattle.posix_table.specs.Table.{row_named, place_named}

at_most_two : (r : Ordering) → ordering_index r ≤ 2
at_most_two Less = lit≤ tt
at_most_two Equal = lit≤ tt
at_most_two Greater = lit≤ tt

module _ {K : Type 0} {R : K → K → Ordering} (o : IsTotalOrder R) (x y q : K) (less : R x y ≡ Less) where
  -- what is below a key that ties with q is below q
  below_tied : R y q ≡ Equal → R x q ≡ Less
  below_tied tie = o.antisymm x q ∙ ap ordering_reverse (sym (o.congr y q x tie)) ∙ sym (o.antisymm x y) ∙ less

  -- a smaller key compares no higher
  index_rises : ordering_index (R x q) ≤ ordering_index (R y q)
  index_rises =
      elim (R y q) as (λ r. R y q ≡ r → ordering_index (R x q) ≤ ordering_index r) [
        | Less ↦ λ e. subst (λ r. ordering_index r ≤ 0) (sym (o.trans x y q less e)) (lit≤ tt)
        | Equal ↦ λ e. subst (λ r. ordering_index r ≤ 1) (sym (below_tied e)) (lit≤ tt)
        | Greater ↦ λ e. at_most_two (R x q)
      ] refl

module _ {X : Type 0} (p : X → Bool) where
  -- the first that passes
  find_here : (xs : List X) (i : ℕ) (d : X) → i < length xs → p (get_or xs i d) ≡ true → ((j : ℕ) → j < i → p (get_or xs j d) ≡ false)
      → find p xs ≡ Some (get_or xs i d)
  find_here xs i d within passes fail =
      find_at p xs ∙ ap (slice_get xs) (position_or_len_is p xs i d (omega (arith, within)) fail (λ _. passes)) ∙ slice_get-get_or xs i d within

  -- none passes
  find_nowhere : (xs : List X) → ((k : ℕ) (d : X) → k < length xs → p (get_or xs k d) ≡ false) → find p xs ≡ None
  find_nowhere [] fail = refl
  find_nowhere (x ∷ xs) fail =
      ap (λ b. cond b (Some x) (find p xs)) (fail 0 x (omega arith)) ∙ find_nowhere xs (λ k d within. fail (suc k) d (omega (arith, within)))

module _ {X : Type 0} (p : X → Bool) where
  -- the place of the first that passes
  position_here : (xs : List X) (i : ℕ) (d : X) → i < length xs → p (get_or xs i d) ≡ true → ((j : ℕ) → j < i → p (get_or xs j d) ≡ false)
      → position p xs ≡ Some i
  position_here xs i d within passes fail =
      let here = position_or_len_is p xs i d (omega (arith, within)) fail (λ _. passes) in
      ap (λ n. cond (ltb n (length xs)) (Some n) None) here ∙ ap (λ b. cond b (Some i) None) (lt-ltb i (length xs) within)

  -- none passes
  position_nowhere : (xs : List X) → ((k : ℕ) (d : X) → k < length xs → p (get_or xs k d) ≡ false) → position p xs ≡ None
  position_nowhere [] fail = refl
  position_nowhere (x ∷ xs) fail =
      let n : ℕ = length (x ∷ xs) in
      let past = position_or_len_is p (x ∷ xs) n x (omega arith) (λ k below. fail k x below) (λ below. absurd (omega (arith, below))) in
      ap (λ k. cond (ltb k n) (Some k) None) past ∙ ap (λ b. cond b (Some n) None) (le-ltb n n (omega arith))

module _ (rows : List Row) (sorted : IsStrictlySortedBy (slice_cmp nat_cmp) (map (λ row. row.name) rows)) (q : List ℕ) where
  less : (i j : ℕ) (d : Row) → i < j → j < length rows → slice_cmp nat_cmp (get_or rows i d).name (get_or rows j d).name ≡ Less
  less i j d below within =
      let name : Row → List ℕ = λ row. row.name in
      let apart = Less-from_sorted (slice_cmp nat_cmp) (map name rows) i j d.name sorted below (subst (λ n. j < n) (sym (length-map rows name)) within) in
      let first = get_or-map name rows i d in
      let second = get_or-map name rows j d in
      subst (λ n. slice_cmp nat_cmp n (get_or rows j d).name ≡ Less) first (subst (λ n. slice_cmp nat_cmp (get_or (map name rows) i d.name) n ≡ Less) second apart)

  rises : IsNonDecreasingBy (λ row. ordering_index (slice_cmp nat_cmp row.name q)) rows
  rises i j d le within =
      elim (cases_lt i j) [
        | inl below ↦ index_rises nat_list_cmp_total _ _ q (less i j d below within)
        | inr above ↦
            let same : i ≡ j = omega arith in
            let at : ℕ → ℕ = λ k. ordering_index (slice_cmp nat_cmp (get_or rows k d).name q) in
            let equal : at i ≡ at j = ap at same in
            omega (arith, equal)
      ]

  named : (row : Row) (r : Ordering) → slice_cmp nat_cmp row.name q ≡ r → bytes_eq row.name q ≡ is_eq r
  named row r is = sym (is_eq-slice_cmp row.name q) ∙ ap is_eq is

  pub found : (i : ℕ) (d : Row) → IsSearchInRange (Ok i) (length rows) → IsBinarySearchResult (λ row. slice_cmp nat_cmp row.name q) rows (Ok i)
      → row_named rows q ≡ Some (get_or rows i d)
  unfolding row_named
  found i d within equal =
      find_here (λ row. bytes_eq row.name q) rows i d within (named (get_or rows i d) Equal (equal d))
      (λ j below. named (get_or rows j d) Less (below_tied nat_list_cmp_total _ _ q (less j i d below within) (equal d)))

  found_place_or : (i : ℕ) (d : Row) → IsSearchInRange (Ok i) (length rows) → IsBinarySearchResult (λ row. slice_cmp nat_cmp row.name q) rows (Ok i)
      → place_named rows q ≡ Some i
  unfolding place_named
  found_place_or i d within equal =
      position_here (λ row. bytes_eq row.name q) rows i d within (named (get_or rows i d) Equal (equal d))
      (λ j below. named (get_or rows j d) Less (below_tied nat_list_cmp_total _ _ q (less j i d below within) (equal d)))

  pub absent_place : (i : ℕ) → IsBinarySearchResult (λ row. slice_cmp nat_cmp row.name q) rows (Err i) → place_named rows q ≡ None
  unfolding place_named
  absent_place i parted =
      position_nowhere (λ row. bytes_eq row.name q) rows
      (λ k d within. elim (cases_lt k i) [
        | inl below ↦ named (get_or rows k d) Less ((parted rises).0 k d (omega arith) below)
        | inr above ↦ named (get_or rows k d) Greater ((parted rises).1 k d above within)
      ])

  pub absent : (i : ℕ) → IsBinarySearchResult (λ row. slice_cmp nat_cmp row.name q) rows (Err i) → row_named rows q ≡ None
  unfolding row_named
  absent i parted =
      find_nowhere (λ row. bytes_eq row.name q) rows
      (λ k d within. elim (cases_lt k i) [
        | inl below ↦ named (get_or rows k d) Less ((parted rises).0 k d (omega arith) below)
        | inr above ↦ named (get_or rows k d) Greater ((parted rises).1 k d above within)
      ])

pub found_place : (rows : List Row) (sorted : IsStrictlySortedBy (slice_cmp nat_cmp) (map (λ row. row.name) rows)) (q : List ℕ) (i : ℕ)
    → IsSearchInRange (Ok i) (length rows) → IsBinarySearchResult (λ row. slice_cmp nat_cmp row.name q) rows (Ok i) → place_named rows q ≡ Some i
found_place [] sorted q i within equal = absurd (omega (arith, within))
found_place (row ∷ rows) sorted q i within equal = found_place_or (row ∷ rows) sorted q i row within equal
