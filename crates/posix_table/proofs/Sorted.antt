-- The rows of the profiles are those of a table: their order by one test of the whole list.
use Rattle.std.proofs.Common.{◌≡◌, ℕ, Bool, true, false, ◌&&◌, List, [], ◌∷◌, length, map, get_or, refl, sym, subst, ◌≤◌, lit≤, inl, inr, ap}
use Rattle.std.proofs.lemmas.Bool.{false≢true}
use Rattle.std.proofs.lemmas.List.Elements.{Contains-get_or, All-from_recursion, recursion_from_All}
use Rattle.std.specs.Cmp.Lexicographic.{slice_cmp}
use Rattle.std.specs.Ordering.{nat_cmp, is_lt}
use Rattle.std.specs.declared.cmp.Ordering.{Ordering}
use Rattle.std.specs.declared.cmp.Ordering.TheVariants.{Less, Equal, Greater}
use Rattle.std.specs.List.{list_all, AllByRecursion}
use Rattle.std.specs.List.Sorted.{IsStrictlySortedBy}
use Rattle.posix_table.specs.Profile.{profile_rows, later_rows, split_row, placed, with_unsafe_fork}
use Rattle.posix_table.specs.Law.{IsLawful}
use Rattle.posix_table.specs.declared.row.Row.{Row}
use Rattle.posix_table.specs.Table.{IsTable}

-- each key is below those after it
abbrev ascends : List (List ℕ) → Bool
ascends [] = true
ascends (key ∷ keys) = list_all (λ later. is_lt (slice_cmp nat_cmp key later)) keys && ascends keys

is_less : (o : Ordering) → is_lt o ≡ true → o ≡ Less
is_less Less h = refl
is_less Equal h = absurd (false≢true h)
is_less Greater h = absurd (false≢true h)

both : (a b : Bool) → (a && b) ≡ true → (a ≡ true) × (b ≡ true)
both true b h = (refl, h)
both false b h = absurd (false≢true h)

below_all : (key : List ℕ) (keys : List (List ℕ)) → list_all (λ later. is_lt (slice_cmp nat_cmp key later)) keys ≡ true
    → AllByRecursion (λ later. slice_cmp nat_cmp key later ≡ Less) keys
below_all key [] h = tt
below_all key (later ∷ keys) h = let parts = both _ _ h in (is_less _ parts.0, below_all key keys parts.1)

-- what the test tells
sorted_by_test : (keys : List (List ℕ)) → ascends keys ≡ true → IsStrictlySortedBy (slice_cmp nat_cmp) keys
unfolding IsStrictlySortedBy
sorted_by_test [] h = tt
sorted_by_test (key ∷ keys) h = let parts = both _ _ h in (below_all key keys parts.0, sorted_by_test keys parts.1)

profile_ascends : ascends (map (λ row. row.name) profile_rows) ≡ true
unfolding profile_rows
profile_ascends = refl

profile_is_small : length profile_rows ≡ 161
unfolding profile_rows
profile_is_small = refl

-- the profile is a table
pub profile_is_table : IsTable profile_rows
profile_is_table = record {
  sorted = sorted_by_test _ profile_ascends;
  lawful = λ k d within. inl (get_or profile_rows k d, inl (Contains-get_or profile_rows k d within), refl);
  few = subst (λ n. n ≤ 100000) (sym profile_is_small) (lit≤ tt);
}

later_ascends : ascends (map (λ row. row.name) later_rows) ≡ true
unfolding later_rows profile_rows
later_ascends = refl

later_is_small : length later_rows ≡ 162
unfolding later_rows profile_rows
later_is_small = refl

-- Rows with one more in its place are lawful where they are lawful and that is.
lawful_placed : (row : Row) (rows : List Row) → IsLawful row → AllByRecursion IsLawful rows → AllByRecursion IsLawful (placed row rows)
lawful_placed row [] new olds = (new, tt)
lawful_placed row (first ∷ rows) new olds = by_test (is_lt (slice_cmp nat_cmp row.name first.name)) (lawful_placed row rows new olds.1) where
  by_test : (b : Bool) → AllByRecursion IsLawful (placed row rows)
      → AllByRecursion IsLawful (elim b as (λ _. List Row) [ true ↦ row ∷ first ∷ rows | false ↦ first ∷ placed row rows ])
  by_test true later = (new, olds)
  by_test false later = (olds.0, later)

lawful_unsafe : (rows : List Row) → AllByRecursion IsLawful rows → AllByRecursion IsLawful (map with_unsafe_fork rows)
lawful_unsafe [] olds = tt
lawful_unsafe (row ∷ rows) olds = (one olds.0, lawful_unsafe rows olds.1) where
  one : IsLawful row → IsLawful (with_unsafe_fork row)
  one (inl known) = inl (known.0, known.1, ap (λ (r : Row). record r { safe = (with_unsafe_fork row).safe }) known.2)
  one (inr plain) = inr (record {
    effect = plain.effect;
    few = plain.few;
    letters = plain.letters;
    result = plain.result;
    fewest = plain.fewest;
    most = plain.most;
  })

split_is_lawful : IsLawful split_row
split_is_lawful = inl (split_row, inr refl, refl)

later_is_lawful : AllByRecursion IsLawful later_rows
unfolding later_rows
later_is_lawful =
    lawful_placed split_row (map with_unsafe_fork profile_rows) split_is_lawful
    (lawful_unsafe profile_rows (recursion_from_All IsLawful profile_rows profile_is_table.lawful))

-- the later profile is a table
pub later_is_table : IsTable later_rows
later_is_table = record {
  sorted = sorted_by_test _ later_ascends;
  lawful = All-from_recursion IsLawful later_rows later_is_lawful;
  few = subst (λ n. n ≤ 100000) (sym later_is_small) (lit≤ tt);
}
