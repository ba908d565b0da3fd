use Rattle.std.proofs.Common.{◌≡◌, ◌≤◌, ◌∷◌, ◌+◌, ℕ, zero, suc, List, [], Some, None, length, map, drop, ap, sym, ◌∙◌, arith}
use Rattle.std.specs.Prelude.{slice_get}
use Rattle.std.proofs.lemmas.List.{drop_more, drop_all}
use Rattle.std.proofs.lemmas.Option.{slice_get_within, get_or_from_slice_get}
use Rattle.posix_table.specs.declared.row.Row.{Row}
use Rattle.c_environment.specs.Entity as e
use Rattle.c_environment.specs.Fill.{with_known, with_all_known, known_rows}
use Rattle.c_environment.specs.Seen.{seen_environment}
use Rattle.c_environment.proofs.environment.Environment.with_rows.Goals as goal

-- the names of rows
names : List Row → List (List ℕ)
names rows = map (λ row. row.name) rows

past_none : {X : Type 0} (xs : List X) (i : ℕ) → slice_get xs i ≡ None → length xs ≤ i
past_none [] i is = omega arith
past_none (x ∷ xs) zero is = absurd cc
past_none (x ∷ xs) (suc i) is = omega (arith, past_none xs i is)

pub loop-row-preserved : goal.loop-row-preserved
unfolding names
loop-row-preserved c =
    let xs = c.args.table.now in
    let i = c.loop-row.place in
    let row = c.in-Some.row.now in
    let is : slice_get xs i ≡ Some row = sym c.in-Some.ensures.value in
    let here : drop i xs ≡ row ∷ drop (i + 1) xs = drop_more xs i row (slice_get_within xs i row is) ∙ ap (λ y. y ∷ drop (i + 1) xs) (get_or_from_slice_get xs i row row is) in
    let before = seen_environment c.loop-row.self in
    let next : i + 1 ≡ suc i = omega arith in
    let name = c.as_bytes.ensures.value ∙ c.as_str.ensures in
    ap (λ v. with_all_known v (known_rows (i + 1) (names (drop (i + 1) xs)))) (c.in_ok-with_known.ensures ∙ ap (λ n. with_known before (n, e.library i)) name)
    ∙ ap (λ k. with_all_known (with_known before (row.name, e.library i)) (known_rows k (names (drop (i + 1) xs)))) next
    ∙ ap (λ rs. with_all_known before (known_rows i (names rs))) (sym here)
    ∙ c.loop-row.invariant

pub returns : goal.returns
unfolding names
returns c =
    let xs = c.args.table.now in
    let i = c.loop-row.place in
    let past : length xs ≤ i = past_none xs i (sym c.in_default.ensures.value) in
    ap (λ rs. with_all_known (seen_environment c.loop-row.self) (known_rows i (names rs))) (sym (drop_all i xs past)) ∙ c.loop-row.invariant
