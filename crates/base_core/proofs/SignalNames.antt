-- Names of signals, found one after another.
use Rattle.std.proofs.Common.{Bool, ◌<◌, zero, ◌&&◌, nat_eq, unwrap_or, [], ◌⊎◌, inl, inr, eqb-true}
use Rattle.std.proofs.lemmas.Bool.{and_parts, cases_order}
use Rattle.std.proofs.lemmas.Slice.Eq.{bytes_eq-Decides}
use Rattle.std.specs.Option.{option_map}
use Rattle.std.proofs.Common.{◌≡◌, suc, ℕ, ◌+◌, ◌-◌, ◌≤◌, List, ◌∷◌, true, false, cond, Option, Some, None, drop, slice_get, bytes_eq, refl, sym, ◌∙◌, ap, arith}
use Rattle.std.proofs.Math.Seq.{drop-cons}
use Rattle.std.proofs.lemmas.Option.{slice_get_within, get_or_from_slice_get}
use Rattle.std.specs.List.{position_from}
use Rattle.base_core.specs.Signal.{signal_names, signal_named}

-- the first place of a name among the names from the n-th on
unfoldable pub search_from : ℕ → ℕ → List ℕ → Option ℕ
search_from n place name = position_from (λ known. bytes_eq known name) place (drop n signal_names)

-- the n-th name is the one, or a later name is
step : (n place : ℕ) (known name : List ℕ) → slice_get signal_names n ≡ Some known
    → search_from n place name ≡ cond (bytes_eq known name) (Some place) (search_from (n + 1) (place + 1) name)
unfolding search_from
step n place known name at =
    let inside = slice_get_within signal_names n known at in
    let first = drop-cons signal_names n known inside in
    let is = get_or_from_slice_get signal_names n known known at in
    let next : suc n ≡ n + 1 = omega arith in
    ap (position_from (λ k. bytes_eq k name) place) (first ∙ ap (λ y. y ∷ drop (suc n) signal_names) is ∙ ap (λ m. known ∷ drop m signal_names) next)

pub search_start : (name : List ℕ) → search_from 0 1 name ≡ signal_named name
unfolding search_from signal_named
search_start name = refl

pub search_end : (name : List ℕ) → search_from 28 29 name ≡ None
unfolding search_from
search_end name = refl

pub search_found : (number : ℕ) (known name : List ℕ) → 1 ≤ number → slice_get signal_names (number - 1) ≡ Some known → true ≡ bytes_eq known name
    → search_from (number - 1) number name ≡ signal_named name → Some number ≡ signal_named name
search_found number known name above at same so_far =
    ap (λ b. cond b (Some number) (search_from ((number - 1) + 1) (number + 1) name)) same ∙ sym (step (number - 1) number known name at) ∙ so_far

pub search_next : (number : ℕ) (known name : List ℕ) → 1 ≤ number → slice_get signal_names (number - 1) ≡ Some known → false ≡ bytes_eq known name
    → search_from (number - 1) number name ≡ signal_named name → search_from ((number + 1) - 1) (number + 1) name ≡ signal_named name
search_next number known name above at other so_far =
    let place : (number + 1) - 1 ≡ (number - 1) + 1 = omega arith in
    ap (λ m. search_from m (number + 1) name) place ∙ ap (λ b. cond b (Some number) (search_from ((number - 1) + 1) (number + 1) name)) other
    ∙ sym (step (number - 1) number known name at) ∙ so_far

-- a name that is found stands in the list
found : (names : List (List ℕ)) (first : ℕ) (name : List ℕ) (place : ℕ) → position_from (λ known. bytes_eq known name) first names ≡ Some place
    → (n : ℕ) × (place ≡ first + n) × (slice_get names n ≡ Some name)
found [] first name place at = absurd cc
found (x ∷ xs) first name place at = by_test (bytes_eq x name) refl at (found xs (first + 1) name place)
  where
    by_test : (t : Bool) → bytes_eq x name ≡ t → cond (bytes_eq x name) (Some first) (position_from (λ known. bytes_eq known name) (first + 1) xs) ≡ Some place
        → (position_from (λ known. bytes_eq known name) (first + 1) xs ≡ Some place → (n : ℕ) × (place ≡ (first + 1) + n) × (slice_get xs n ≡ Some name))
        → (n : ℕ) × (place ≡ first + n) × (slice_get (x ∷ xs) n ≡ Some name)
    by_test true is here later =
        let value : Some first ≡ Some place = ap (λ b. cond b (Some first) (position_from (λ known. bytes_eq known name) (first + 1) xs)) (sym is) ∙ here in
        let same : first ≡ place = cc in
        (0, omega arith, ap Some ((bytes_eq-Decides x name).0 is))
    by_test false is here later =
        let value = ap (λ b. cond b (Some first) (position_from (λ known. bytes_eq known name) (first + 1) xs)) (sym is) ∙ here in
        let rest = later value in
        let place_is = rest.1 in
        (suc rest.0, omega arith, rest.2)

-- a signal that has a name is one of the 28, and has that name
pub signal_named_sound : (name : List ℕ) (signal : ℕ) → signal_named name ≡ Some signal → (1 ≤ signal) × (signal ≤ 28) × (slice_get signal_names (signal - 1) ≡ Some name)
unfolding signal_named
signal_named_sound name signal at =
    let place = found signal_names 1 name signal at in
    let is = place.1 in
    let within = slice_get_within signal_names place.0 name place.2 in
    let index : place.0 ≡ signal - 1 = omega arith in
    (omega arith, omega arith, ap (λ n. slice_get signal_names n) (sym index) ∙ place.2)

is_named : ℕ → Bool
is_named n = unwrap_or (option_map (λ signal. nat_eq signal (n + 1)) (signal_named (unwrap_or (slice_get signal_names n) []))) false

all_below : (ℕ → Bool) → ℕ → Bool
all_below p zero = true
all_below p (suc n) = p n && all_below p n

all_named : all_below is_named 28 ≡ true
unfolding all_below is_named signal_named
all_named = refl

at_by : (p : ℕ → Bool) (n k : ℕ) → (p n ≡ true) × (all_below p n ≡ true) → (k ≡ n) ⊎ ((k < n) ⊎ (n < k)) → (k < n → p k ≡ true) → k < suc n → p k ≡ true
at_by p n k parts (inl same) lower below = ap p same ∙ parts.0
at_by p n k parts (inr (inl less)) lower below = lower less
at_by p n k parts (inr (inr more)) lower below = absurd (omega arith)

at_below : (p : ℕ → Bool) (n k : ℕ) → k < n → all_below p n ≡ true → p k ≡ true
unfolding all_below
at_below p zero k below all = absurd (omega arith)
at_below p (suc n) k below all = at_by p n k (and_parts (p n) (all_below p n) all) (cases_order k n) (λ lower. at_below p n k lower (and_parts (p n) (all_below p n) all).1) below

named_by : (o : Option ℕ) (n : ℕ) → unwrap_or (option_map (λ signal. nat_eq signal n) o) false ≡ true → o ≡ Some n
named_by None n is = absurd cc
named_by (Some signal) n is = ap Some (eqb-true signal n is)

-- each of the 28 signals is found by its name
pub signal_named-name : (signal : ℕ) → 1 ≤ signal → signal ≤ 28 → signal_named (unwrap_or (slice_get signal_names (signal - 1)) []) ≡ Some signal
unfolding is_named
signal_named-name signal least greatest =
    let below : signal - 1 < 28 = omega arith in
    let is = named_by (signal_named (unwrap_or (slice_get signal_names (signal - 1)) [])) ((signal - 1) + 1) (at_below is_named 28 (signal - 1) below all_named) in
    let same : (signal - 1) + 1 ≡ signal = omega arith in
    is ∙ ap Some same
