-- What the operations on masks do to their sets.
use Rattle.std.proofs.Common.{◌≡◌, ℕ, zero, suc, ◌-◌, ◌*◌, ◌^◌, ◌<◌, ◌≤◌, min, max, Bool, true, false, ◌==◌, ltb, ltb-true, not, ◌&&◌, ◌||◌, bit_and, bit_or, w32, inl, inr, refl, ap, sym, ◌∙◌, arith}
use Rattle.std.specs.Int.{bit_at, bit_not}
use Rattle.std.specs.Ordering.{nat_cmp}
use Rattle.std.specs.Cmp.{nat_cmp_total, both_ways, unsigned_tied}
use Rattle.std.specs.FinSet.{FinSet, empty, insert, remove, union, intersection, difference, is_subset, contains, contains-empty, contains-remove, contains-union, contains-intersection, contains-difference, is_subset-contains, contains-is_subset}
use Rattle.std.proofs.lemmas.Bool.{cases_lt}
use Rattle.std.proofs.lemmas.Bool.Decides.{nat_tests}
use Rattle.std.proofs.lemmas.Bool.{false≢true, lt-ltb, eqb-true, eq-eqb}
use Rattle.std.proofs.lemmas.Nat.{pow_pos, pow_below, and_le_l}
use Rattle.std.proofs.lemmas.Nat.Bits.{bit_at-lt, bit_at_and, bit_at_or, bit_at_not, bit_at-pow_same, bit_at-pow_other, and_pow}
use Rattle.sig_set.specs.Signals.{signals_of, every_signal, has_bit, mask_of}
use Rattle.sig_set.specs.Members.{is_where, contains_inserted, contains_where, contains_signals, same_signals}
use Rattle.sig_set.specs.Masks.{mask_of-signals_of}

pub none_is_empty : signals_of 0 ≡ empty
unfolding signals_of
none_is_empty = refl

pub ones_are_full : signals_of 268435455 ≡ every_signal
unfolding signals_of every_signal
ones_are_full = refl

-- every signal is among them
all_pass : (signal : ℕ) → 1 ≤ signal → signal ≤ 28 → is_where (λ k. true) 28 signal ≡ true
all_pass zero least greatest = absurd (omega (arith, least))
all_pass (suc place) least greatest = ap (λ b. b && true) (lt-ltb place 28 (omega (arith, greatest)))

pub ones_have : (signal : ℕ) → 1 ≤ signal → signal ≤ 28 → contains (signals_of 268435455) signal ≡ true
unfolding every_signal
ones_have signal least greatest =
    ap (λ s. contains s signal) ones_are_full ∙ contains_where (λ k. true) 28 signal ∙ all_pass signal least greatest

-- ---- bit by bit
or_of_digits : (x y : ℕ) → x < 2 → y < 2 → (max x y == 1) ≡ ((x == 1) || (y == 1))
or_of_digits x y h k = grind (arith, nat_tests)

and_of_digits : (x y : ℕ) → x < 2 → y < 2 → (min x y == 1) ≡ ((x == 1) && (y == 1))
and_of_digits x y h k = grind (arith, nat_tests)

not_of_digit : (x : ℕ) → x < 2 → (1 - x == 1) ≡ not (x == 1)
not_of_digit x h = grind (arith, nat_tests)

has_or : (a b i : ℕ) → has_bit (bit_or a b) i ≡ (has_bit a i || has_bit b i)
has_or a b i = ap (λ n. n == 1) (bit_at_or a b i) ∙ or_of_digits _ _ (bit_at-lt a i) (bit_at-lt b i)

has_and : (a b i : ℕ) → has_bit (bit_and a b) i ≡ (has_bit a i && has_bit b i)
has_and a b i = ap (λ n. n == 1) (bit_at_and a b i) ∙ and_of_digits _ _ (bit_at-lt a i) (bit_at-lt b i)

has_but : (a b i : ℕ) → b < 2 ^ 32 → i < 32 → has_bit (bit_and a (bit_not w32 b)) i ≡ (has_bit a i && not (has_bit b i))
has_but a b i within below =
    has_and a (bit_not w32 b) i ∙ ap (λ n. has_bit a i && (n == 1)) (bit_at_not w32 b i within below) ∙ ap (λ n. has_bit a i && n) (not_of_digit _ (bit_at-lt b i))

has_power : (p i : ℕ) → has_bit (2 ^ p) i ≡ (i == p)
has_power p i = grind (arith, nat_tests, bit_at-pow_other p i, λ (same : i ≡ p). ap (bit_at (2 ^ p)) same, bit_at-pow_same p)

-- ---- set by set
module _ (op : Bool → Bool → Bool) (nothing : op false false ≡ false) where
  combined : (f g h : ℕ → Bool) → ((i : ℕ) → i < 28 → h i ≡ op (f i) (g i)) → (q : ℕ) → is_where h 28 q ≡ op (is_where f 28 q) (is_where g 28 q)
  combined f g h each zero = sym nothing
  combined f g h each (suc place) =
      elim (ltb place 28) as (λ b. ltb place 28 ≡ b → (b && h place) ≡ op (b && f place) (b && g place)) [
        | true ↦ λ e. each place (ltb-true place 28 e)
        | false ↦ λ e. sym nothing
      ] refl

  made_by : (a b mask : ℕ) (made : FinSet nat_cmp) → ((i : ℕ) → i < 28 → has_bit mask i ≡ op (has_bit a i) (has_bit b i))
      → ((q : ℕ) → contains made q ≡ op (contains (signals_of a) q) (contains (signals_of b) q)) → signals_of mask ≡ made
  made_by a b mask made each members =
      same_signals _ _ (λ q. contains_signals mask q ∙ combined (has_bit a) (has_bit b) (has_bit mask) each q
      ∙ ap (λ x. op x (is_where (has_bit b) 28 q)) (sym (contains_signals a q))
      ∙ ap (op (contains (signals_of a) q)) (sym (contains_signals b q))
      ∙ sym (members q))

pub union_of : (a b : ℕ) → signals_of (bit_or a b) ≡ union (signals_of a) (signals_of b)
union_of a b = made_by (λ x y. x || y) refl a b _ _ (λ i below. has_or a b i) (contains-union nat_cmp_total _ _)

pub meet_of : (a b : ℕ) → signals_of (bit_and a b) ≡ intersection (signals_of a) (signals_of b)
meet_of a b = made_by (λ x y. x && y) refl a b _ _ (λ i below. has_and a b i) (contains-intersection nat_cmp_total _ _)

pub minus_of : (a b : ℕ) → b < 2 ^ 28 → signals_of (bit_and a (bit_not w32 b)) ≡ difference (signals_of a) (signals_of b)
minus_of a b within =
    made_by (λ x y. x && not y) refl a b _ _ (λ i below. has_but a b i (omega (arith, within)) (omega (arith, below))) (contains-difference nat_cmp_total _ _)

or_swapped : (x y : Bool) → (x || y) ≡ (y || x)
or_swapped true true = refl
or_swapped true false = refl
or_swapped false true = refl
or_swapped false false = refl

and_swapped : (x y : Bool) → (x && y) ≡ (y && x)
and_swapped true true = refl
and_swapped true false = refl
and_swapped false true = refl
and_swapped false false = refl

not_zero : (x p : ℕ) → x < 2 → 0 < p → not (x * p == 0) ≡ (x == 1)
not_zero x p h k =
    elim (cases_lt x 1) [
      | inl below ↦ let none : x ≡ 0 = omega (arith, below) in rw none (zero_times p)
      | inr above ↦ let one : x ≡ 1 = omega (arith, h, above) in rw one (one_times p k)
    ]
  where
    zero_times : (p : ℕ) → not (0 * p == 0) ≡ (0 == 1)
    zero_times p = grind (arith, nat_tests)

    one_times : (p : ℕ) → 0 < p → not (1 * p == 0) ≡ (1 == 1)
    one_times p k = grind (arith, nat_tests)

-- ---- one signal
module _ (s : ℕ) (least : 1 ≤ s) (greatest : s ≤ 28) where
  single : (q : ℕ) → contains (signals_of (2 ^ (s - 1))) q ≡ (q == s)
  single q = contains_signals (2 ^ (s - 1)) q ∙ alone q
    where
      alone : (q : ℕ) → is_where (has_bit (2 ^ (s - 1))) 28 q ≡ (q == s)
      alone zero = grind (arith, nat_tests)
      alone (suc place) = ap (λ b. ltb place 28 && b) (has_power (s - 1) place) ∙ grind (arith, nat_tests)

  pub with_of : (mask : ℕ) → signals_of (bit_or mask (2 ^ (s - 1))) ≡ insert (signals_of mask) s
  with_of mask =
      made_by (λ x y. y || x) refl mask (2 ^ (s - 1)) _ _ (λ i below. has_or mask (2 ^ (s - 1)) i ∙ or_swapped (has_bit mask i) (has_bit (2 ^ (s - 1)) i))
      (λ q. contains_inserted _ s q ∙ ap (λ b. b || contains (signals_of mask) q) (sym (single q)))

  pub without_of : (mask : ℕ) → signals_of (bit_and mask (bit_not w32 (2 ^ (s - 1)))) ≡ remove (signals_of mask) s
  without_of mask =
      let small : 2 ^ (s - 1) < 2 ^ 32 = pow_below (s - 1) 32 (omega (arith, greatest)) in
      made_by (λ x y. not y && x) refl mask (2 ^ (s - 1)) _ _
      (λ i below. has_but mask (2 ^ (s - 1)) i small (omega (arith, below)) ∙ and_swapped (has_bit mask i) (not (has_bit (2 ^ (s - 1)) i)))
      (λ q. contains-remove nat_cmp_total _ s q ∙ ap (λ b. not b && contains (signals_of mask) q) (unsigned_tied q s ∙ sym (single q)))

  pub has_of : (mask : ℕ) → not (bit_and mask (2 ^ (s - 1)) == 0) ≡ contains (signals_of mask) s
  has_of mask =
      let place : suc (s - 1) ≡ s = omega (arith, least) in
      ap (λ n. not (n == 0)) (and_pow mask (s - 1))
      ∙ not_zero (bit_at mask (s - 1)) (2 ^ (s - 1)) (bit_at-lt mask (s - 1)) (pow_pos (s - 1))
      ∙ sym (ap (λ b. b && has_bit mask (s - 1)) (lt-ltb (s - 1) 28 (omega (arith, greatest, least))))
      ∙ sym (contains_signals mask (suc (s - 1)))
      ∙ ap (contains (signals_of mask)) place

-- ---- subsets
no_difference : (x y : Bool) → (x ≡ true → y ≡ true) → (x && not y) ≡ false
no_difference true true h = refl
no_difference true false h = sym (h refl)
no_difference false y h = refl

in_both : (x y : Bool) → (x && not y) ≡ false → x ≡ true → y ≡ true
in_both true true h e = refl
in_both true false h e = sym h
in_both false y h e = absurd (false≢true e)

module _ (a b : ℕ) (first : a < 2 ^ 28) (second : b < 2 ^ 28) where
  abbrev rest : ℕ
  rest = bit_and a (bit_not w32 b)

  nothing_left : rest ≡ 0 → (q : ℕ) → (contains (signals_of a) q && not (contains (signals_of b) q)) ≡ false
  nothing_left none q =
      sym (contains-difference nat_cmp_total (signals_of a) (signals_of b) q)
      ∙ ap (λ s. contains s q) (sym (minus_of a b second) ∙ ap signals_of none ∙ none_is_empty)
      ∙ contains-empty nat_cmp q

  all_gone : is_subset (signals_of a) (signals_of b) ≡ true → rest ≡ 0
  all_gone subset =
      let no_member : signals_of rest ≡ signals_of 0 =
      minus_of a b second
      ∙ same_signals _ _ (λ q. contains-difference nat_cmp_total (signals_of a) (signals_of b) q
      ∙ no_difference _ _ (is_subset-contains nat_cmp_total (signals_of a) (signals_of b) subset q) ∙ sym (contains-empty nat_cmp q))
      ∙ sym none_is_empty in
      let small : rest < 2 ^ 28 = omega (arith, and_le_l a (bit_not w32 b), first) in
      sym (mask_of-signals_of rest small) ∙ ap mask_of no_member ∙ mask_of-signals_of 0 (pow_pos 28)

  pub below_of : (rest == 0) ≡ is_subset (signals_of a) (signals_of b)
  below_of =
      both_ways _ _
      (λ e. contains-is_subset nat_cmp_total (signals_of a) (signals_of b) (λ q. in_both _ _ (nothing_left (eqb-true rest 0 e) q)))
      (λ subset. eq-eqb rest 0 (all_gone subset))
