-- The mask of the signals of a mask is that mask.
use Rattle.std.proofs.Common.{◌≡◌, ℕ, zero, suc, ◌+◌, ◌-◌, ◌*◌, ◌^◌, ◌<◌, ◌≤◌, Bool, true, false, cond, ◌==◌, ltb, ◌&&◌, inl, inr, ◌⊎◌, refl, ap, sym, ◌∙◌, subst, arith}
use Rattle.std.specs.Int.{bit_at}
use Rattle.std.specs.Ordering.{nat_cmp}
use Rattle.std.specs.FinSet.{FinSet, contains}
use Rattle.std.proofs.lemmas.Bool.{cases_lt}
use Rattle.std.proofs.lemmas.Bool.Decides.{nat_tests}
use Rattle.std.proofs.Math.Nat.{pow-succ'}
use Rattle.std.proofs.lemmas.Nat.Bits.{bit_at-lt, bit_at_cat_low, bit_at_cat_high, same_from_bits_below}
use Rattle.sig_set.specs.Signals.{AreSignals, signals_of, has_bit, mask_to, mask_of}
use Rattle.sig_set.specs.Members.{is_where, contains_signals, same_signals}

abbrev digit : Bool → ℕ
digit b = cond b 1 0

digit_bit : (b : Bool) → bit_at (digit b) 0 ≡ digit b
digit_bit true = refl
digit_bit false = refl

room : (b : Bool) (power low : ℕ) → low < power → digit b * power + low < 2 * power
room true power low h = omega (arith, h)
room false power low h = omega (arith, h)

below_power : (signals : FinSet nat_cmp) (k : ℕ) → mask_to signals k < 2 ^ k
below_power signals zero = omega arith
below_power signals (suc k) =
    subst (λ n. mask_to signals (suc k) < n) (sym (pow-succ' 2 k)) (room (contains signals (suc k)) (2 ^ k) (mask_to signals k) (below_power signals k))

bit_of_mask : (signals : FinSet nat_cmp) (k i : ℕ) → i < k → bit_at (mask_to signals k) i ≡ digit (contains signals (suc i))
bit_of_mask signals zero i below = absurd (omega (arith, below))
bit_of_mask signals (suc k) i below =
    elim (cases_lt i k) [
      | inl lower ↦ bit_at_cat_low (digit (contains signals (suc k))) k (mask_to signals k) i lower ∙ bit_of_mask signals k i lower
      | inr above ↦
          let top : i ≡ k = omega (arith, above, below) in
          let high = bit_at_cat_high (digit (contains signals (suc k))) k (mask_to signals k) k (below_power signals k) (omega arith) in
          let none : k - k ≡ 0 = omega arith in
          let at_top : bit_at (mask_to signals (suc k)) k ≡ digit (contains signals (suc k)) = high ∙ ap (bit_at (digit (contains signals (suc k)))) none ∙ digit_bit _ in
          subst (λ j. bit_at (mask_to signals (suc k)) j ≡ digit (contains signals (suc j))) (sym top) at_top
    ]

digit_has : (n : ℕ) → n < 2 → digit (n == 1) ≡ n
digit_has n h = grind (arith, nat_tests)

in_range : (i : ℕ) (b : Bool) → i < 28 → (ltb i 28 && b) ≡ b
in_range i b h = grind (arith, nat_tests)

left_out : (i : ℕ) (b : Bool) → 28 ≤ i → (ltb i 28 && b) ≡ false
left_out i b h = grind (arith, nat_tests)

pub mask_of-signals_of : (mask : ℕ) → mask < 2 ^ 28 → mask_of (signals_of mask) ≡ mask
unfolding mask_of
mask_of-signals_of mask within =
    same_from_bits_below 28 (mask_to (signals_of mask) 28) mask (below_power (signals_of mask) 28) within
    (λ i below. bit_of_mask (signals_of mask) 28 i below
    ∙ ap digit (contains_signals mask (suc i) ∙ in_range i (has_bit mask i) below)
    ∙ digit_has (bit_at mask i) (bit_at-lt mask i))

-- and the other way, so two sets of signals with one mask are equal
pub signals_of-mask_of : (signals : FinSet nat_cmp) → AreSignals signals → signals_of (mask_of signals) ≡ signals
unfolding mask_of
signals_of-mask_of signals range = same_signals _ _ (λ q. contains_signals (mask_to signals 28) q ∙ members q)
  where
    has_digit : (b : Bool) → (digit b == 1) ≡ b
    has_digit true = refl
    has_digit false = refl

    outside : (q : ℕ) (b : Bool) → (b ≡ true → (1 ≤ q) × (q ≤ 28)) → (q ≡ 0) ⊎ (28 < q) → false ≡ b
    outside q true h far = absurd (omega (arith, (h refl).0, (h refl).1, far))
    outside q false h far = refl

    members : (q : ℕ) → is_where (has_bit (mask_to signals 28)) 28 q ≡ contains signals q
    members zero = outside 0 _ (range 0) (inl refl)
    members (suc place) =
        elim (cases_lt place 28) [
          | inl below ↦
              in_range place _ below ∙ ap (λ n. n == 1) (bit_of_mask signals 28 place below) ∙ has_digit (contains signals (suc place))
          | inr above ↦ left_out place _ above ∙ outside (suc place) _ (range (suc place)) (inr (omega (arith, above)))
        ]
