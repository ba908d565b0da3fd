-- Which numbers are in the set of a mask.
use Rattle.std.proofs.Common.{◌≡◌, ℕ, zero, suc, ◌≤◌, Bool, true, false, ◌==◌, ltb, ◌&&◌, ◌||◌, refl, ap, sym, ◌∙◌, arith}
use Rattle.std.specs.Ordering.{nat_cmp}
use Rattle.std.specs.Cmp.{nat_cmp_total, unsigned_tied}
use Rattle.std.specs.FinSet.{FinSet, insert, contains, contains-insert, contains-empty, nat_cmp-IsAntisymmetric, same_set}
use Rattle.std.proofs.lemmas.Bool.Decides.{nat_tests}
use Rattle.sig_set.specs.Signals.{AreSignals, signals_where, signals_of, has_bit}

-- the signal passes, and is not past the given one
abbrev pub is_where : (ℕ → Bool) → ℕ → ℕ → Bool
is_where passes k zero = false
is_where passes k (suc place) = ltb place k && passes place

pub contains_inserted : (signals : FinSet nat_cmp) (s q : ℕ) → contains (insert signals s) q ≡ ((q == s) || contains signals q)
contains_inserted signals s q = contains-insert nat_cmp_total signals s q ∙ ap (λ b. b || contains signals q) (unsigned_tied q s)

module _ (passes : ℕ → Bool) where
  none_where : (q : ℕ) → false ≡ is_where passes 0 q
  none_where zero = refl
  none_where (suc place) = grind (arith, nat_tests)

  one_more : (k q : ℕ) → passes k ≡ true → ((q == suc k) || is_where passes k q) ≡ is_where passes (suc k) q
  one_more k zero passing = grind (arith, nat_tests)
  one_more k (suc place) passing = grind (arith, nat_tests, λ (same : place ≡ k). ap passes same)

  no_more : (k q : ℕ) → passes k ≡ false → is_where passes k q ≡ is_where passes (suc k) q
  no_more k zero failing = refl
  no_more k (suc place) failing = grind (arith, nat_tests, λ (same : place ≡ k). ap passes same)

  pub contains_where : (k q : ℕ) → contains (signals_where passes k) q ≡ is_where passes k q
  contains_where zero q = contains-empty nat_cmp q ∙ none_where q
  contains_where (suc k) q =
      elim (passes k) as (λ b. passes k ≡ b
      → contains (elim b [ true ↦ insert (signals_where passes k) (suc k) | false ↦ signals_where passes k ]) q ≡ is_where passes (suc k) q) [
        | true ↦ λ passing. contains_inserted _ (suc k) q ∙ ap (λ b. (q == suc k) || b) (contains_where k q) ∙ one_more k q passing
        | false ↦ λ failing. contains_where k q ∙ no_more k q failing
      ] refl

within_where : (passes : ℕ → Bool) (k q : ℕ) → is_where passes k q ≡ true → (1 ≤ q) × (q ≤ k)
within_where passes k zero passing = grind (arith, nat_tests)
within_where passes k (suc place) passing = grind (arith, nat_tests)

pub contains_signals : (mask q : ℕ) → contains (signals_of mask) q ≡ is_where (has_bit mask) 28 q
unfolding signals_of
contains_signals mask q = contains_where (has_bit mask) 28 q

pub signals_in_range : (mask : ℕ) → AreSignals (signals_of mask)
signals_in_range mask q passing = within_where (has_bit mask) 28 q (sym (contains_signals mask q) ∙ passing)

-- two sets of signals with the same members are equal
pub same_signals : (s t : FinSet nat_cmp) → ((q : ℕ) → contains s q ≡ contains t q) → s ≡ t
same_signals = same_set nat_cmp_total nat_cmp-IsAntisymmetric
