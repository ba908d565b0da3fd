-- Results of exact arithmetic on operands that are less than 2^64 from zero: nothing is lost in 128 bits.
use Rattle.std.proofs.Common.{ℕ, ◌≡◌, ◌<◌, ◌≤◌, ◌-◌, ◌^◌, ℤ, pos, ◌+ℤ◌, ◌-ℤ◌, ◌*ℤ◌, neg_ℤ, unsigned_abs, FitsSigned, to_z, of_z, arith, lit<, negsuc, nat_eq, refl}
use Rattle.std.proofs.lemmas.Bool.Decides.{nat_tests}
use Rattle.c_arithmetic.specs.Comparison.{same}
use Rattle.std.proofs.Math.Nat.{pow-le-pow_right}
use Rattle.std.proofs.lemmas.Int.{ints, fits_signed_mul, to_z-of_z}
use Rattle.std.specs.Int.{w128}

-- what a number becomes on its way through 128 bits
abbrev pub seen : ℤ → ℤ
seen z = to_z w128 (of_z w128 z)

pub whole_sum : (a b : ℤ) → unsigned_abs a < 2 ^ 64 → unsigned_abs b < 2 ^ 64 → seen (seen a +ℤ seen b) ≡ a +ℤ b
whole_sum a b p q = omega (arith, ints)

pub whole_difference : (a b : ℤ) → unsigned_abs a < 2 ^ 64 → unsigned_abs b < 2 ^ 64 → seen (seen a -ℤ seen b) ≡ a -ℤ b
whole_difference a b p q = omega (arith, ints)

pub whole_negation : (a : ℤ) → unsigned_abs a < 2 ^ 64 → seen (pos 0 -ℤ seen a) ≡ neg_ℤ a
whole_negation a p = omega (arith, ints)

pub power_below : (n : ℕ) → n < 64 → 2 ^ n ≤ 2 ^ 63
power_below n h = let le : n ≤ 63 = omega arith in pow-le-pow_right (lit< tt) le

pub fits_product : (a : ℤ) (n : ℕ) → unsigned_abs a < 2 ^ 64 → n < 64 → FitsSigned w128 (a *ℤ pos (2 ^ n))
fits_product a n p q = fits_signed_mul w128 a (pos (2 ^ n)) (2 ^ 64 - 1) (2 ^ 63) (omega arith) (power_below n q) (lit< tt)

pub whole_product : (a b : ℤ) (n : ℕ) → unsigned_abs a < 2 ^ 64 → n < 64 → b ≡ pos (2 ^ n) → FitsSigned w128 (seen a *ℤ seen b) × (seen (seen a *ℤ seen b) ≡ a *ℤ pos (2 ^ n))
whole_product a b n p q e =
    let fits = fits_product a n p q in
    let left : seen a ≡ a = omega (arith, ints) in
    let right : seen b ≡ pos (2 ^ n) = omega (arith, ints, power_below n q) in
    rw (left, right) (fits, to_z-of_z w128 (a *ℤ pos (2 ^ n)) fits)

-- `==` at 128 bits
pub same_bits : (a b : ℤ) → unsigned_abs a < 2 ^ 64 → unsigned_abs b < 2 ^ 64 → nat_eq (of_z w128 a) (of_z w128 b) ≡ same a b
same_bits (pos m) (pos n) p q = refl
same_bits (pos m) (negsuc n) p q = grind (arith, nat_tests)
same_bits (negsuc m) (pos n) p q = grind (arith, nat_tests)
same_bits (negsuc m) (negsuc n) p q = grind (arith, nat_tests)
