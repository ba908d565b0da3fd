-- What an operator gives on integers lies in the type of its result.
use Rattle.std.proofs.Common.{◌≡◌, ℕ, ◌<◌, ◌-◌, refl, sym, subst, arith, Bool, true, false, cond}
use Rattle.std.specs.Prelude.{ℤ, pos, negsuc, Option, Some, None, not, ◌||◌, int_lt, int_div, bit_and, bit_or, bit_xor, nat_lt}
use Rattle.std.proofs.lemmas.Bool.{lt-ltb, ltb-true}
use Rattle.c_arithmetic.specs.declared.types.IntType.{IntType}
use Rattle.c_arithmetic.specs.Types.{int, long, promoted, common}
use Rattle.c_arithmetic.specs.Conversion.{half, modulus, holds, residue, converted}
use Rattle.c_arithmetic.specs.Operations.{places}
use Rattle.c_arithmetic.proofs.Laws.{holds-converted, promoted-wide, common-wide}
use Rattle.run_model.specs.Kinds.{InRange}
use Rattle.run_model.specs.Values.{same_int}
use Rattle.run_model.specs.Arithmetic.{Computation, Times, Over, Remainder, ShiftLeft, ShiftRight, BitAnd, BitXor, BitOr, Operator, Equals, Orders, Adds, Subtracts, Computes, Sign, Plus, Minus, Complement, settled, shifted_left, shifted_right, computed, truth_number, result_type, of_two, of_one}

pub converted_in_range : (t : IntType) (z : ℤ) → 0 < t.width → InRange t (converted t z)
converted_in_range t z wide = holds-converted t z wide

given : (t : IntType) (z r : ℤ) → InRange t z → Some z ≡ Some r → InRange t r
given t z r h e = let q : z ≡ r = cc in subst (InRange t) q h

-- with a sign the result is kept where it is a value; without one it is the residue, as a conversion gives it
with_sign : (t : IntType) (z r : ℤ) (b : Bool) → holds t z ≡ b → cond b (Some z) None ≡ Some r → InRange t r
with_sign t z r true h e = given t z r h e
with_sign t z r false h e = absurd cc

residue_is : (t : IntType) (z : ℤ) (b : Bool) → t.signed ≡ b → b ≡ false → pos (residue t z) ≡ converted t z
residue_is t z true e f = absurd cc
residue_is t z false e f = rw e refl

settles : (t : IntType) (z r : ℤ) (b : Bool) → t.signed ≡ b → 0 < t.width → cond b (cond (holds t z) (Some z) None) (Some (pos (residue t z))) ≡ Some r → InRange t r
settles t z r true s wide e = with_sign t z r (holds t z) refl e
settles t z r false s wide e = given t (pos (residue t z)) r (subst (InRange t) (sym (residue_is t z false s refl)) (converted_in_range t z wide)) e

pub settled_in_range : (t : IntType) (z r : ℤ) → 0 < t.width → settled t z ≡ Some r → InRange t r
settled_in_range t z r wide e = settles t z r t.signed refl wide e

truth_in_range : (b : Bool) (r : ℤ) → Some (truth_number b) ≡ Some r → InRange int r
truth_in_range true r e = given int (pos 1) r refl e
truth_in_range false r e = given int (pos 0) r refl e

unless : (t : IntType) (b : Bool) (o : Option ℤ) (r : ℤ) → (o ≡ Some r → InRange t r) → cond b None o ≡ Some r → InRange t r
unless t true o r h e = absurd cc
unless t false o r h e = h e

left_in_range : (t : IntType) (z r : ℤ) (n : Option ℕ) → 0 < t.width → shifted_left t z n ≡ Some r → InRange t r
left_in_range t z r None wide e = absurd cc
left_in_range t z r (Some n) wide e = unless t (int_lt z (pos 0)) _ r (settled_in_range t _ r wide) e

right_in_range : (t : IntType) (z r : ℤ) (n : Option ℕ) → 0 < t.width → shifted_right t z n ≡ Some r → InRange t r
right_in_range t z r None wide e = absurd cc
right_in_range t z r (Some n) wide e = settled_in_range t _ r wide e

computed_in_range : (c : Computation) (t : IntType) (x y r : ℤ) → 0 < t.width → computed c t x y ≡ Some r → InRange t r
computed_in_range Times t x y r wide e = settled_in_range t _ r wide e
computed_in_range Over t x y r wide e = unless t (same_int y (pos 0)) _ r (settled_in_range t _ r wide) e
computed_in_range Remainder t x y r wide e = unless t (same_int y (pos 0) || not (holds t (int_div x y))) _ r (settled_in_range t _ r wide) e
computed_in_range ShiftLeft t x y r wide e = absurd cc
computed_in_range ShiftRight t x y r wide e = absurd cc
computed_in_range BitAnd t x y r wide e = given t _ r (converted_in_range t (pos (bit_and (residue t x) (residue t y))) wide) e
computed_in_range BitXor t x y r wide e = given t _ r (converted_in_range t (pos (bit_xor (residue t x) (residue t y))) wide) e
computed_in_range BitOr t x y r wide e = given t _ r (converted_in_range t (pos (bit_or (residue t x) (residue t y))) wide) e

pub two_in_range : (op : Operator) (s t : IntType) (x y r : ℤ) → of_two op s x t y ≡ Some r → InRange (result_type op s t) r
two_in_range (Equals n) s t x y r e = truth_in_range _ r e
two_in_range (Orders o) s t x y r e = truth_in_range _ r e
two_in_range Adds s t x y r e = settled_in_range (common s t) _ r (common-wide s t) e
two_in_range Subtracts s t x y r e = settled_in_range (common s t) _ r (common-wide s t) e
two_in_range (Computes Times) s t x y r e = computed_in_range Times (common s t) (converted (common s t) x) (converted (common s t) y) r (common-wide s t) e
two_in_range (Computes Over) s t x y r e = computed_in_range Over (common s t) (converted (common s t) x) (converted (common s t) y) r (common-wide s t) e
two_in_range (Computes Remainder) s t x y r e = computed_in_range Remainder (common s t) (converted (common s t) x) (converted (common s t) y) r (common-wide s t) e
two_in_range (Computes ShiftLeft) s t x y r e = left_in_range (promoted s) (converted (promoted s) x) r (places (promoted s) (converted (promoted t) y)) (promoted-wide s) e
two_in_range (Computes ShiftRight) s t x y r e = right_in_range (promoted s) (converted (promoted s) x) r (places (promoted s) (converted (promoted t) y)) (promoted-wide s) e
two_in_range (Computes BitAnd) s t x y r e = computed_in_range BitAnd (common s t) (converted (common s t) x) (converted (common s t) y) r (common-wide s t) e
two_in_range (Computes BitXor) s t x y r e = computed_in_range BitXor (common s t) (converted (common s t) x) (converted (common s t) y) r (common-wide s t) e
two_in_range (Computes BitOr) s t x y r e = computed_in_range BitOr (common s t) (converted (common s t) x) (converted (common s t) y) r (common-wide s t) e

pub one_in_range : (s : Sign) (t : IntType) (x r : ℤ) → of_one s t x ≡ Some r → InRange (promoted t) r
one_in_range Plus t x r e = given (promoted t) _ r (converted_in_range (promoted t) x (promoted-wide t)) e
one_in_range Minus t x r e = settled_in_range (promoted t) _ r (promoted-wide t) e
one_in_range Complement t x r e = given (promoted t) _ r (converted_in_range (promoted t) (pos (modulus (promoted t) - 1 - residue (promoted t) x)) (promoted-wide t)) e

-- an int is a long
long_of : (n : ℕ) → nat_lt n (half int) ≡ true → nat_lt n (half long) ≡ true
long_of n h = let p : n < 2147483648 = ltb-true n 2147483648 h in lt-ltb n 9223372036854775808 (omega (arith, p))

pub int_is_long : (i : ℤ) → InRange int i → InRange long i
int_is_long (pos n) h = long_of n h
int_is_long (negsuc n) h = long_of n h
