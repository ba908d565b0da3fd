-- C's operators on integers, where C defines the result (C11 6.5.3.3, 6.5.5 to 6.5.12). Types and conversions are those of c_arithmetic; but
-- an unsigned long from 2^63 on is a value here.
use Rattle.std.specs.Prelude.{ℕ, ◌-◌, ◌^◌, ℤ, pos, ◌+ℤ◌, ◌-ℤ◌, ◌*ℤ◌, neg_ℤ, Bool, cond, not, ◌||◌, int_lt, int_div, int_rem, bit_and, bit_or, bit_xor, Option, Some, None}
use Rattle.std.specs.Int.{int_shr}
use Rattle.c_arithmetic.specs.declared.types.IntType.{IntType}
use Rattle.c_arithmetic.specs.Types.{int, promoted, common}
use Rattle.c_arithmetic.specs.Conversion.{modulus, holds, residue, converted}
use Rattle.c_arithmetic.specs.Operations.{places}
use Rattle.run_model.specs.Values.{same_int}

pub data Order : Type 0 where
  Less Greater AtMost AtLeast : Order

pub data Computation : Type 0 where
  Times Over Remainder ShiftLeft ShiftRight BitAnd BitXor BitOr : Computation

pub data Operator : Type 0 where
  -- `==`, and negated `!=`
  Equals : (negated : Bool) → Operator
  Orders : (o : Order) → Operator
  Adds : Operator
  Subtracts : Operator
  Computes : (c : Computation) → Operator

pub data Sign : Type 0 where
  Plus Minus Complement : Sign

-- an exact result: without a sign it wraps (6.2.5p9), with one it is a value of the type, or the operation is undefined (6.5p5)
abbrev pub settled : IntType → ℤ → Option ℤ
settled t z = cond t.signed (cond (holds t z) (Some z) None) (Some (pos (residue t z)))

abbrev pub shifted_left : IntType → ℤ → Option ℕ → Option ℤ
shifted_left t z None = None
shifted_left t z (Some n) = cond (int_lt z (pos 0)) None (settled t (z *ℤ pos (2 ^ n)))

-- of a negative number C leaves it to the implementation (6.5.7p5): here toward minus infinity
abbrev pub shifted_right : IntType → ℤ → Option ℕ → Option ℤ
shifted_right t z None = None
shifted_right t z (Some n) = settled t (int_shr z n)

-- by 0 it is undefined, and the remainder is where the quotient is (6.5.5p5, p6)
abbrev pub divided : IntType → ℤ → ℤ → Option ℤ
divided t z d = cond (same_int d (pos 0)) None (settled t (int_div z d))

abbrev pub left_over : IntType → ℤ → ℤ → Option ℤ
left_over t z d = cond (same_int d (pos 0) || not (holds t (int_div z d))) None (settled t (int_rem z d))

-- on two operands of the type t
abbrev pub computed : Computation → IntType → ℤ → ℤ → Option ℤ
computed Times t x y = settled t (x *ℤ y)
computed Over t x y = divided t x y
computed Remainder t x y = left_over t x y
computed ShiftLeft t x y = None
computed ShiftRight t x y = None
computed BitAnd t x y = Some (converted t (pos (bit_and (residue t x) (residue t y))))
computed BitXor t x y = Some (converted t (pos (bit_xor (residue t x) (residue t y))))
computed BitOr t x y = Some (converted t (pos (bit_or (residue t x) (residue t y))))

abbrev pub in_order : Order → ℤ → ℤ → Bool
in_order Less x y = int_lt x y
in_order Greater x y = int_lt y x
in_order AtMost x y = not (int_lt y x)
in_order AtLeast x y = not (int_lt x y)

abbrev pub truth_number : Bool → ℤ
truth_number b = cond b (pos 1) (pos 0)

abbrev pub equality : Bool → Bool → Bool
equality negated b = cond negated (not b) b

-- the type of the result; of a shift that of the left operand (6.5.7p3), else the usual arithmetic conversions (6.3.1.8)
abbrev pub result_type : Operator → IntType → IntType → IntType
result_type (Equals n) s t = int
result_type (Orders o) s t = int
result_type (Computes ShiftLeft) s t = promoted s
result_type (Computes ShiftRight) s t = promoted s
result_type _ s t = common s t

-- a number x of the type s and a number y of the type t
abbrev pub of_two : Operator → IntType → ℤ → IntType → ℤ → Option ℤ
of_two (Equals n) s x t y = Some (truth_number (equality n (same_int (converted (common s t) x) (converted (common s t) y))))
of_two (Orders o) s x t y = Some (truth_number (in_order o (converted (common s t) x) (converted (common s t) y)))
of_two Adds s x t y = settled (common s t) (converted (common s t) x +ℤ converted (common s t) y)
of_two Subtracts s x t y = settled (common s t) (converted (common s t) x -ℤ converted (common s t) y)
of_two (Computes ShiftLeft) s x t y = shifted_left (promoted s) (converted (promoted s) x) (places (promoted s) (converted (promoted t) y))
of_two (Computes ShiftRight) s x t y = shifted_right (promoted s) (converted (promoted s) x) (places (promoted s) (converted (promoted t) y))
of_two (Computes c) s x t y = computed c (common s t) (converted (common s t) x) (converted (common s t) y)

abbrev pub of_one : Sign → IntType → ℤ → Option ℤ
of_one Plus t x = Some (converted (promoted t) x)
of_one Minus t x = settled (promoted t) (neg_ℤ (converted (promoted t) x))
of_one Complement t x = Some (converted (promoted t) (pos (modulus (promoted t) - 1 - residue (promoted t) x)))
