-- The operators on integers (C11 6.5.3.3, 6.5.5 to 6.5.12): of values with their types the value, where C defines it and it lies
-- within 64 bits with a sign.
use Rattle.std.specs.Prelude.{ℕ, ◌-◌, ◌^◌, Bool, false, if◌then◌else◌, nat_lt, Option, Some, None, ℤ, pos, negsuc, ◌+ℤ◌, ◌-ℤ◌, ◌*ℤ◌, neg_ℤ, int_lt, int_div, int_rem, bit_and, bit_or, bit_xor}
use Rattle.std.specs.Int.{int_shr}
use Rattle.c_arithmetic.specs.declared.types.IntType.{IntType}
use Rattle.c_arithmetic.specs.declared.value.Value.{Value}
use Rattle.c_arithmetic.specs.Types.{promoted, common}
use Rattle.c_arithmetic.specs.Conversion.{bits, modulus, holds, residue, represented, converted, kept}

-- What becomes of an exact result: without a sign it wraps (6.2.5p9), with one it must be a value of the type (6.5p5).
abbrev pub settled : IntType → ℤ → Option ℤ
settled t z = if t.signed then (if holds t z then kept z else None) else kept (pos (residue t z))

-- the operand, converted to the type of the operation
abbrev pub operand : IntType → Value → ℤ
operand t x = converted t x.number

-- ---- unary operators (6.5.3.3)

abbrev pub plus : Value → Option ℤ
plus x = kept (operand (promoted x.of) x)

abbrev pub negated : Value → Option ℤ
negated x = settled (promoted x.of) (neg_ℤ (operand (promoted x.of) x))

-- each bit is set that isn't set in the operand
abbrev pub complement : Value → Option ℤ
complement x = let t = promoted x.of in kept (represented t (modulus t - 1 - residue t x.number))

-- ---- arithmetic (6.5.5, 6.5.6)

abbrev pub sum : Value → Value → Option ℤ
sum x y = let t = common x.of y.of in settled t (operand t x +ℤ operand t y)

abbrev pub difference : Value → Value → Option ℤ
difference x y = let t = common x.of y.of in settled t (operand t x -ℤ operand t y)

abbrev pub product : Value → Value → Option ℤ
product x y = let t = common x.of y.of in settled t (operand t x *ℤ operand t y)

abbrev pub is_zero : ℤ → Bool
is_zero (pos n) = nat_lt n 1
is_zero (negsuc n) = false

-- toward zero; by 0 it is undefined
abbrev pub divided : IntType → ℤ → ℤ → Option ℤ
divided t z d = if is_zero d then None else settled t (int_div z d)

-- undefined where the quotient is (6.5.5p6)
abbrev pub left_over : IntType → ℤ → ℤ → Option ℤ
left_over t z d = if is_zero d then None else (if holds t (int_div z d) then kept (int_rem z d) else None)

abbrev pub quotient : Value → Value → Option ℤ
quotient x y = let t = common x.of y.of in divided t (operand t x) (operand t y)

abbrev pub remainder : Value → Value → Option ℤ
remainder x y = let t = common x.of y.of in left_over t (operand t x) (operand t y)

-- ---- shifts (6.5.7)

-- by how much, where it isn't negative and is below the width of the left operand
abbrev pub places : IntType → ℤ → Option ℕ
places t (pos n) = if nat_lt n (bits t) then Some n else None
places t (negsuc n) = None

-- E1 * 2^E2; of a negative number it is undefined
abbrev pub moved_left : IntType → ℤ → Option ℕ → Option ℤ
moved_left t z None = None
moved_left t z (Some n) = if int_lt z (pos 0) then None else settled t (z *ℤ pos (2 ^ n))

-- E1 / 2^E2 toward minus infinity: of a negative number C leaves it to the implementation
abbrev pub moved_right : ℤ → Option ℕ → Option ℤ
moved_right z None = None
moved_right z (Some n) = kept (int_shr z n)

abbrev pub shifted_left : Value → Value → Option ℤ
shifted_left x y = let t = promoted x.of in moved_left t (operand t x) (places t (operand (promoted y.of) y))

abbrev pub shifted_right : Value → Value → Option ℤ
shifted_right x y = let t = promoted x.of in moved_right (operand t x) (places t (operand (promoted y.of) y))

-- ---- bits (6.5.10 to 6.5.12): of the representations, bit by bit

abbrev pub both_bits : Value → Value → Option ℤ
both_bits x y = let t = common x.of y.of in kept (represented t (bit_and (residue t x.number) (residue t y.number)))

abbrev pub either_bits : Value → Value → Option ℤ
either_bits x y = let t = common x.of y.of in kept (represented t (bit_or (residue t x.number) (residue t y.number)))

abbrev pub unequal_bits : Value → Value → Option ℤ
unequal_bits x y = let t = common x.of y.of in kept (represented t (bit_xor (residue t x.number) (residue t y.number)))
