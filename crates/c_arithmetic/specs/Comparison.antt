-- The order of values, and truth (C11 6.5.8, 6.5.9, 6.5.13).
use Rattle.std.specs.Prelude.{Bool, false, not, if◌then◌else◌, ◌==◌, ℤ, pos, negsuc, int_lt}
use Rattle.c_arithmetic.specs.declared.value.Value.{Value}
use Rattle.c_arithmetic.specs.Types.{common}
use Rattle.c_arithmetic.specs.Operations.{operand, is_zero}

-- the left is less than the right, both converted to their common type
abbrev pub is_less : Value → Value → Bool
is_less x y = let t = common x.of y.of in int_lt (operand t x) (operand t y)

abbrev pub same : ℤ → ℤ → Bool
same (pos m) (pos n) = m == n
same (negsuc m) (negsuc n) = m == n
same _ _ = false

-- they are equal, both converted to their common type
abbrev pub is_equal : Value → Value → Bool
is_equal x y = let t = common x.of y.of in same (operand t x) (operand t y)

-- the int that tells whether something holds (6.5.8p6)
abbrev pub truth : Bool → ℤ
truth b = if b then pos 1 else pos 0

-- a number that compares unequal to 0 (6.5.13p3)
abbrev pub is_true : ℤ → Bool
is_true z = not (is_zero z)
