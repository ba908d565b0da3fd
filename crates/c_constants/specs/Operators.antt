-- What the operators of a constant expression make of their operands (C11 6.5.3.3, 6.5.5 to 6.5.15): the type of the result, and its
-- value where it has one.
use Rattle.std.specs.Prelude.{not, ◌&&◌, ◌||◌, if◌then◌else◌, Option, Some, None, ℤ, pos}
use Rattle.c_tree.specs.declared.tree.BinaryOp.{BinaryOp}
use Rattle.c_tree.specs.declared.tree.BinaryOp.TheVariants as b
use Rattle.c_tree.specs.declared.tree.UnaryOp.{UnaryOp}
use Rattle.c_tree.specs.declared.tree.UnaryOp.TheVariants as u
use Rattle.c_arithmetic.specs.declared.types.IntType.{IntType}
use Rattle.c_arithmetic.specs.declared.value.Value.{Value}
use Rattle.c_arithmetic.specs.Types.{int, promoted, common}
use Rattle.c_arithmetic.specs.Conversion.{kept}
use Rattle.c_arithmetic.specs.Operations.{operand, plus, negated, complement, sum, difference, product, quotient, remainder, shifted_left, shifted_right, both_bits, either_bits, unequal_bits}
use Rattle.c_arithmetic.specs.Comparison.{is_less, is_equal, is_true, truth}
use Rattle.c_constants.specs.declared.meaning.Meaning.{Meaning}

-- the value with its type
abbrev pub typed : IntType → ℤ → Value
typed t z = record { number = z; of = t }

-- ---- unary operators (6.5.3.3)

-- of a value; that of a place, and of what a pointer points to, is no arithmetic
abbrev pub unary_result : UnaryOp → Value → Option ℤ
unary_result u.Plus x = plus x
unary_result u.Minus x = negated x
unary_result u.BitNot x = complement x
unary_result u.Not x = Some (truth (not (is_true x.number)))
unary_result _ x = None

abbrev pub unary_number : UnaryOp → IntType → Option ℤ → Option ℤ
unary_number o t None = None
unary_number o t (Some z) = unary_result o (typed t z)

abbrev pub unary : UnaryOp → Meaning → Option Meaning
unary u.Address m = None
unary u.Follow m = None
unary u.Not m = Some (record { of = int; number = unary_number u.Not m.of m.number })
unary o m = Some (record { of = promoted m.of; number = unary_number o m.of m.number })

-- ---- binary operators (6.5.5 to 6.5.12)

-- of two values
abbrev pub binary_result : BinaryOp → Value → Value → Option ℤ
binary_result b.Or x y = Some (truth (is_true x.number || is_true y.number))
binary_result b.And x y = Some (truth (is_true x.number && is_true y.number))
binary_result b.BitOr x y = either_bits x y
binary_result b.BitXor x y = unequal_bits x y
binary_result b.BitAnd x y = both_bits x y
binary_result b.Equal x y = Some (truth (is_equal x y))
binary_result b.Unequal x y = Some (truth (not (is_equal x y)))
binary_result b.Less x y = Some (truth (is_less x y))
binary_result b.Greater x y = Some (truth (is_less y x))
binary_result b.AtMost x y = Some (truth (not (is_less y x)))
binary_result b.AtLeast x y = Some (truth (not (is_less x y)))
binary_result b.ShiftLeft x y = shifted_left x y
binary_result b.ShiftRight x y = shifted_right x y
binary_result b.Add x y = sum x y
binary_result b.Sub x y = difference x y
binary_result b.Mul x y = product x y
binary_result b.Div x y = quotient x y
binary_result b.Rem x y = remainder x y

-- The type of the result: int of what tells true from false, that of the promoted left operand for a shift (6.5.7p3), else the
-- common type.
abbrev pub binary_type : BinaryOp → IntType → IntType → IntType
binary_type b.Or s t = int
binary_type b.And s t = int
binary_type b.Equal s t = int
binary_type b.Unequal s t = int
binary_type b.Less s t = int
binary_type b.Greater s t = int
binary_type b.AtMost s t = int
binary_type b.AtLeast s t = int
binary_type b.ShiftLeft s t = promoted s
binary_type b.ShiftRight s t = promoted s
binary_type _ s t = common s t

-- What the left operand decides alone: behind it that of `&&` isn't evaluated where it is 0 (6.5.13p4), that of `||` where it isn't
-- (6.5.14p4).
abbrev pub decided : BinaryOp → Option ℤ → Option ℤ
decided b.And (Some z) = if is_true z then None else Some (pos 0)
decided b.Or (Some z) = if is_true z then Some (pos 1) else None
decided _ _ = None

-- else both have to have a value
abbrev pub of_both : BinaryOp → Meaning → Meaning → Option ℤ → Option ℤ → Option ℤ
of_both o x y (Some m) (Some n) = binary_result o (typed x.of m) (typed y.of n)
of_both o x y _ _ = None

abbrev pub decided_or : Option ℤ → Option ℤ → Option ℤ
decided_or (Some z) n = Some z
decided_or None n = n

abbrev pub binary : BinaryOp → Meaning → Meaning → Meaning
binary o x y = record { of = binary_type o x.of y.of; number = decided_or (decided o x.number) (of_both o x y x.number y.number) }

-- ---- the conditional operator (6.5.15)

-- the number in another type
abbrev pub number_in : IntType → Meaning → Option ℤ → Option ℤ
number_in t m None = None
number_in t m (Some z) = kept (operand t (typed m.of z))

-- of the second and the third operand only one is evaluated (p4)
abbrev pub chosen : IntType → Option ℤ → Meaning → Meaning → Option ℤ
chosen t None x y = None
chosen t (Some z) x y = if is_true z then number_in t x x.number else number_in t y y.number

-- the result has the common type of the two (p5)
abbrev pub choice : Meaning → Meaning → Meaning → Meaning
choice c x y = record { of = common x.of y.of; number = chosen (common x.of y.of) c.number x y }
