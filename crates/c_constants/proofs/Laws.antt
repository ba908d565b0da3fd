-- A value that an expression has is a value of its type.
use Rattle.std.proofs.Common.{ℕ, List, ◌<◌, Bool, true, false, not, ◌&&◌, ◌||◌, cond, Option, Some, None, ℤ, pos, refl, IfSome, IsTrue}
use Rattle.c_tree.specs.Tree.{Expression, choose, binary, unary, name, integer, character, paren}
use Rattle.c_tree.specs.declared.tree.BinaryOp.{BinaryOp}
use Rattle.c_tree.specs.declared.tree.BinaryOp.TheVariants as b
use Rattle.c_tree.specs.declared.tree.UnaryOp.{UnaryOp}
use Rattle.c_tree.specs.declared.tree.UnaryOp.TheVariants as u
use Rattle.c_arithmetic.specs.declared.types.IntType.{IntType}
use Rattle.c_arithmetic.specs.declared.value.Value.{Value}
use Rattle.c_arithmetic.specs.Types.{int, promoted, common}
use Rattle.c_arithmetic.specs.Conversion.{holds}
use Rattle.c_arithmetic.specs.Comparison.{is_less, is_equal, is_true}
use Rattle.c_arithmetic.proofs.Laws.{IsHeld, held-converted, held-plus, held-negated, held-complement, held-sum, held-difference, held-product, held-quotient, held-remainder, held-shifted_left, held-shifted_right, held-both_bits, held-either_bits, held-unequal_bits, held-truth, held-integer, held-character, common-wide}
use Rattle.c_constants.specs.declared.meaning.Meaning.{Meaning}
use Rattle.c_constants.specs.Operators as made
use Rattle.c_constants.specs.Operators.{typed, unary_number, binary_result, binary_type, decided, of_both, decided_or, number_in, chosen}
use Rattle.c_constants.specs.Constants.{Names, meaning, named, unary_of, binary_of, choice_of, constant, number_of, value_of}

-- its value, if it has one, is a value of its type
abbrev pub IsProper : Meaning → Type 0
IsProper m = IsHeld m.of m.number

held-plus_number : (t : IntType) (n : Option ℤ) → IsHeld (promoted t) (unary_number u.Plus t n)
held-plus_number t None = tt
held-plus_number t (Some z) = held-plus (typed t z)

held-minus_number : (t : IntType) (n : Option ℤ) → IsHeld (promoted t) (unary_number u.Minus t n)
held-minus_number t None = tt
held-minus_number t (Some z) = held-negated (typed t z)

held-not_bits : (t : IntType) (n : Option ℤ) → IsHeld (promoted t) (unary_number u.BitNot t n)
held-not_bits t None = tt
held-not_bits t (Some z) = held-complement (typed t z)

held-not : (t : IntType) (n : Option ℤ) → IsHeld int (unary_number u.Not t n)
held-not t None = tt
held-not t (Some z) = held-truth (not (is_true z))

proper-unary : (o : UnaryOp) (x : Meaning) → IfSome (made.unary o x) IsProper
proper-unary u.Address x = tt
proper-unary u.Follow x = tt
proper-unary u.Plus x = held-plus_number x.of x.number
proper-unary u.Minus x = held-minus_number x.of x.number
proper-unary u.BitNot x = held-not_bits x.of x.number
proper-unary u.Not x = held-not x.of x.number

-- an operator between two values gives a value of the type that it has between their types
pub held-binary_result : (o : BinaryOp) (x y : Value) → IsHeld (binary_type o x.of y.of) (binary_result o x y)
held-binary_result b.Or x y = held-truth (is_true x.number || is_true y.number)
held-binary_result b.And x y = held-truth (is_true x.number && is_true y.number)
held-binary_result b.BitOr x y = held-either_bits x y
held-binary_result b.BitXor x y = held-unequal_bits x y
held-binary_result b.BitAnd x y = held-both_bits x y
held-binary_result b.Equal x y = held-truth (is_equal x y)
held-binary_result b.Unequal x y = held-truth (not (is_equal x y))
held-binary_result b.Less x y = held-truth (is_less x y)
held-binary_result b.Greater x y = held-truth (is_less y x)
held-binary_result b.AtMost x y = held-truth (not (is_less y x))
held-binary_result b.AtLeast x y = held-truth (not (is_less x y))
held-binary_result b.ShiftLeft x y = held-shifted_left x y
held-binary_result b.ShiftRight x y = held-shifted_right x y
held-binary_result b.Add x y = held-sum x y
held-binary_result b.Sub x y = held-difference x y
held-binary_result b.Mul x y = held-product x y
held-binary_result b.Div x y = held-quotient x y
held-binary_result b.Rem x y = held-remainder x y

held_either : (c : Bool) (t : IntType) (m n : Option ℤ) → IsHeld t m → IsHeld t n → IsHeld t (cond c m n)
held_either true t m n p q = p
held_either false t m n p q = q

held-decided : (o : BinaryOp) (s t : IntType) (n : Option ℤ) → IsHeld (binary_type o s t) (decided o n)
held-decided b.And s t None = tt
held-decided b.And s t (Some z) = held_either (is_true z) int None (Some (pos 0)) tt refl
held-decided b.Or s t None = tt
held-decided b.Or s t (Some z) = held_either (is_true z) int (Some (pos 1)) None refl tt
held-decided _ s t n = tt

held-of_both : (o : BinaryOp) (x y : Meaning) (m n : Option ℤ) → IsHeld (binary_type o x.of y.of) (of_both o x y m n)
held-of_both o x y None n = tt
held-of_both o x y (Some v) None = tt
held-of_both o x y (Some v) (Some w) = held-binary_result o (typed x.of v) (typed y.of w)

held-decided_or : (t : IntType) (m n : Option ℤ) → IsHeld t m → IsHeld t n → IsHeld t (decided_or m n)
held-decided_or t None n p q = q
held-decided_or t (Some z) n p q = p

proper-binary : (o : BinaryOp) (x y : Meaning) → IsProper (made.binary o x y)
proper-binary o x y =
    held-decided_or (binary_type o x.of y.of) (decided o x.number) (of_both o x y x.number y.number)
    (held-decided o x.of y.of x.number) (held-of_both o x y x.number y.number)

held-number_in : (t : IntType) (x : Meaning) (n : Option ℤ) → 0 < t.width → IsHeld t (number_in t x n)
held-number_in t x None p = tt
held-number_in t x (Some z) p = held-converted t (typed x.of z) p

held-chosen : (t : IntType) (n : Option ℤ) (x y : Meaning) → 0 < t.width → IsHeld t (chosen t n x y)
held-chosen t None x y p = tt
held-chosen t (Some z) x y p =
    held_either (is_true z) t (number_in t x x.number) (number_in t y y.number) (held-number_in t x x.number p) (held-number_in t y y.number p)

proper-choice : (c x y : Meaning) → IsProper (made.choice c x y)
proper-choice c x y = held-chosen (common x.of y.of) c.number x y (common-wide x.of y.of)

proper-named : (n : Option ℤ) → IsHeld int n → IfSome (named n) IsProper
proper-named None p = tt
proper-named (Some z) p = p

proper-unary_of : (o : UnaryOp) (m : Option Meaning) → IfSome (unary_of o m) IsProper
proper-unary_of o None = tt
proper-unary_of o (Some x) = proper-unary o x

proper-binary_of : (o : BinaryOp) (m n : Option Meaning) → IfSome (binary_of o m n) IsProper
proper-binary_of o None n = tt
proper-binary_of o (Some x) None = tt
proper-binary_of o (Some x) (Some y) = proper-binary o x y

proper-choice_of : (l m n : Option Meaning) → IfSome (choice_of l m n) IsProper
proper-choice_of None m n = tt
proper-choice_of (Some c) None n = tt
proper-choice_of (Some c) (Some x) None = tt
proper-choice_of (Some c) (Some x) (Some y) = proper-choice c x y

-- where each name's value is one of int, so is each expression's one of its type
pub proper-meaning : (names : Names) → ((n : List ℕ) → IsHeld int (names n)) → (e : Expression) → IfSome (meaning names e) IsProper
proper-meaning names ints (name n) = proper-named (names n) (ints n)
proper-meaning names ints (integer n) = held-integer n
proper-meaning names ints (character n) = held-character n
proper-meaning names ints (paren x) = proper-meaning names ints x
proper-meaning names ints (unary o x) = proper-unary_of o (meaning names x)
proper-meaning names ints (binary o x y) = proper-binary_of o (meaning names x) (meaning names y)
proper-meaning names ints (choose c x y) = proper-choice_of (meaning names c) (meaning names x) (meaning names y)
proper-meaning names ints _ = tt

within_number : (m : Meaning) (n : Option ℤ) → IsHeld m.of n → IfSome (number_of m n) (λ v. IsTrue (holds v.of v.number))
within_number m None p = tt
within_number m (Some z) p = p

within_value : (o : Option Meaning) → IfSome o IsProper → IfSome (value_of o) (λ v. IsTrue (holds v.of v.number))
within_value None p = tt
within_value (Some m) p = within_number m m.number p

pub held-constant : (names : Names) → ((n : List ℕ) → IsHeld int (names n)) → (e : Expression) → IfSome (constant names e) (λ v. IsTrue (holds v.of v.number))
held-constant names ints e = within_value (meaning names e) (proper-meaning names ints e)
