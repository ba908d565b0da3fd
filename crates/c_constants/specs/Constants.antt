-- Integer constant expressions (C11 6.6), by recursion on the tree: of those that are made of integer and character constants, of
-- names with a value and of operators on integers, the type and the value.
use Rattle.std.specs.Prelude.{◌+ℤ◌, if◌then◌else◌, Option, Some, None, ℤ, pos}
use Rattle.c_tree.specs.declared.tree.BinaryOp.{BinaryOp}
use Rattle.c_tree.specs.declared.tree.UnaryOp.{UnaryOp}
use Rattle.c_tree.specs.Tree.{Name, Expression, choose, binary, unary, name, integer, character, paren}
use Rattle.c_arithmetic.specs.declared.types.IntType.{IntType}
use Rattle.c_arithmetic.specs.declared.value.Value.{Value}
use Rattle.c_arithmetic.specs.Types.{int, promoted}
use Rattle.c_arithmetic.specs.Conversion.{holds}
use Rattle.c_arithmetic.specs.Literals.{integer_type, integer_number, character_number}
use Rattle.c_constants.specs.declared.meaning.Meaning.{Meaning}
use Rattle.c_constants.specs.Operators as made
use Rattle.c_constants.specs.Operators.{typed}

-- the value of each name that has one: an enumerator (6.4.4.3) or another constant of type int
abbrev pub Names : Type 0
Names = Name → Option ℤ

abbrev pub of_int : Option ℤ → Meaning
of_int n = record { of = int; number = n }

abbrev pub named : Option ℤ → Option Meaning
named None = None
named (Some z) = Some (of_int (Some z))

abbrev pub unary_of : UnaryOp → Option Meaning → Option Meaning
unary_of o None = None
unary_of o (Some x) = made.unary o x

abbrev pub binary_of : BinaryOp → Option Meaning → Option Meaning → Option Meaning
binary_of o (Some x) (Some y) = Some (made.binary o x y)
binary_of o _ _ = None

abbrev pub choice_of : Option Meaning → Option Meaning → Option Meaning → Option Meaning
choice_of (Some c) (Some x) (Some y) = Some (made.choice c x y)
choice_of _ _ _ = None

-- What the expression is, where it is made of these alone: its type, and its value where each evaluated part has one that C defines
-- and that lies within 64 bits with a sign.
abbrev pub meaning : Names → Expression → Option Meaning
meaning names (name n) = named (names n)
meaning names (integer n) = Some (record { of = integer_type n; number = integer_number n })
meaning names (character n) = Some (of_int (character_number n))
meaning names (paren x) = meaning names x
meaning names (unary o x) = unary_of o (meaning names x)
meaning names (binary o x y) = binary_of o (meaning names x) (meaning names y)
meaning names (choose c x y) = choice_of (meaning names c) (meaning names x) (meaning names y)
meaning names _ = None

abbrev pub number_of : Meaning → Option ℤ → Option Value
number_of m None = None
number_of m (Some z) = Some (typed m.of z)

abbrev pub value_of : Option Meaning → Option Value
value_of None = None
value_of (Some m) = number_of m m.number

-- the value of a constant expression
abbrev pub constant : Names → Expression → Option Value
constant names x = value_of (meaning names x)

-- the number of a value, where the type holds it
abbrev pub number_within : IntType → Option Value → Option ℤ
number_within t None = None
number_within t (Some v) = if holds t v.number then Some v.number else None

-- The value of an enumerator, which is one of int (6.7.2.2p2): that of its expression, else one more than that of the enumerator
-- before it, or 0 of the first (p3).
abbrev pub enumerator : Names → Option Expression → Option ℤ → Option ℤ
enumerator names (Some x) before = number_within int (constant names x)
enumerator names None None = Some (pos 0)
enumerator names None (Some z) = if holds int (z +ℤ pos 1) then Some (z +ℤ pos 1) else None

-- The value of a case in a switch on a value of the type (6.8.4.2p5): it is one of the promoted type.
abbrev pub case_value : Names → Expression → IntType → Option ℤ
case_value names x t = number_within (promoted t) (constant names x)
