-- The operators that give a value (C11 6.5.3 to 6.5.15, 6.5.17), and parentheses (6.5.1).
use Rattle.std.specs.Prelude.{Bool, ◌&&◌, ◌||◌, if◌then◌else◌}
use Rattle.c_kinds.specs.Kind.{Kind, void, int, pointer, function_of, array, decayed}
use Rattle.c_arithmetic.specs.Types.{promoted, common}
use Rattle.c_tree.specs.declared.tree.UnaryOp.{UnaryOp}
use Rattle.c_tree.specs.declared.tree.UnaryOp.TheVariants as u
use Rattle.c_tree.specs.declared.tree.BinaryOp.{BinaryOp}
use Rattle.c_tree.specs.declared.tree.BinaryOp.TheVariants as b
use Rattle.c_rules.specs.declared.misfit.MisfitKind.TheVariants.{KindMismatch, LeftOut, NotAssignable}
use Rattle.c_rules.specs.declared.form.Constant.{Constant}
use Rattle.c_rules.specs.declared.form.Designates.{Designates}
use Rattle.c_rules.specs.declared.form.Designates.TheVariants as d
use Rattle.c_rules.specs.Judgement.{Judgement, Operand, fits, fails, after_one, after_two, after_three, by_one, by_two, by_three}
use Rattle.c_rules.specs.Types.{of_type, type_of, plain_int, long, is_int, is_void, is_condition, is_void_pointer}
use Rattle.c_rules.specs.Values.{is_null, is_disposition, may_stand}

abbrev pub int_if : Bool → Judgement
int_if holds = if holds then fits plain_int else fails KindMismatch

-- ---- one operand

-- `&` (6.5.3.2p1): of errno it is left out; else of a function's plain name, which is a pointer already, or of an object's place
abbrev pub address : Designates → Kind → Judgement
address d.Errno k = fails LeftOut
address d.Object k = fits (pointer k)
address d.ConstObject k = fits (pointer k)
address d.Function k = fits k
address d.LibraryFunction k = fits k
address d.Nothing k = fails NotAssignable

-- `*` (6.5.3.2p2, p4): of a pointer to a function it is the function, of another what is pointed to, which isn't void
abbrev pub followed : Kind → Judgement
followed (pointer void) = fails KindMismatch
followed (pointer k) = fits k
followed (array void) = fails KindMismatch
followed (array k) = fits k
followed (function_of ks k) = fits (function_of ks k)
followed _ = fails KindMismatch

-- `+`, `-` and `~` (6.5.3.3p1 to p4)
abbrev pub promoted_int : Kind → Judgement
promoted_int (int w s) = fits (of_type (promoted (type_of w s)))
promoted_int _ = fails KindMismatch

abbrev pub unary_rule : UnaryOp → Designates → Kind → Judgement
unary_rule u.Address g k = address g k
unary_rule u.Follow g k = followed k
unary_rule u.Plus g k = promoted_int k
unary_rule u.Minus g k = promoted_int k
unary_rule u.BitNot g k = promoted_int k
unary_rule u.Not g k = int_if (is_condition k)

abbrev pub unary : UnaryOp → Operand → Judgement
unary o x = after_one x.judged (λ k. by_one k (unary_rule o x.form.designates))

-- a parenthesised expression (6.5.1p5)
abbrev pub paren : Operand → Judgement
paren x = after_one x.judged (λ k. by_one k fits)

-- ---- two operands

-- `* / % & ^ |` (6.5.5p2, 6.5.10p2, 6.5.11p2, 6.5.12p2)
abbrev pub arithmetic : Kind → Kind → Judgement
arithmetic (int w s) (int w' s') = fits (of_type (common (type_of w s) (type_of w' s')))
arithmetic _ _ = fails KindMismatch

-- `<< >>`: the type of the left operand, promoted (6.5.7p2, p3)
abbrev pub shifted : Kind → Kind → Judgement
shifted (int w s) (int w' s') = fits (of_type (promoted (type_of w s)))
shifted _ _ = fails KindMismatch

-- `+` (6.5.6p2, p8)
abbrev pub sum : Kind → Kind → Judgement
sum (pointer k) (int w s) = fits (pointer k)
sum (int w s) (pointer k) = fits (pointer k)
sum k l = arithmetic k l

-- `-` (6.5.6p3, p8, p9): of two pointers a ptrdiff_t, which is a long
abbrev pub difference : Kind → Kind → Judgement
difference (pointer k) (int w s) = fits (pointer k)
difference (pointer k) (pointer l) = fits long
difference k l = arithmetic k l

-- two operands, either of which may stand where the other is due, with arrays as pointers
abbrev pub are_compatible : Constant → Constant → Kind → Kind → Bool
are_compatible c e k l = may_stand c k (decayed l) || may_stand e l (decayed k)

-- `< > <= >=` and `== !=` (6.5.8p2, 6.5.9p2)
abbrev pub compared : Constant → Constant → Kind → Kind → Judgement
compared c e k l = int_if (is_condition k && is_condition l && are_compatible c e k l)

-- `&& ||` (6.5.13p2, 6.5.14p2)
abbrev pub logical : Kind → Kind → Judgement
logical k l = int_if (is_condition k && is_condition l)

abbrev pub binary_rule : BinaryOp → Constant → Constant → Kind → Kind → Judgement
binary_rule b.Or c e k l = logical k l
binary_rule b.And c e k l = logical k l
binary_rule b.BitOr c e k l = arithmetic k l
binary_rule b.BitXor c e k l = arithmetic k l
binary_rule b.BitAnd c e k l = arithmetic k l
binary_rule b.Equal c e k l = compared c e k l
binary_rule b.Unequal c e k l = compared c e k l
binary_rule b.Less c e k l = compared c e k l
binary_rule b.Greater c e k l = compared c e k l
binary_rule b.AtMost c e k l = compared c e k l
binary_rule b.AtLeast c e k l = compared c e k l
binary_rule b.ShiftLeft c e k l = shifted k l
binary_rule b.ShiftRight c e k l = shifted k l
binary_rule b.Add c e k l = sum (decayed k) (decayed l)
binary_rule b.Sub c e k l = difference (decayed k) (decayed l)
binary_rule b.Mul c e k l = arithmetic k l
binary_rule b.Div c e k l = arithmetic k l
binary_rule b.Rem c e k l = arithmetic k l

abbrev pub binary : BinaryOp → Operand → Operand → Judgement
binary o x y = after_two x.judged y.judged (λ k l. by_two k l (binary_rule o x.form.constant y.form.constant))

-- `,`: its right operand (6.5.17p2)
abbrev pub comma : Operand → Operand → Judgement
comma x y = after_two x.judged y.judged (λ k l. by_two k l (λ _ right. fits right))

-- ---- `?:` (6.5.15)

-- the kind of two pointers, or of operands that both fit otherwise: a pointer to void where either is one; else that of the second operand,
-- but of the third where the second is a constant for pointers (p6)
abbrev pub composite : Constant → Kind → Kind → Kind
composite c k l =
    if is_void_pointer k || is_void_pointer l then pointer void
    else (if is_null c || is_disposition c then l else k)

-- the second and the third operand (p3, p5)
abbrev pub branches : Constant → Constant → Kind → Kind → Judgement
branches c e k l =
    if is_int k && is_int l then arithmetic k l
    else (if is_void k && is_void l then fits void
    else (if are_compatible c e k l then fits (composite c (decayed k) (decayed l))
    else fails KindMismatch))

-- the first is a scalar (p2)
abbrev pub choose_rule : Constant → Constant → Kind → Kind → Kind → Judgement
choose_rule c e j k l = if is_condition j then branches c e k l else fails KindMismatch

abbrev pub choose : Operand → Operand → Operand → Judgement
choose w x y = after_three w.judged x.judged y.judged (λ j k l. by_three j k l (choose_rule x.form.constant y.form.constant))
