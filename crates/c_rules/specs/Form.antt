-- The forms of expressions: what a rule looks at in an operand besides its kind.
use Rattle.std.specs.Prelude.{ℕ, List, true, false, if◌then◌else◌, ◌==◌, Option, Some, ℤ, pos}
use Rattle.c_kinds.specs.Kind.{Kind, array, function_of}
use Rattle.c_arithmetic.specs.Literals.{integer_number}
use Rattle.c_tree.specs.declared.tree.UnaryOp.{UnaryOp}
use Rattle.c_tree.specs.declared.tree.UnaryOp.TheVariants.{Follow}
use Rattle.c_builtins.specs.declared.names.BuiltIn.{BuiltIn}
use Rattle.c_builtins.specs.declared.names.BuiltIn.TheVariants as built_in
use Rattle.c_rules.specs.declared.form.Form.{Form}
use Rattle.c_rules.specs.declared.form.Constant.{Constant}
use Rattle.c_rules.specs.declared.form.Constant.TheVariants.{Other, Zero, Null, Disposition, Initializer, Text}
use Rattle.c_rules.specs.declared.form.Designates.{Designates}
use Rattle.c_rules.specs.declared.form.Designates.TheVariants.{Nothing, Object, ConstObject, Errno, Function, LibraryFunction}
use Rattle.c_rules.specs.declared.names.Denoted.{Denoted}
use Rattle.c_rules.specs.declared.names.Denoted.TheVariants as denoted
use Rattle.c_rules.specs.Judgement.{Operand, kind}

-- such a constant, which designates nothing
abbrev pub constant_form : Constant → Form
constant_form c = record { constant = c; designates = Nothing; based = false }

-- none that a rule looks at: a call, a sum, an assignment, a cast and the like
abbrev pub plain_form : Form
plain_form = constant_form Other

-- It designates an object or a function (6.3.2.1), and may be indexed and stand before `.`.
abbrev pub place_form : Designates → Form
place_form d = record { constant = Other; designates = d; based = true }

-- an integer constant: the constant 0 is one of value 0, in any spelling (6.4.4.1)
abbrev pub zero_or_other : Option ℤ → Constant
zero_or_other (Some (pos n)) = if n == 0 then Zero else Other
zero_or_other _ = Other

abbrev pub integer_form : List ℕ → Form
integer_form z = constant_form (zero_or_other (integer_number z))

-- a string literal, which is an array of its own (6.4.5p6)
abbrev pub text_form : Form
text_form = record { constant = Text; designates = Object; based = true }

-- a built-in name
abbrev pub named_constant : Constant → Form
named_constant c = record { constant = c; designates = Nothing; based = true }

abbrev pub built_in_form : BuiltIn → Form
built_in_form built_in.Null = named_constant Null
built_in_form built_in.Default = named_constant Disposition
built_in_form built_in.Ignore = named_constant Disposition
built_in_form built_in.Failure = named_constant Disposition
built_in_form built_in.Initializer = named_constant Initializer
built_in_form built_in.Errno = place_form Errno
built_in_form _ = place_form Nothing

-- a name (6.5.1p2)
abbrev pub name_form : Denoted → Form
name_form (denoted.Object is_const defined) = place_form (if is_const then ConstObject else Object)
name_form (denoted.Function defined main) = place_form Function
name_form denoted.Library = place_form LibraryFunction
name_form (denoted.BuiltIn b) = built_in_form b
name_form _ = place_form Nothing

-- In parentheses an object's place stays one (6.5.1p5); a name is no plain name there, and a constant none that stands for a
-- pointer, an initialiser or a string.
abbrev pub unnamed : Designates → Designates
unnamed Function = Nothing
unnamed LibraryFunction = Nothing
unnamed d = d

abbrev pub paren_form : Form → Form
paren_form f = record { constant = Other; designates = unnamed f.designates; based = f.based }

-- a part of what is designated: it belongs to an object that is declared const, where that does
abbrev pub part_of : Designates → Designates
part_of ConstObject = ConstObject
part_of _ = Object

-- what a pointer or an array of this kind designates when it is followed: an element of the array, or an object somewhere
abbrev pub element_of : Option Kind → Designates → Designates
element_of (Some (array k)) d = part_of d
element_of _ d = Object

-- `*` (6.5.3.2p4): a function has no place
abbrev pub followed_place : Option Kind → Designates → Designates
followed_place (Some (function_of ks k)) d = Nothing
followed_place k d = element_of k d

abbrev pub unary_form : UnaryOp → Operand → Form
unary_form Follow x = place_form (followed_place (kind x.judged) x.form.designates)
unary_form _ x = plain_form

-- an index (6.5.2.1p2)
abbrev pub index_form : Operand → Form
index_form x = place_form (element_of (kind x.judged) x.form.designates)

-- `.` and `->` (6.5.2.3p3, p4); where an array stands before `->`, it is its first element
abbrev pub dot_form : Form → Form
dot_form f = place_form (part_of f.designates)

abbrev pub arrow_form : Operand → Form
arrow_form x = dot_form (index_form x)
