-- The plain tree that a value of the program stands for.
use Rattle.std.specs.Prelude.{ℕ, List, [], ◌∷◌, Option, Some, None, Bool}
use Rattle.c_tree.specs.Tree as c
use Rattle.c_tree.specs.Tree.{Expression, Expressions, no_expressions, expressions, Sizes, no_sizes, open_size, size, TypeTree, typed, Specifiers, no_specifiers, specifiers, Specifier, Members, no_members, member, Declarators, no_declarators, declarators, Enumerators, no_enumerators, enumerator, enumerator_with, DeclaratorTree, Parameters, no_parameters, parameters, ParameterForm, BareTree}
use Rattle.c_tree.specs.declared.tree.Expr.{Expr, fold-Expr}
use Rattle.c_tree.specs.declared.tree.TypeName.{TypeName, fold-TypeName}
use Rattle.c_tree.specs.declared.tree.SpecWord.{SpecWord, fold-SpecWord}
use Rattle.c_tree.specs.declared.tree.Bare.TheOpen.{Bare-F, Declarator-F, Expr-F, ParamForm-F, SpecWord-F, Enumerator-F, Member-F, Parameter-F, Params-F, TypeName-F}
use Rattle.c_tree.specs.declared.tree.Declarator.{Declarator as Written, fold-Declarator}
use Rattle.c_tree.specs.declared.tree.Bare.{Bare, fold-Bare}
use Rattle.c_tree.specs.declared.tree.ParamForm.{ParamForm, fold-ParamForm}
use Rattle.c_tree.specs.declared.tree.Enumerator.{Enumerator, fold-Enumerator}
use Rattle.c_tree.specs.declared.tree.Member.{Member, fold-Member}
use Rattle.c_tree.specs.declared.tree.Parameter.{Parameter, fold-Parameter}
use Rattle.c_tree.specs.declared.tree.Params.{Params, fold-Params}

abbrev pub expressions_of : List Expression → Expressions
expressions_of [] = no_expressions
expressions_of (x ∷ xs) = expressions x (expressions_of xs)

abbrev pub sizes_of : List (Option Expression) → Sizes
sizes_of [] = no_sizes
sizes_of (None ∷ xs) = open_size (sizes_of xs)
sizes_of (Some x ∷ xs) = size x (sizes_of xs)

abbrev pub specifiers_of : List Specifier → Specifiers
specifiers_of [] = no_specifiers
specifiers_of (x ∷ xs) = specifiers x (specifiers_of xs)

abbrev pub declarators_of : List DeclaratorTree → Declarators
declarators_of [] = no_declarators
declarators_of (x ∷ xs) = declarators x (declarators_of xs)

abbrev pub members_of : List (Specifiers × Declarators) → Members
members_of [] = no_members
members_of (x ∷ xs) = member x.0 x.1 (members_of xs)

abbrev pub enumerators_of : List (List ℕ × Option Expression) → Enumerators
enumerators_of [] = no_enumerators
enumerators_of ((n, None) ∷ xs) = enumerator n (enumerators_of xs)
enumerators_of ((n, Some x) ∷ xs) = enumerator_with n x (enumerators_of xs)

abbrev pub parameters_of : List (Specifiers × ParameterForm) → Parameters
parameters_of [] = no_parameters
parameters_of (x ∷ xs) = parameters x.0 x.1 (parameters_of xs)

abbrev pub AtEnumerator : Type 0
AtEnumerator = List ℕ × Option Expression

abbrev pub AtMember : Type 0
AtMember = Specifiers × Declarators

abbrev pub AtParameter : Type 0
AtParameter = Specifiers × ParameterForm

abbrev pub AtParameters : Type 0
AtParameters = Parameters × Bool

abbrev pub bare_step : Bare-F BareTree DeclaratorTree Expression ParameterForm Specifier AtEnumerator AtMember AtParameter AtParameters TypeTree → BareTree
bare_step (Bare-F.Bare::Plain ss) = c.bare_stars ss
bare_step (Bare-F.Bare::Pointer ss qs ps) = c.bare_pointer ss qs ps.0 ps.1

abbrev pub declarator_step : Declarator-F BareTree DeclaratorTree Expression ParameterForm Specifier AtEnumerator AtMember AtParameter AtParameters TypeTree → DeclaratorTree
declarator_step (Declarator-F.Declarator::Plain ss n) = c.plain ss n
declarator_step (Declarator-F.Array ss n ds) = c.array ss n (sizes_of ds)
declarator_step (Declarator-F.Function ss n ps) = c.function ss n ps.0 ps.1
declarator_step (Declarator-F.Declarator::Pointer ss qs n ds ps) = c.pointer ss qs n (sizes_of ds) ps.0 ps.1

abbrev pub expression_step : Expr-F BareTree DeclaratorTree Expression ParameterForm Specifier AtEnumerator AtMember AtParameter AtParameters TypeTree → Expression
expression_step (Expr-F.Comma x y) = c.comma x y
expression_step (Expr-F.Assign o x y) = c.assign o x y
expression_step (Expr-F.Choose x y z) = c.choose x y z
expression_step (Expr-F.Binary o x y) = c.binary o x y
expression_step (Expr-F.Cast t x) = c.cast t x
expression_step (Expr-F.Unary o x) = c.unary o x
expression_step (Expr-F.Before o x) = c.before o x
expression_step (Expr-F.SizeOf x) = c.size_of x
expression_step (Expr-F.SizeOfType t) = c.size_of_type t
expression_step (Expr-F.Index x y) = c.index x y
expression_step (Expr-F.Call f xs) = c.call f (expressions_of xs)
expression_step (Expr-F.Dot x n) = c.dot x n
expression_step (Expr-F.Arrow x n) = c.arrow x n
expression_step (Expr-F.After o x) = c.after o x
expression_step (Expr-F.Name n) = c.name n
expression_step (Expr-F.Integer n) = c.integer n
expression_step (Expr-F.Character n) = c.character n
expression_step (Expr-F.Text ns) = c.text ns
expression_step (Expr-F.Paren x) = c.paren x

abbrev pub form_step : ParamForm-F BareTree DeclaratorTree Expression ParameterForm Specifier AtEnumerator AtMember AtParameter AtParameters TypeTree → ParameterForm
form_step (ParamForm-F.Named d) = c.named_form d
form_step (ParamForm-F.Bare b) = c.bare_form b

abbrev pub specifier_step : SpecWord-F BareTree DeclaratorTree Expression ParameterForm Specifier AtEnumerator AtMember AtParameter AtParameters TypeTree → Specifier
specifier_step SpecWord-F.Const = c.const_word
specifier_step SpecWord-F.Volatile = c.volatile_word
specifier_step SpecWord-F.Void = c.void_word
specifier_step SpecWord-F.Char = c.char_word
specifier_step SpecWord-F.Short = c.short_word
specifier_step SpecWord-F.Int = c.int_word
specifier_step SpecWord-F.Long = c.long_word
specifier_step SpecWord-F.Signed = c.signed_word
specifier_step SpecWord-F.Unsigned = c.unsigned_word
specifier_step (SpecWord-F.TypeName n) = c.type_name n
specifier_step (SpecWord-F.StructTag n) = c.struct_tag n
specifier_step (SpecWord-F.Struct n ms) = c.struct_of n (members_of ms)
specifier_step (SpecWord-F.EnumTag n) = c.enum_tag n
specifier_step (SpecWord-F.Enum n es last) = c.enum_of n (enumerators_of es) last

abbrev pub enumerator_step : Enumerator-F BareTree DeclaratorTree Expression ParameterForm Specifier AtEnumerator AtMember AtParameter AtParameters TypeTree → AtEnumerator
enumerator_step e = (e.name, e.value)

abbrev pub member_step : Member-F BareTree DeclaratorTree Expression ParameterForm Specifier AtEnumerator AtMember AtParameter AtParameters TypeTree → AtMember
member_step m = (specifiers_of m.specs, declarators_of m.names)

abbrev pub parameter_step : Parameter-F BareTree DeclaratorTree Expression ParameterForm Specifier AtEnumerator AtMember AtParameter AtParameters TypeTree → AtParameter
parameter_step p = (specifiers_of p.specs, p.form)

abbrev pub parameters_step : Params-F BareTree DeclaratorTree Expression ParameterForm Specifier AtEnumerator AtMember AtParameter AtParameters TypeTree → AtParameters
parameters_step ps = (parameters_of ps.items, ps.word)

abbrev pub type_step : TypeName-F BareTree DeclaratorTree Expression ParameterForm Specifier AtEnumerator AtMember AtParameter AtParameters TypeTree → TypeTree
type_step t = typed (specifiers_of t.specs) t.bare

abbrev pub view_expression : Expr → Expression
view_expression = fold-Expr BareTree DeclaratorTree Expression ParameterForm Specifier AtEnumerator AtMember AtParameter AtParameters TypeTree
    bare_step declarator_step expression_step form_step specifier_step enumerator_step member_step parameter_step parameters_step type_step

abbrev pub view_type : TypeName → TypeTree
view_type = fold-TypeName BareTree DeclaratorTree Expression ParameterForm Specifier AtEnumerator AtMember AtParameter AtParameters TypeTree
    bare_step declarator_step expression_step form_step specifier_step enumerator_step member_step parameter_step parameters_step type_step

abbrev pub view_specifier : SpecWord → Specifier
view_specifier = fold-SpecWord BareTree DeclaratorTree Expression ParameterForm Specifier AtEnumerator AtMember AtParameter AtParameters TypeTree
    bare_step declarator_step expression_step form_step specifier_step enumerator_step member_step parameter_step parameters_step type_step

abbrev pub view_declarator : Written → DeclaratorTree
view_declarator = fold-Declarator BareTree DeclaratorTree Expression ParameterForm Specifier AtEnumerator AtMember AtParameter AtParameters TypeTree
    bare_step declarator_step expression_step form_step specifier_step enumerator_step member_step parameter_step parameters_step type_step

abbrev pub view_bare : Bare → BareTree
view_bare = fold-Bare BareTree DeclaratorTree Expression ParameterForm Specifier AtEnumerator AtMember AtParameter AtParameters TypeTree
    bare_step declarator_step expression_step form_step specifier_step enumerator_step member_step parameter_step parameters_step type_step

abbrev pub view_form : ParamForm → ParameterForm
view_form = fold-ParamForm BareTree DeclaratorTree Expression ParameterForm Specifier AtEnumerator AtMember AtParameter AtParameters TypeTree
    bare_step declarator_step expression_step form_step specifier_step enumerator_step member_step parameter_step parameters_step type_step

abbrev pub view_enumerator : Enumerator → AtEnumerator
view_enumerator = fold-Enumerator BareTree DeclaratorTree Expression ParameterForm Specifier AtEnumerator AtMember AtParameter AtParameters TypeTree
    bare_step declarator_step expression_step form_step specifier_step enumerator_step member_step parameter_step parameters_step type_step

abbrev pub view_member : Member → AtMember
view_member = fold-Member BareTree DeclaratorTree Expression ParameterForm Specifier AtEnumerator AtMember AtParameter AtParameters TypeTree
    bare_step declarator_step expression_step form_step specifier_step enumerator_step member_step parameter_step parameters_step type_step

abbrev pub view_parameter : Parameter → AtParameter
view_parameter = fold-Parameter BareTree DeclaratorTree Expression ParameterForm Specifier AtEnumerator AtMember AtParameter AtParameters TypeTree
    bare_step declarator_step expression_step form_step specifier_step enumerator_step member_step parameter_step parameters_step type_step

abbrev pub view_parameters : Params → AtParameters
view_parameters = fold-Params BareTree DeclaratorTree Expression ParameterForm Specifier AtEnumerator AtMember AtParameter AtParameters TypeTree
    bare_step declarator_step expression_step form_step specifier_step enumerator_step member_step parameter_step parameters_step type_step
