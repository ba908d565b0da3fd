-- What the values of the program stand for, variant by variant.
use Rattle.std.proofs.Common.{◌≡◌, ℕ, List, [], ◌∷◌, Option, None, Some, Bool, map, refl, ap, sym, ◌∙◌}
use Rattle.std.specs.Prelude.{option_map}
use Rattle.base_core.specs.declared.lexeme.Lexeme.{Lexeme}
use Rattle.c_tree.specs.Tree as c
use Rattle.c_tree.specs.Tree.{Expression, ParameterForm, Specifier, DeclaratorTree, BareTree, TypeTree}
use Rattle.c_tree.specs.View.{view_expression, view_type, view_specifier, view_declarator, view_bare, view_form, view_enumerator, view_enumerator, view_member, view_parameter, view_parameters, expressions_of, sizes_of, specifiers_of, members_of, declarators_of, enumerators_of, parameters_of, AtEnumerator, AtMember, AtParameter, AtParameters, bare_step, declarator_step, expression_step, form_step, specifier_step, enumerator_step, member_step, parameter_step, parameters_step, type_step}
use Rattle.c_tree.specs.declared.tree.Bare.TheOpen.{Bare-F, Declarator-F, Expr-F, ParamForm-F, SpecWord-F}
use Rattle.c_tree.specs.declared.tree.Qual.{Qual}
use Rattle.c_tree.specs.declared.tree.AssignOp.{AssignOp}
use Rattle.c_tree.specs.declared.tree.BinaryOp.{BinaryOp}
use Rattle.c_tree.specs.declared.tree.UnaryOp.{UnaryOp}
use Rattle.c_tree.specs.declared.tree.StepOp.{StepOp}
use Rattle.c_tree.specs.declared.tree.Expr.{Expr, fold-roll-Expr}
use Rattle.c_tree.specs.declared.tree.Expr.TheVariants as e
use Rattle.c_tree.specs.declared.tree.Declarator.{Declarator, fold-roll-Declarator}
use Rattle.c_tree.specs.declared.tree.Declarator.TheVariants as d
use Rattle.c_tree.specs.declared.tree.Bare.{Bare, fold-roll-Bare}
use Rattle.c_tree.specs.declared.tree.Bare.TheVariants as b
use Rattle.c_tree.specs.declared.tree.ParamForm.{fold-roll-ParamForm}
use Rattle.c_tree.specs.declared.tree.ParamForm.TheVariants as p
use Rattle.c_tree.specs.declared.tree.SpecWord.{fold-roll-SpecWord}
use Rattle.c_tree.specs.declared.tree.SpecWord.TheVariants as w
use Rattle.c_tree.specs.declared.tree.Params.{Params, out-Params, fold_out-Params}
use Rattle.c_tree.specs.declared.tree.Parameter.{Parameter, out-Parameter, fold_out-Parameter}
use Rattle.c_tree.specs.declared.tree.Member.{Member, out-Member, fold_out-Member}
use Rattle.c_tree.specs.declared.tree.Enumerator.{Enumerator, out-Enumerator, fold_out-Enumerator}
use Rattle.c_tree.specs.declared.tree.TypeName.{TypeName, out-TypeName, fold_out-TypeName}
use Rattle.c_tree.specs.declared.tree.Bare.TheShapes.{former-Enumerator-value, former-Declarator-Array-2-at-1}

-- an optional expression of a list of sizes
abbrev optional_size : Option Expr → Option Expression
optional_size = (former-Declarator-Array-2-at-1).map Expr Expression view_expression

sizes_map : (xs : List (Option Expr)) → map optional_size xs ≡ map (option_map view_expression) xs
sizes_map [] = refl
sizes_map (None ∷ xs) = ap (λ ys. None ∷ ys) (sizes_map xs)
sizes_map (Some x ∷ xs) = ap (λ ys. Some (view_expression x) ∷ ys) (sizes_map xs)

pub view_Expr_Comma : (x1 : Expr) (x2 : Expr) → view_expression (e.Comma x1 x2) ≡ c.comma (view_expression x1) (view_expression x2)
view_Expr_Comma x1 x2 =
    ap view_expression (sym (e.rolls-Comma x1 x2))
    ∙ fold-roll-Expr BareTree DeclaratorTree Expression ParameterForm Specifier AtEnumerator AtMember AtParameter AtParameters TypeTree
    bare_step declarator_step expression_step form_step specifier_step enumerator_step member_step parameter_step parameters_step type_step (Expr-F.Comma x1 x2)

pub view_Expr_Assign : (x1 : AssignOp) (x2 : Expr) (x3 : Expr) → view_expression (e.Assign x1 x2 x3) ≡ c.assign x1 (view_expression x2) (view_expression x3)
view_Expr_Assign x1 x2 x3 =
    ap view_expression (sym (e.rolls-Assign x1 x2 x3))
    ∙ fold-roll-Expr BareTree DeclaratorTree Expression ParameterForm Specifier AtEnumerator AtMember AtParameter AtParameters TypeTree
    bare_step declarator_step expression_step form_step specifier_step enumerator_step member_step parameter_step parameters_step type_step (Expr-F.Assign x1 x2 x3)

pub view_Expr_Choose : (x1 : Expr) (x2 : Expr) (x3 : Expr) → view_expression (e.Choose x1 x2 x3) ≡ c.choose (view_expression x1) (view_expression x2) (view_expression x3)
view_Expr_Choose x1 x2 x3 =
    ap view_expression (sym (e.rolls-Choose x1 x2 x3))
    ∙ fold-roll-Expr BareTree DeclaratorTree Expression ParameterForm Specifier AtEnumerator AtMember AtParameter AtParameters TypeTree
    bare_step declarator_step expression_step form_step specifier_step enumerator_step member_step parameter_step parameters_step type_step (Expr-F.Choose x1 x2 x3)

pub view_Expr_Binary : (x1 : BinaryOp) (x2 : Expr) (x3 : Expr) → view_expression (e.Binary x1 x2 x3) ≡ c.binary x1 (view_expression x2) (view_expression x3)
view_Expr_Binary x1 x2 x3 =
    ap view_expression (sym (e.rolls-Binary x1 x2 x3))
    ∙ fold-roll-Expr BareTree DeclaratorTree Expression ParameterForm Specifier AtEnumerator AtMember AtParameter AtParameters TypeTree
    bare_step declarator_step expression_step form_step specifier_step enumerator_step member_step parameter_step parameters_step type_step (Expr-F.Binary x1 x2 x3)

pub view_Expr_Cast : (x1 : TypeName) (x2 : Expr) → view_expression (e.Cast x1 x2) ≡ c.cast (view_type x1) (view_expression x2)
view_Expr_Cast x1 x2 =
    ap view_expression (sym (e.rolls-Cast x1 x2))
    ∙ fold-roll-Expr BareTree DeclaratorTree Expression ParameterForm Specifier AtEnumerator AtMember AtParameter AtParameters TypeTree
    bare_step declarator_step expression_step form_step specifier_step enumerator_step member_step parameter_step parameters_step type_step (Expr-F.Cast x1 x2)

pub view_Expr_Unary : (x1 : UnaryOp) (x2 : Expr) → view_expression (e.Unary x1 x2) ≡ c.unary x1 (view_expression x2)
view_Expr_Unary x1 x2 =
    ap view_expression (sym (e.rolls-Unary x1 x2))
    ∙ fold-roll-Expr BareTree DeclaratorTree Expression ParameterForm Specifier AtEnumerator AtMember AtParameter AtParameters TypeTree
    bare_step declarator_step expression_step form_step specifier_step enumerator_step member_step parameter_step parameters_step type_step (Expr-F.Unary x1 x2)

pub view_Expr_Before : (x1 : StepOp) (x2 : Expr) → view_expression (e.Before x1 x2) ≡ c.before x1 (view_expression x2)
view_Expr_Before x1 x2 =
    ap view_expression (sym (e.rolls-Before x1 x2))
    ∙ fold-roll-Expr BareTree DeclaratorTree Expression ParameterForm Specifier AtEnumerator AtMember AtParameter AtParameters TypeTree
    bare_step declarator_step expression_step form_step specifier_step enumerator_step member_step parameter_step parameters_step type_step (Expr-F.Before x1 x2)

pub view_Expr_SizeOf : (x1 : Expr) → view_expression (e.SizeOf x1) ≡ c.size_of (view_expression x1)
view_Expr_SizeOf x1 =
    ap view_expression (sym (e.rolls-SizeOf x1))
    ∙ fold-roll-Expr BareTree DeclaratorTree Expression ParameterForm Specifier AtEnumerator AtMember AtParameter AtParameters TypeTree
    bare_step declarator_step expression_step form_step specifier_step enumerator_step member_step parameter_step parameters_step type_step (Expr-F.SizeOf x1)

pub view_Expr_SizeOfType : (x1 : TypeName) → view_expression (e.SizeOfType x1) ≡ c.size_of_type (view_type x1)
view_Expr_SizeOfType x1 =
    ap view_expression (sym (e.rolls-SizeOfType x1))
    ∙ fold-roll-Expr BareTree DeclaratorTree Expression ParameterForm Specifier AtEnumerator AtMember AtParameter AtParameters TypeTree
    bare_step declarator_step expression_step form_step specifier_step enumerator_step member_step parameter_step parameters_step type_step (Expr-F.SizeOfType x1)

pub view_Expr_Index : (x1 : Expr) (x2 : Expr) → view_expression (e.Index x1 x2) ≡ c.index (view_expression x1) (view_expression x2)
view_Expr_Index x1 x2 =
    ap view_expression (sym (e.rolls-Index x1 x2))
    ∙ fold-roll-Expr BareTree DeclaratorTree Expression ParameterForm Specifier AtEnumerator AtMember AtParameter AtParameters TypeTree
    bare_step declarator_step expression_step form_step specifier_step enumerator_step member_step parameter_step parameters_step type_step (Expr-F.Index x1 x2)

pub view_Expr_Call : (x1 : Expr) (x2 : List Expr) → view_expression (e.Call x1 x2) ≡ c.call (view_expression x1) (expressions_of (map view_expression x2))
view_Expr_Call x1 x2 =
    ap view_expression (sym (e.rolls-Call x1 x2))
    ∙ fold-roll-Expr BareTree DeclaratorTree Expression ParameterForm Specifier AtEnumerator AtMember AtParameter AtParameters TypeTree
    bare_step declarator_step expression_step form_step specifier_step enumerator_step member_step parameter_step parameters_step type_step (Expr-F.Call x1 x2)

pub view_Expr_Dot : (x1 : Expr) (x2 : Lexeme) → view_expression (e.Dot x1 x2) ≡ c.dot (view_expression x1) x2
view_Expr_Dot x1 x2 =
    ap view_expression (sym (e.rolls-Dot x1 x2))
    ∙ fold-roll-Expr BareTree DeclaratorTree Expression ParameterForm Specifier AtEnumerator AtMember AtParameter AtParameters TypeTree
    bare_step declarator_step expression_step form_step specifier_step enumerator_step member_step parameter_step parameters_step type_step (Expr-F.Dot x1 x2)

pub view_Expr_Arrow : (x1 : Expr) (x2 : Lexeme) → view_expression (e.Arrow x1 x2) ≡ c.arrow (view_expression x1) x2
view_Expr_Arrow x1 x2 =
    ap view_expression (sym (e.rolls-Arrow x1 x2))
    ∙ fold-roll-Expr BareTree DeclaratorTree Expression ParameterForm Specifier AtEnumerator AtMember AtParameter AtParameters TypeTree
    bare_step declarator_step expression_step form_step specifier_step enumerator_step member_step parameter_step parameters_step type_step (Expr-F.Arrow x1 x2)

pub view_Expr_After : (x1 : StepOp) (x2 : Expr) → view_expression (e.After x1 x2) ≡ c.after x1 (view_expression x2)
view_Expr_After x1 x2 =
    ap view_expression (sym (e.rolls-After x1 x2))
    ∙ fold-roll-Expr BareTree DeclaratorTree Expression ParameterForm Specifier AtEnumerator AtMember AtParameter AtParameters TypeTree
    bare_step declarator_step expression_step form_step specifier_step enumerator_step member_step parameter_step parameters_step type_step (Expr-F.After x1 x2)

pub view_Expr_Name : (x1 : Lexeme) → view_expression (e.Name x1) ≡ c.name x1
view_Expr_Name x1 =
    ap view_expression (sym (e.rolls-Name x1))
    ∙ fold-roll-Expr BareTree DeclaratorTree Expression ParameterForm Specifier AtEnumerator AtMember AtParameter AtParameters TypeTree
    bare_step declarator_step expression_step form_step specifier_step enumerator_step member_step parameter_step parameters_step type_step (Expr-F.Name x1)

pub view_Expr_Integer : (x1 : Lexeme) → view_expression (e.Integer x1) ≡ c.integer x1
view_Expr_Integer x1 =
    ap view_expression (sym (e.rolls-Integer x1))
    ∙ fold-roll-Expr BareTree DeclaratorTree Expression ParameterForm Specifier AtEnumerator AtMember AtParameter AtParameters TypeTree
    bare_step declarator_step expression_step form_step specifier_step enumerator_step member_step parameter_step parameters_step type_step (Expr-F.Integer x1)

pub view_Expr_Character : (x1 : Lexeme) → view_expression (e.Character x1) ≡ c.character x1
view_Expr_Character x1 =
    ap view_expression (sym (e.rolls-Character x1))
    ∙ fold-roll-Expr BareTree DeclaratorTree Expression ParameterForm Specifier AtEnumerator AtMember AtParameter AtParameters TypeTree
    bare_step declarator_step expression_step form_step specifier_step enumerator_step member_step parameter_step parameters_step type_step (Expr-F.Character x1)

pub view_Expr_Text : (x1 : List Lexeme) → view_expression (e.Text x1) ≡ c.text x1
view_Expr_Text x1 =
    ap view_expression (sym (e.rolls-Text x1))
    ∙ fold-roll-Expr BareTree DeclaratorTree Expression ParameterForm Specifier AtEnumerator AtMember AtParameter AtParameters TypeTree
    bare_step declarator_step expression_step form_step specifier_step enumerator_step member_step parameter_step parameters_step type_step (Expr-F.Text x1)

pub view_Expr_Paren : (x1 : Expr) → view_expression (e.Paren x1) ≡ c.paren (view_expression x1)
view_Expr_Paren x1 =
    ap view_expression (sym (e.rolls-Paren x1))
    ∙ fold-roll-Expr BareTree DeclaratorTree Expression ParameterForm Specifier AtEnumerator AtMember AtParameter AtParameters TypeTree
    bare_step declarator_step expression_step form_step specifier_step enumerator_step member_step parameter_step parameters_step type_step (Expr-F.Paren x1)

pub view_Declarator_Plain : (x1 : List (List Qual)) (x2 : Lexeme) → view_declarator (d.Plain x1 x2) ≡ c.plain x1 x2
view_Declarator_Plain x1 x2 =
    ap view_declarator (sym (d.rolls-Plain x1 x2))
    ∙ fold-roll-Declarator BareTree DeclaratorTree Expression ParameterForm Specifier AtEnumerator AtMember AtParameter AtParameters TypeTree
    bare_step declarator_step expression_step form_step specifier_step enumerator_step member_step parameter_step parameters_step type_step (Declarator-F.Declarator::Plain x1 x2)

pub view_Declarator_Array : (x1 : List (List Qual)) (x2 : Lexeme) (x3 : List (Option Expr)) → view_declarator (d.Array x1 x2 x3) ≡ c.array x1 x2 (sizes_of (map (option_map view_expression) x3))
view_Declarator_Array x1 x2 x3 =
    ap view_declarator (sym (d.rolls-Array x1 x2 x3))
    ∙ fold-roll-Declarator BareTree DeclaratorTree Expression ParameterForm Specifier AtEnumerator AtMember AtParameter AtParameters TypeTree
    bare_step declarator_step expression_step form_step specifier_step enumerator_step member_step parameter_step parameters_step type_step (Declarator-F.Array x1 x2 x3)
    ∙ ap (λ sizes. c.array x1 x2 (sizes_of sizes)) (sizes_map x3)

pub view_Declarator_Function : (x1 : List (List Qual)) (x2 : Lexeme) (x3 : Params) → view_declarator (d.Function x1 x2 x3) ≡ c.function x1 x2 (view_parameters x3).0 (view_parameters x3).1
view_Declarator_Function x1 x2 x3 =
    ap view_declarator (sym (d.rolls-Function x1 x2 x3))
    ∙ fold-roll-Declarator BareTree DeclaratorTree Expression ParameterForm Specifier AtEnumerator AtMember AtParameter AtParameters TypeTree
    bare_step declarator_step expression_step form_step specifier_step enumerator_step member_step parameter_step parameters_step type_step (Declarator-F.Function x1 x2 x3)

pub view_Declarator_Pointer : (x1 : List (List Qual)) (x2 : List Qual) (x3 : Lexeme) (x4 : List (Option Expr)) (x5 : Params) → view_declarator (d.Pointer x1 x2 x3 x4 x5) ≡ c.pointer x1 x2 x3 (sizes_of (map (option_map view_expression) x4)) (view_parameters x5).0 (view_parameters x5).1
view_Declarator_Pointer x1 x2 x3 x4 x5 =
    ap view_declarator (sym (d.rolls-Pointer x1 x2 x3 x4 x5))
    ∙ fold-roll-Declarator BareTree DeclaratorTree Expression ParameterForm Specifier AtEnumerator AtMember AtParameter AtParameters TypeTree
    bare_step declarator_step expression_step form_step specifier_step enumerator_step member_step parameter_step parameters_step type_step (Declarator-F.Declarator::Pointer x1 x2 x3 x4 x5)
    ∙ ap (λ sizes. c.pointer x1 x2 x3 (sizes_of sizes) (view_parameters x5).0 (view_parameters x5).1) (sizes_map x4)

pub view_Bare_Plain : (x1 : List (List Qual)) → view_bare (b.Plain x1) ≡ c.bare_stars x1
view_Bare_Plain x1 =
    ap view_bare (sym (b.rolls-Plain x1))
    ∙ fold-roll-Bare BareTree DeclaratorTree Expression ParameterForm Specifier AtEnumerator AtMember AtParameter AtParameters TypeTree
    bare_step declarator_step expression_step form_step specifier_step enumerator_step member_step parameter_step parameters_step type_step (Bare-F.Bare::Plain x1)

pub view_Bare_Pointer : (x1 : List (List Qual)) (x2 : List Qual) (x3 : Params) → view_bare (b.Pointer x1 x2 x3) ≡ c.bare_pointer x1 x2 (view_parameters x3).0 (view_parameters x3).1
view_Bare_Pointer x1 x2 x3 =
    ap view_bare (sym (b.rolls-Pointer x1 x2 x3))
    ∙ fold-roll-Bare BareTree DeclaratorTree Expression ParameterForm Specifier AtEnumerator AtMember AtParameter AtParameters TypeTree
    bare_step declarator_step expression_step form_step specifier_step enumerator_step member_step parameter_step parameters_step type_step (Bare-F.Bare::Pointer x1 x2 x3)

pub view_ParamForm_Named : (x1 : Declarator) → view_form (p.Named x1) ≡ c.named_form (view_declarator x1)
view_ParamForm_Named x1 =
    ap view_form (sym (p.rolls-Named x1))
    ∙ fold-roll-ParamForm BareTree DeclaratorTree Expression ParameterForm Specifier AtEnumerator AtMember AtParameter AtParameters TypeTree
    bare_step declarator_step expression_step form_step specifier_step enumerator_step member_step parameter_step parameters_step type_step (ParamForm-F.Named x1)

pub view_ParamForm_Bare : (x1 : Bare) → view_form (p.Bare x1) ≡ c.bare_form (view_bare x1)
view_ParamForm_Bare x1 =
    ap view_form (sym (p.rolls-Bare x1))
    ∙ fold-roll-ParamForm BareTree DeclaratorTree Expression ParameterForm Specifier AtEnumerator AtMember AtParameter AtParameters TypeTree
    bare_step declarator_step expression_step form_step specifier_step enumerator_step member_step parameter_step parameters_step type_step (ParamForm-F.Bare x1)

pub view_SpecWord_Const : view_specifier w.Const ≡ c.const_word
view_SpecWord_Const =
    ap view_specifier (sym w.rolls-Const)
    ∙ fold-roll-SpecWord BareTree DeclaratorTree Expression ParameterForm Specifier AtEnumerator AtMember AtParameter AtParameters TypeTree
    bare_step declarator_step expression_step form_step specifier_step enumerator_step member_step parameter_step parameters_step type_step SpecWord-F.Const

pub view_SpecWord_Volatile : view_specifier w.Volatile ≡ c.volatile_word
view_SpecWord_Volatile =
    ap view_specifier (sym w.rolls-Volatile)
    ∙ fold-roll-SpecWord BareTree DeclaratorTree Expression ParameterForm Specifier AtEnumerator AtMember AtParameter AtParameters TypeTree
    bare_step declarator_step expression_step form_step specifier_step enumerator_step member_step parameter_step parameters_step type_step SpecWord-F.Volatile

pub view_SpecWord_Void : view_specifier w.Void ≡ c.void_word
view_SpecWord_Void =
    ap view_specifier (sym w.rolls-Void)
    ∙ fold-roll-SpecWord BareTree DeclaratorTree Expression ParameterForm Specifier AtEnumerator AtMember AtParameter AtParameters TypeTree
    bare_step declarator_step expression_step form_step specifier_step enumerator_step member_step parameter_step parameters_step type_step SpecWord-F.Void

pub view_SpecWord_Char : view_specifier w.Char ≡ c.char_word
view_SpecWord_Char =
    ap view_specifier (sym w.rolls-Char)
    ∙ fold-roll-SpecWord BareTree DeclaratorTree Expression ParameterForm Specifier AtEnumerator AtMember AtParameter AtParameters TypeTree
    bare_step declarator_step expression_step form_step specifier_step enumerator_step member_step parameter_step parameters_step type_step SpecWord-F.Char

pub view_SpecWord_Short : view_specifier w.Short ≡ c.short_word
view_SpecWord_Short =
    ap view_specifier (sym w.rolls-Short)
    ∙ fold-roll-SpecWord BareTree DeclaratorTree Expression ParameterForm Specifier AtEnumerator AtMember AtParameter AtParameters TypeTree
    bare_step declarator_step expression_step form_step specifier_step enumerator_step member_step parameter_step parameters_step type_step SpecWord-F.Short

pub view_SpecWord_Int : view_specifier w.Int ≡ c.int_word
view_SpecWord_Int =
    ap view_specifier (sym w.rolls-Int)
    ∙ fold-roll-SpecWord BareTree DeclaratorTree Expression ParameterForm Specifier AtEnumerator AtMember AtParameter AtParameters TypeTree
    bare_step declarator_step expression_step form_step specifier_step enumerator_step member_step parameter_step parameters_step type_step SpecWord-F.Int

pub view_SpecWord_Long : view_specifier w.Long ≡ c.long_word
view_SpecWord_Long =
    ap view_specifier (sym w.rolls-Long)
    ∙ fold-roll-SpecWord BareTree DeclaratorTree Expression ParameterForm Specifier AtEnumerator AtMember AtParameter AtParameters TypeTree
    bare_step declarator_step expression_step form_step specifier_step enumerator_step member_step parameter_step parameters_step type_step SpecWord-F.Long

pub view_SpecWord_Signed : view_specifier w.Signed ≡ c.signed_word
view_SpecWord_Signed =
    ap view_specifier (sym w.rolls-Signed)
    ∙ fold-roll-SpecWord BareTree DeclaratorTree Expression ParameterForm Specifier AtEnumerator AtMember AtParameter AtParameters TypeTree
    bare_step declarator_step expression_step form_step specifier_step enumerator_step member_step parameter_step parameters_step type_step SpecWord-F.Signed

pub view_SpecWord_Unsigned : view_specifier w.Unsigned ≡ c.unsigned_word
view_SpecWord_Unsigned =
    ap view_specifier (sym w.rolls-Unsigned)
    ∙ fold-roll-SpecWord BareTree DeclaratorTree Expression ParameterForm Specifier AtEnumerator AtMember AtParameter AtParameters TypeTree
    bare_step declarator_step expression_step form_step specifier_step enumerator_step member_step parameter_step parameters_step type_step SpecWord-F.Unsigned

pub view_SpecWord_TypeName : (x1 : Lexeme) → view_specifier (w.TypeName x1) ≡ c.type_name x1
view_SpecWord_TypeName x1 =
    ap view_specifier (sym (w.rolls-TypeName x1))
    ∙ fold-roll-SpecWord BareTree DeclaratorTree Expression ParameterForm Specifier AtEnumerator AtMember AtParameter AtParameters TypeTree
    bare_step declarator_step expression_step form_step specifier_step enumerator_step member_step parameter_step parameters_step type_step (SpecWord-F.TypeName x1)

pub view_SpecWord_StructTag : (x1 : Lexeme) → view_specifier (w.StructTag x1) ≡ c.struct_tag x1
view_SpecWord_StructTag x1 =
    ap view_specifier (sym (w.rolls-StructTag x1))
    ∙ fold-roll-SpecWord BareTree DeclaratorTree Expression ParameterForm Specifier AtEnumerator AtMember AtParameter AtParameters TypeTree
    bare_step declarator_step expression_step form_step specifier_step enumerator_step member_step parameter_step parameters_step type_step (SpecWord-F.StructTag x1)

pub view_SpecWord_Struct : (x1 : Option Lexeme) (x2 : List Member) → view_specifier (w.Struct x1 x2) ≡ c.struct_of x1 (members_of (map view_member x2))
view_SpecWord_Struct x1 x2 =
    ap view_specifier (sym (w.rolls-Struct x1 x2))
    ∙ fold-roll-SpecWord BareTree DeclaratorTree Expression ParameterForm Specifier AtEnumerator AtMember AtParameter AtParameters TypeTree
    bare_step declarator_step expression_step form_step specifier_step enumerator_step member_step parameter_step parameters_step type_step (SpecWord-F.Struct x1 x2)

pub view_SpecWord_EnumTag : (x1 : Lexeme) → view_specifier (w.EnumTag x1) ≡ c.enum_tag x1
view_SpecWord_EnumTag x1 =
    ap view_specifier (sym (w.rolls-EnumTag x1))
    ∙ fold-roll-SpecWord BareTree DeclaratorTree Expression ParameterForm Specifier AtEnumerator AtMember AtParameter AtParameters TypeTree
    bare_step declarator_step expression_step form_step specifier_step enumerator_step member_step parameter_step parameters_step type_step (SpecWord-F.EnumTag x1)

pub view_SpecWord_Enum : (x1 : Option Lexeme) (x2 : List Enumerator) (x3 : Bool) → view_specifier (w.Enum x1 x2 x3) ≡ c.enum_of x1 (enumerators_of (map view_enumerator x2)) x3
view_SpecWord_Enum x1 x2 x3 =
    ap view_specifier (sym (w.rolls-Enum x1 x2 x3))
    ∙ fold-roll-SpecWord BareTree DeclaratorTree Expression ParameterForm Specifier AtEnumerator AtMember AtParameter AtParameters TypeTree
    bare_step declarator_step expression_step form_step specifier_step enumerator_step member_step parameter_step parameters_step type_step (SpecWord-F.Enum x1 x2 x3)

pub view_Params : (ps : Params) → view_parameters ps ≡ (parameters_of (map view_parameter (out-Params ps).items), (out-Params ps).word)
view_Params ps = fold_out-Params BareTree DeclaratorTree Expression ParameterForm Specifier AtEnumerator AtMember AtParameter AtParameters TypeTree
    bare_step declarator_step expression_step form_step specifier_step enumerator_step member_step parameter_step parameters_step type_step ps

pub view_Parameter : (ps : Parameter) → view_parameter ps ≡ (specifiers_of (map view_specifier (out-Parameter ps).specs), view_form (out-Parameter ps).form)
view_Parameter ps = fold_out-Parameter BareTree DeclaratorTree Expression ParameterForm Specifier AtEnumerator AtMember AtParameter AtParameters TypeTree
    bare_step declarator_step expression_step form_step specifier_step enumerator_step member_step parameter_step parameters_step type_step ps

pub view_Member : (ps : Member) → view_member ps ≡ (specifiers_of (map view_specifier (out-Member ps).specs), declarators_of (map view_declarator (out-Member ps).names))
view_Member ps = fold_out-Member BareTree DeclaratorTree Expression ParameterForm Specifier AtEnumerator AtMember AtParameter AtParameters TypeTree
    bare_step declarator_step expression_step form_step specifier_step enumerator_step member_step parameter_step parameters_step type_step ps

pub view_TypeName : (ps : TypeName) → view_type ps ≡ c.typed (specifiers_of (map view_specifier (out-TypeName ps).specs)) (view_bare (out-TypeName ps).bare)
view_TypeName ps = fold_out-TypeName BareTree DeclaratorTree Expression ParameterForm Specifier AtEnumerator AtMember AtParameter AtParameters TypeTree
    bare_step declarator_step expression_step form_step specifier_step enumerator_step member_step parameter_step parameters_step type_step ps

enumerator_value : (v : Option Expr) → (former-Enumerator-value).map Expr Expression view_expression v ≡ option_map view_expression v
enumerator_value None = refl
enumerator_value (Some x) = refl

abbrev with_value : List ℕ → Option Expression → AtEnumerator
with_value n v = (n, v)

pub view_Enumerator : (ps : Enumerator) → view_enumerator ps ≡ ((out-Enumerator ps).name, option_map view_expression (out-Enumerator ps).value)
view_Enumerator ps =
    fold_out-Enumerator BareTree DeclaratorTree Expression ParameterForm Specifier AtEnumerator AtMember AtParameter AtParameters TypeTree
    bare_step declarator_step expression_step form_step specifier_step enumerator_step member_step parameter_step parameters_step type_step ps
    ∙ ap (with_value (out-Enumerator ps).name) (enumerator_value (out-Enumerator ps).value)
