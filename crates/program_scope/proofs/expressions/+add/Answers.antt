use denote.Param.Weighed.{most}
use Rattle.c_tree.proofs.tree.Expr.TheLaws.{the_size}
use Rattle.std.proofs.Common.{◌≡◌, arith, map, option_map, OnOk, ap, sym, ◌∙◌, subst}
use Rattle.c_tree.specs.View.{view_declarator, view_expression, view_parameter, sizes_of, parameters_of}
use Rattle.c_tree.proofs.Sizes.{arguments_smaller}
use Rattle.c_tree.proofs.ViewLemmas.{view_Declarator_Array, view_Declarator_Pointer, view_Params}
use Rattle.program_scope.specs.With.{with_name, with_declarator, with_sizes, with_parameters}
use Rattle.program_scope.proofs.expressions.+add.Goals as goal

pub add_declarator-returns-in_ok-add_name-in-Array : goal.add_declarator-returns-in_ok-add_name-in-Array
add_declarator-returns-in_ok-add_name-in-Array t c =
    let ks = c.args.names.now in
    let seen = ap (with_declarator ks) (ap view_declarator c.in-Array.is ∙ view_Declarator_Array c.in-Array.field-0 c.in-Array.name c.in-Array.sizes) in
    let sizes = ap (λ v. with_sizes v (sizes_of (map (option_map view_expression) c.as_slice.result.now))) c.in_ok-add_name-in-Array.ensures
    ∙ ap (λ xs. with_sizes (with_name ks c.in-Array.name) (sizes_of (map (option_map view_expression) xs))) c.as_slice.ensures in
    subst (λ v. OnOk c.add_sizes.result (c.add_sizes.new.names ≡ v)) (sizes ∙ sym seen) c.add_sizes.ensures

pub add_declarator-returns-in_ok-add_sizes-in-Pointer : goal.add_declarator-returns-in_ok-add_sizes-in-Pointer
add_declarator-returns-in_ok-add_sizes-in-Pointer t c =
    let ks = c.args.names.now in
    let seen = ap (with_declarator ks) (ap view_declarator c.in-Pointer.is ∙ view_Declarator_Pointer c.in-Pointer.field-0 c.in-Pointer.field-1 c.in-Pointer.name c.in-Pointer.sizes c.in-Pointer.params) in
    let sizes = c.in_ok-add_sizes-in-Pointer.ensures
    ∙ ap (λ v. with_sizes v (sizes_of (map (option_map view_expression) c.as_slice-in-Pointer.result.now))) c.in_ok-add_name-in-Pointer.ensures
    ∙ ap (λ xs. with_sizes (with_name ks c.in-Pointer.name) (sizes_of (map (option_map view_expression) xs))) c.as_slice-in-Pointer.ensures in
    let params = ap (λ xs. parameters_of (map view_parameter xs)) c.as_slice-in-Pointer-2.ensures ∙ sym (ap (λ ps. ps.0) (view_Params c.in-Pointer.params)) in
    let all = ap (λ v. with_parameters v (parameters_of (map view_parameter c.as_slice-in-Pointer-2.result.now))) sizes
    ∙ ap (with_parameters (with_sizes (with_name ks c.in-Pointer.name) (sizes_of (map (option_map view_expression) c.in-Pointer.sizes)))) params in
    subst (λ v. OnOk c.add_parameters-in-Pointer.result (c.add_parameters-in-Pointer.new.names ≡ v)) (all ∙ sym seen) c.add_parameters-in-Pointer.ensures

pub add_expression-add_expressions-requires : goal.add_expression-add_expressions-requires
add_expression-add_expressions-requires t c =
    let smaller = arguments_smaller c.in-Call.f c.in-Call.arguments in
    (omega (arith, smaller, ap the_size c.in-Call.is, ap (most the_size) c.as_slice.ensures, c.decreases), tt)
