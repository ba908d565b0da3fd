use denote.Param.Weighed.{most}
use Rattle.c_tree.proofs.tree.Expr.TheLaws.{the_size}
use Rattle.std.proofs.Common.{arith, map, option_map, ap, sym, ◌∙◌}
use Rattle.c_tree.specs.Passing.{pass_declarator, pass_sizes, pass_parameters}
use Rattle.c_tree.specs.Progress.{pass}
use Rattle.c_tree.specs.Search.{progress}
use Rattle.c_tree.specs.View.{view_declarator, view_expression, view_parameter, sizes_of, parameters_of}
use Rattle.c_tree.proofs.Sizes.{arguments_smaller}
use Rattle.c_tree.proofs.ViewLemmas.{view_Declarator_Array, view_Declarator_Pointer, view_Params}
use Rattle.c_tree.proofs.walk.+search.Goals as goal

pub search_declarator-returns-in-Array : goal.search_declarator-returns-in-Array
search_declarator-returns-in-Array t c =
    let seen = ap view_declarator c.in-Array.is ∙ view_Declarator_Array c.in-Array.field-0 c.in-Array.field-1 c.in-Array.sizes in
    let sizes = ap (λ xs. pass_sizes pass (progress c.args.search.now) (sizes_of (map (option_map view_expression) xs))) c.as_slice.ensures in
    c.search_sizes.ensures ∙ sizes ∙ sym (ap (pass_declarator pass (progress c.args.search.now)) seen)

pub search_declarator-returns-in-Pointer : goal.search_declarator-returns-in-Pointer
search_declarator-returns-in-Pointer t c =
    let seen = ap view_declarator c.in-Pointer.is ∙ view_Declarator_Pointer c.in-Pointer.field-0 c.in-Pointer.field-1 c.in-Pointer.field-2 c.in-Pointer.sizes c.in-Pointer.params in
    let sizes = c.search_sizes-in-Pointer.ensures ∙ ap (λ xs. pass_sizes pass (progress c.args.search.now) (sizes_of (map (option_map view_expression) xs))) c.as_slice-in-Pointer.ensures in
    let params = ap (λ xs. parameters_of (map view_parameter xs)) c.as_slice-in-Pointer-2.ensures ∙ sym (ap (λ ps. ps.0) (view_Params c.in-Pointer.params)) in
    c.search_parameters-in-Pointer.ensures
    ∙ ap (λ at. pass_parameters pass at (parameters_of (map view_parameter c.as_slice-in-Pointer-2.result.now))) sizes
    ∙ ap (pass_parameters pass (pass_sizes pass (progress c.args.search.now) (sizes_of (map (option_map view_expression) c.in-Pointer.sizes)))) params
    ∙ sym (ap (pass_declarator pass (progress c.args.search.now)) seen)

pub search_expression-search_expressions-requires : goal.search_expression-search_expressions-requires
search_expression-search_expressions-requires t c =
    let smaller = arguments_smaller c.in-Call.f c.in-Call.arguments in
    (omega (arith, smaller, ap the_size c.in-Call.is, ap (most the_size) c.as_slice.ensures, c.decreases), tt)
