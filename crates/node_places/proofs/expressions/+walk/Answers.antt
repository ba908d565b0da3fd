use Rattle.std.proofs.Common.{◌≡◌, length, map, option_map, false, OnOk, ap, sym, ◌∙◌, subst}
use Rattle.c_tree.specs.View.{view_declarator, view_expression, view_parameters, sizes_of}
use Rattle.c_tree.proofs.ViewLemmas.{view_Declarator_Array, view_Declarator_Pointer}
use Rattle.node_places.specs.Past.{past_stars, past_sizes, past_declarator, past_parameters, is_void}
use Rattle.node_places.specs.Walked.{walked, skip, skip_if}
use Rattle.node_places.proofs.expressions.+walk.Goals as goal

pub walk_declarator-returns-in_ok-stars_and_skip-in-Array : goal.walk_declarator-returns-in_ok-stars_and_skip-in-Array
walk_declarator-returns-in_ok-stars_and_skip-in-Array t c =
    let w = walked c.args.walk.now in
    let seen = ap (past_declarator w) (ap view_declarator c.in-Array.is ∙ view_Declarator_Array c.in-Array.stars c.in-Array.field-1 c.in-Array.sizes) in
    let named = c.in_ok-stars_and_skip-in-Array.ensures ∙ ap (λ ss. skip 1 (past_stars w ss)) c.as_slice-in-Array.ensures in
    let sizes = ap (λ v. past_sizes v (sizes_of (map (option_map view_expression) c.as_slice-in-Array-2.result.now))) named
    ∙ ap (λ xs. past_sizes (skip 1 (past_stars w c.in-Array.stars)) (sizes_of (map (option_map view_expression) xs))) c.as_slice-in-Array-2.ensures in
    subst (λ v. OnOk c.walk_sizes.result (walked c.walk_sizes.new.walk ≡ v)) (sizes ∙ sym seen) c.walk_sizes.ensures

pub walk_declarator-returns-in_ok-skip-in-Pointer : goal.walk_declarator-returns-in_ok-skip-in-Pointer
walk_declarator-returns-in_ok-skip-in-Pointer t c =
    let w = walked c.args.walk.now in
    let seen = ap (past_declarator w) (ap view_declarator c.in-Pointer.is ∙ view_Declarator_Pointer c.in-Pointer.stars c.in-Pointer.quals c.in-Pointer.field-2 c.in-Pointer.sizes c.in-Pointer.params) in
    let named = c.in_ok-walk_pointer-in-Pointer.ensures ∙ ap (λ ss. skip 1 (skip (length c.in-Pointer.quals) (skip 2 (past_stars w ss)))) c.as_slice-in-Pointer.ensures in
    let sizes = c.in_ok-walk_sizes-in-Pointer.ensures
    ∙ ap (λ v. past_sizes v (sizes_of (map (option_map view_expression) c.as_slice-in-Pointer-2.result.now))) named
    ∙ ap (λ xs. past_sizes (skip 1 (skip (length c.in-Pointer.quals) (skip 2 (past_stars w c.in-Pointer.stars)))) (sizes_of (map (option_map view_expression) xs))) c.as_slice-in-Pointer-2.ensures in
    let bracket = c.in_ok-skip-in-Pointer.ensures ∙ ap (skip 2) sizes in
    let ps = view_parameters c.in-Pointer.params in
    let parameters = ap (λ v. skip 1 (past_parameters false (skip_if (is_void ps.0 ps.1) v) ps.0)) bracket in
    subst (λ v. OnOk c.walk_parameters-in-Pointer.result (walked c.walk_parameters-in-Pointer.new.walk ≡ v)) (parameters ∙ sym seen) c.walk_parameters-in-Pointer.ensures
