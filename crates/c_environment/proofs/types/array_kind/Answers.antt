use Rattle.std.proofs.Common.{◌≡◌, ◌∷◌, ◌+◌, map, option_map, drop, get_or, ap, sym, ◌∙◌}
use Rattle.std.proofs.lemmas.List.{drop_more}
use Rattle.c_kinds.specs.View.{view}
use Rattle.c_tree.specs.View.{view_expression, sizes_of}
use Rattle.c_environment.specs.Types.{array_kind}
use Rattle.c_environment.proofs.Arrays.{array_step}
use Rattle.c_environment.proofs.types.array_kind.Goals as goal

pub loop-size-preserved : goal.loop-size-preserved
loop-size-preserved c =
    let xs = c.args.sizes.now in
    let i = c.loop-size._size-index in
    let x = get_or xs i c._size-item.result in
    let here : drop i xs ≡ x ∷ drop (i + 1) xs = drop_more xs i c._size-item.result c.loop-size-test.true in
    ap (array_kind (sizes_of (map (option_map view_expression) (drop (i + 1) xs)))) c.in_ok-kind.ensures
    ∙ array_step (option_map view_expression x) (map (option_map view_expression) (drop (i + 1) xs)) (view c.loop-size.kind)
    ∙ ap (λ ys. array_kind (sizes_of (map (option_map view_expression) ys)) (view c.loop-size.kind)) (sym here)
    ∙ c.loop-size.invariant
