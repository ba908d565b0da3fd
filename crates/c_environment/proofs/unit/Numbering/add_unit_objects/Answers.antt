use Rattle.std.proofs.Common.{◌≡◌, ◌∷◌, ◌+◌, map, drop, ap, sym, ◌∙◌}
use Rattle.std.proofs.lemmas.List.{drop_more}
use Rattle.c_tree.specs.StatementView.{view_item}
use Rattle.c_environment.specs.Counted.{seen_numbering, counted}
use Rattle.c_environment.specs.Start.{object_names}
use Rattle.c_environment.proofs.Counts.{counted_item}
use Rattle.c_environment.proofs.unit.Numbering.add_unit_objects.Goals as goal

pub loop-item-preserved : goal.loop-item-preserved
loop-item-preserved c =
    let xs = c.args.items.now in
    let i = c.loop-item.item-index in
    let x = c.item-item.result in
    let here : drop i xs ≡ x ∷ drop (i + 1) xs = drop_more xs i x c.loop-item-test.true ∙ ap (λ y. y ∷ drop (i + 1) xs) (sym c.item-item.is) in
    let before = seen_numbering c.loop-item.self in
    ap (λ p. counted p (object_names (map view_item (drop (i + 1) xs)))) c.in_ok-add_item_objects.ensures
    ∙ counted_item before (view_item x) (map view_item (drop (i + 1) xs))
    ∙ ap (λ ys. counted before (object_names (map view_item ys))) (sym here)
    ∙ c.loop-item.invariant
