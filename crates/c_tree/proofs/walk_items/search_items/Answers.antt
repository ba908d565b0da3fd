use Rattle.std.proofs.Common.{map, drop, sym, ◌∙◌}
use Rattle.c_tree.specs.StatementView.{view_item}
use Rattle.c_tree.proofs.Stopping.{items_stay}
use Rattle.c_tree.proofs.walk_items.search_items.Goals as goal

pub returns-then-is_some : goal.returns-then-is_some
returns-then-is_some c = sym (items_stay c.loop-item.search (map view_item (drop c.loop-item.item-index c.args.all.now)) (sym c.is_some.ensures ∙ c.if-is_some.true)) ∙ c.loop-item.invariant
