use Rattle.std.proofs.Common.{◌≡◌, map, drop}
use Rattle.node_places.specs.Walked.{walked}
use Rattle.c_tree.specs.StatementView.{view_item}
use Rattle.node_places.specs.Past.{past_items}
use Rattle.node_places.proofs.items.walk_items.Given as goal

abbrev pub invariant-loop-item : goal.invariant-loop-item
invariant-loop-item l = past_items (walked l.walk) (map view_item (drop l.item-index l.all)) ≡ past_items (walked l.fn.walk) (map view_item l.fn.all)
