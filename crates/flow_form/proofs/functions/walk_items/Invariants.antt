use Rattle.std.proofs.Common.{◌≡◌, map, drop}
use Rattle.c_tree.specs.StatementView.{view_item}
use Rattle.c_tree.specs.Behind.{behind_items}
use Rattle.flow_form.specs.PassedStatements.{past_items}
use Rattle.flow_form.specs.Typing.{typing}
use Rattle.flow_form.proofs.functions.walk_items.Given as goal

abbrev pub invariant-loop-item : goal.invariant-loop-item
invariant-loop-item l =
    (behind_items l.walk.at (map view_item (drop l.item-index l.all)) ≡ behind_items l.fn.walk.at (map view_item l.fn.all))
    × (past_items (typing l.t) l.walk.at (map view_item (drop l.item-index l.all)) l.walk.rows.items ≡ past_items (typing l.t) l.fn.walk.at (map view_item l.fn.all) l.fn.walk.rows.items)
