use Rattle.std.proofs.Common.{◌≡◌, map, drop}
use Rattle.c_tree.specs.Progress.{pass}
use Rattle.c_tree.specs.Search.{progress}
use Rattle.c_tree.specs.Passing.{pass_items}
use Rattle.c_tree.specs.StatementView.{view_item}
use Rattle.c_tree.proofs.walk_items.search_items.Given as goal

abbrev pub invariant-loop-item : goal.invariant-loop-item
invariant-loop-item l = pass_items pass (progress l.search) (map view_item (drop l.item-index l.all)) ≡ pass_items pass (progress l.fn.search) (map view_item l.fn.all)
