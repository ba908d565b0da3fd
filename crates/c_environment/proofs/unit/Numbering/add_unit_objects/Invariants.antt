use Rattle.std.proofs.Common.{◌≡◌, map, drop}
use Rattle.c_tree.specs.StatementView.{view_item}
use Rattle.c_environment.specs.Start as plain
use Rattle.c_environment.specs.Counted.{seen_numbering, counted}
use Rattle.c_environment.proofs.unit.Numbering.add_unit_objects.Given as goal

abbrev pub invariant-loop-item : goal.invariant-loop-item
invariant-loop-item l =
    counted (seen_numbering l.self) (plain.object_names (map view_item (drop l.item-index l.items)))
    ≡ counted (seen_numbering l.fn.self) (plain.object_names (map view_item l.fn.items))
