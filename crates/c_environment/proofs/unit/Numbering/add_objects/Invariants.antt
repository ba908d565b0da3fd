use Rattle.std.proofs.Common.{◌≡◌, map, drop}
use Rattle.c_tree.specs.StatementView.{view_named}
use Rattle.c_environment.specs.Start as plain
use Rattle.c_environment.specs.Counted.{seen_numbering, counted}
use Rattle.c_environment.proofs.unit.Numbering.add_objects.Given as goal

abbrev pub invariant-loop-named : goal.invariant-loop-named
invariant-loop-named l =
    counted (seen_numbering l.self) (plain.defined_names l.storage (map view_named (drop l.named-index l.all)))
    ≡ counted (seen_numbering l.fn.self) (plain.defined_names l.fn.storage (map view_named l.fn.all))
