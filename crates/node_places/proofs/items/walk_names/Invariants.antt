use Rattle.std.proofs.Common.{◌≡◌, false, map, drop}
use Rattle.node_places.specs.Walked.{walked}
use Rattle.c_tree.specs.StatementView.{view_named}
use Rattle.node_places.specs.Past.{past_names}
use Rattle.node_places.proofs.items.walk_names.Given as goal

abbrev pub invariant-loop-named : goal.invariant-loop-named
invariant-loop-named l = past_names l.behind (walked l.walk) (map view_named (drop l.named-index l.all)) ≡ past_names false (walked l.fn.walk) (map view_named l.fn.all)
