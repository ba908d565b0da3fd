use Rattle.std.proofs.Common.{◌≡◌, false, map, drop}
use Rattle.node_places.specs.Walked.{walked}
use Rattle.c_tree.specs.StatementView.{view_part, initializers_of}
use Rattle.node_places.specs.Past.{past_initializers}
use Rattle.node_places.proofs.items.+walk_init.Given as goal

abbrev pub invariant-walk_parts-loop-part : goal.invariant-walk_parts-loop-part
invariant-walk_parts-loop-part l = past_initializers l.behind (walked l.walk) (initializers_of (map view_part (drop l.part-index l.all))) ≡ past_initializers false (walked l.fn.walk) (initializers_of (map view_part l.fn.all))
