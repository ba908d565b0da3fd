use Rattle.std.proofs.Common.{◌≡◌, map, drop}
use Rattle.program_scope.specs.With.{with_initializers}
use Rattle.c_tree.specs.StatementView.{view_part, initializers_of}
use Rattle.program_scope.proofs.items.+add_init.Given as goal

abbrev pub invariant-add_parts-loop-part : goal.invariant-add_parts-loop-part
invariant-add_parts-loop-part l = with_initializers l.names (initializers_of (map view_part (drop l.part-index l.all))) ≡ with_initializers l.fn.names (initializers_of (map view_part l.fn.all))
