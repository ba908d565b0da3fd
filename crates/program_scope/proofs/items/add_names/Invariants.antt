use Rattle.std.proofs.Common.{◌≡◌, map, drop}
use Rattle.program_scope.specs.With.{with_names}
use Rattle.c_tree.specs.StatementView.{view_named}
use Rattle.program_scope.proofs.items.add_names.Given as goal

abbrev pub invariant-loop-named : goal.invariant-loop-named
invariant-loop-named l = with_names l.names (map view_named (drop l.named-index l.all)) ≡ with_names l.fn.names (map view_named l.fn.all)
