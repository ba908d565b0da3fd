use Rattle.std.proofs.Common.{◌≡◌, map, drop}
use Rattle.c_tree.specs.Progress.{pass}
use Rattle.c_tree.specs.Search.{progress}
use Rattle.c_tree.specs.Passing.{pass_names}
use Rattle.c_tree.specs.StatementView.{view_named}
use Rattle.c_tree.proofs.walk_items.search_names.Given as goal

abbrev pub invariant-loop-named : goal.invariant-loop-named
invariant-loop-named l = pass_names pass (progress l.search) (map view_named (drop l.named-index l.all)) ≡ pass_names pass (progress l.fn.search) (map view_named l.fn.all)
