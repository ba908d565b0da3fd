use Rattle.std.proofs.Common.{◌≡◌, map, drop}
use Rattle.c_tree.specs.Progress.{pass}
use Rattle.c_tree.specs.Search.{progress}
use Rattle.c_tree.specs.Passing.{pass_initializers}
use Rattle.c_tree.specs.StatementView.{view_part, initializers_of}
use Rattle.c_tree.proofs.walk_items.+search_init.Given as goal

abbrev pub invariant-search_parts-loop-part : goal.invariant-search_parts-loop-part
invariant-search_parts-loop-part l = pass_initializers pass (progress l.search) (initializers_of (map view_part (drop l.part-index l.all))) ≡ pass_initializers pass (progress l.fn.search) (initializers_of (map view_part l.fn.all))
