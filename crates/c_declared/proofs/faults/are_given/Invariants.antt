use Rattle.std.proofs.Common.{◌≡◌, map, option_map, drop}
use Rattle.c_tree.specs.View.{view_expression, sizes_of}
use Rattle.c_declared.specs.Sizes.{are_given}
use Rattle.c_declared.proofs.faults.are_given.Given as goal

abbrev pub invariant-loop-size : goal.invariant-loop-size
invariant-loop-size l = are_given (sizes_of (map (option_map view_expression) (drop l.size-index l.all))) ≡ are_given (sizes_of (map (option_map view_expression) l.fn.all))
