use Rattle.std.proofs.Common.{◌≡◌, map, option_map, drop}
use Rattle.c_kinds.specs.View.{view}
use Rattle.c_tree.specs.View.{view_expression, sizes_of}
use Rattle.c_environment.specs.Types as plain
use Rattle.c_environment.proofs.types.array_kind.Given as goal

abbrev pub invariant-loop-size : goal.invariant-loop-size
invariant-loop-size l =
    plain.array_kind (sizes_of (map (option_map view_expression) (drop l._size-index l.sizes))) (view l.kind)
    ≡ plain.array_kind (sizes_of (map (option_map view_expression) l.fn.sizes)) (view l.fn.of)
