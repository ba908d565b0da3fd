use Rattle.std.proofs.Common.{◌≡◌, ◌<◌, ◌&&◌, ◌||◌, length, map, option_map, drop}
use Rattle.c_judgements.specs.Parts.{added}
use Rattle.c_kinds.specs.View.{view}
use Rattle.c_tree.specs.StatementView.{view_part, initializers_of}
use Rattle.c_environment.specs.Scopes as scopes
use Rattle.c_environment.specs.Seen.{seen_environment}
use Rattle.c_declared.specs.Seen.{shown}
use Rattle.c_judged.specs.Initializers as spec
use Rattle.c_judged.proofs.initializers.+initializers.Given as goal

abbrev pub invariant-walk_parts-loop-part : goal.invariant-walk_parts-loop-part
invariant-walk_parts-loop-part l =
    ((l.so_far.settled && (spec.said_initializers l.table (seen_environment l.env) (option_map view l.due) l.so_far.next (initializers_of (map view_part (drop l.part-index l.all)))).settled) ≡ (spec.said_initializers l.fn.table (seen_environment l.fn.env) (option_map view l.fn.due) 0 (initializers_of (map view_part l.fn.all))).settled)
    × ((l.so_far.fixed && spec.are_static_initializers l.table (seen_environment l.env) (initializers_of (map view_part (drop l.part-index l.all)))) ≡ spec.are_static_initializers l.fn.table (seen_environment l.fn.env) (initializers_of (map view_part l.fn.all)))
    × ((l.so_far.unknown || spec.names_unknown (seen_environment l.env) (option_map view l.due) l.so_far.next (initializers_of (map view_part (drop l.part-index l.all)))) ≡ spec.names_unknown (seen_environment l.fn.env) (option_map view l.fn.due) 0 (initializers_of (map view_part l.fn.all)))
    × (spec.or_misfit l.so_far.positional (spec.positional_parts l.table (seen_environment l.env) (option_map view l.due) l.alone (initializers_of (map view_part (drop l.part-index l.all)))) ≡ spec.positional_parts l.fn.table (seen_environment l.fn.env) (option_map view l.fn.due) l.fn.alone (initializers_of (map view_part l.fn.all)))
    × (spec.or_misfit l.so_far.misfit (spec.parts_misfit l.table (seen_environment l.env) (option_map view l.due) l.so_far.next (initializers_of (map view_part (drop l.part-index l.all)))) ≡ spec.parts_misfit l.fn.table (seen_environment l.fn.env) (option_map view l.fn.due) 0 (initializers_of (map view_part l.fn.all)))
    × (added (spec.said_initializers l.table (seen_environment l.env) (option_map view l.due) l.so_far.next (initializers_of (map view_part (drop l.part-index l.all)))).all (shown l.out) ≡ added (spec.said_initializers l.fn.table (seen_environment l.fn.env) (option_map view l.fn.due) 0 (initializers_of (map view_part l.fn.all))).all (shown l.fn.out))
    × (scopes.behind_initializers (seen_environment l.env) (initializers_of (map view_part (drop l.part-index l.all))) ≡ scopes.behind_initializers (seen_environment l.fn.env) (initializers_of (map view_part l.fn.all)))
    × (0 < length (shown l.out))
