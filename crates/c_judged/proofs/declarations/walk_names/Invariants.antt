use Rattle.std.proofs.Common.{◌≡◌, ◌<◌, ◌&&◌, length, map, option_map, drop}
use Rattle.c_judgements.specs.Parts.{added}
use Rattle.c_tree.specs.View.{view_specifier}
use Rattle.c_tree.specs.StatementView.{view_named}
use Rattle.c_environment.specs.Scopes as scopes
use Rattle.c_environment.specs.Seen.{seen_type, seen_environment}
use Rattle.c_declared.specs.Seen.{shown}
use Rattle.c_judged.specs.Declarations as spec
use Rattle.c_judged.proofs.declarations.walk_names.Given as goal

abbrev pub invariant-loop-n : goal.invariant-loop-n
invariant-loop-n l =
    ((l.settled && (spec.said_names l.table (seen_environment l.env) l.storage (option_map (λ w. view_specifier w.now) l.word) (seen_type l.of) (map view_named (drop l.n-index l.all))).settled) ≡ (spec.said_names l.fn.table (seen_environment l.fn.env) l.fn.storage (option_map (λ w. view_specifier w.now) l.fn.word) (seen_type l.fn.of) (map view_named l.fn.all)).settled)
    × (added (spec.said_names l.table (seen_environment l.env) l.storage (option_map (λ w. view_specifier w.now) l.word) (seen_type l.of) (map view_named (drop l.n-index l.all))).all (shown l.out) ≡ added (spec.said_names l.fn.table (seen_environment l.fn.env) l.fn.storage (option_map (λ w. view_specifier w.now) l.fn.word) (seen_type l.fn.of) (map view_named l.fn.all)).all (shown l.fn.out))
    × (scopes.behind_names (seen_environment l.env) l.storage (seen_type l.of) (map view_named (drop l.n-index l.all)) ≡ scopes.behind_names (seen_environment l.fn.env) l.fn.storage (seen_type l.fn.of) (map view_named l.fn.all))
    × (0 < length (shown l.out))
