use Rattle.std.proofs.Common.{◌≡◌, ◌<◌, length, map, drop}
use Rattle.c_judgements.specs.Parts.{added}
use Rattle.c_tree.specs.StatementView.{view_item}
use Rattle.c_environment.specs.Scopes as scopes
use Rattle.c_environment.specs.Seen.{seen_environment}
use Rattle.c_declared.specs.Seen.{shown}
use Rattle.c_judged.specs.Program as spec
use Rattle.c_judged.proofs.program.walk_items.Given as goal

abbrev pub invariant-loop-i : goal.invariant-loop-i
invariant-loop-i l =
    (added (spec.said_items l.table (seen_environment l.env) (map view_item (drop l.i-index l.items))).all (shown l.out) ≡ added (spec.said_items l.fn.table (seen_environment l.fn.env) (map view_item l.fn.items)).all (shown l.fn.out))
    × (scopes.behind_items (seen_environment l.env) (map view_item (drop l.i-index l.items)) ≡ scopes.behind_items (seen_environment l.fn.env) (map view_item l.fn.items))
    × (0 < length (shown l.out))
