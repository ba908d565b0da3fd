use Rattle.std.proofs.Common.{◌≡◌, map, drop}
use Rattle.c_tree.specs.StatementView.{view_named}
use Rattle.c_tree.specs.Behind.{behind_names}
use Rattle.flow_form.specs.PassedStatements.{past_names}
use Rattle.flow_form.specs.Typing.{typing}
use Rattle.flow_form.proofs.declarations.walk_names.Given as goal

abbrev pub invariant-loop-d : goal.invariant-loop-d
invariant-loop-d l =
    (behind_names l.walk.at (map view_named (drop l.d-index l.all)) ≡ behind_names l.fn.walk.at (map view_named l.fn.all))
    × (past_names (typing l.t) l.from l.q l.walk.at (map view_named (drop l.d-index l.all)) l.walk.rows.items ≡ past_names (typing l.t) l.fn.s l.q l.fn.walk.at (map view_named l.fn.all) l.fn.walk.rows.items)
