use Rattle.std.proofs.Common.{◌≡◌, map, drop}
use Rattle.c_tree.specs.StatementView.{view_part, initializers_of}
use Rattle.c_tree.specs.Behind.{behind_initializers}
use Rattle.flow_form.specs.PassedStatements.{behind_values, past_values}
use Rattle.flow_form.specs.Typing.{typing}
use Rattle.flow_form.proofs.declarations.+walk_value.Given as goal

abbrev pub invariant-walk_values-loop-part : goal.invariant-walk_values-loop-part
invariant-walk_values-loop-part l =
    let rest = initializers_of (map view_part (drop l.part-index l.all)) in
    let all = initializers_of (map view_part l.fn.all) in
    (behind_initializers l.walk.at rest ≡ behind_initializers l.fn.walk.at all)
    × (past_values (typing l.t) l.from l.n l.walk.at rest l.walk.rows.items ≡ past_values (typing l.t) l.fn.s l.n l.fn.walk.at all l.fn.walk.rows.items)
    × (behind_values (typing l.t) l.from l.n l.walk.at rest ≡ behind_values (typing l.t) l.fn.s l.n l.fn.walk.at all)
