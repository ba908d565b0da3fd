use Rattle.std.proofs.Common.{◌≡◌, ◌++◌, None, map, drop}
use Rattle.c_tree.specs.StatementView.{view_statement, statements_of}
use Rattle.c_tree.specs.Behind.{behind_statements}
use Rattle.flow_form.specs.Jumps.{around}
use Rattle.flow_form.specs.PassedStatements.{past_in_order}
use Rattle.flow_form.specs.Statements.{cases}
use Rattle.flow_form.specs.Typing.{typing}
use Rattle.flow_form.proofs.statements.+walk_statement.Given as goal

abbrev pub invariant-walk_in_order-loop-r : goal.invariant-walk_in_order-loop-r
invariant-walk_in_order-loop-r l =
    (behind_statements l.walk.at (statements_of (map view_statement (drop l.r-index l.all))) ≡ behind_statements l.fn.walk.at (statements_of (map view_statement l.fn.all)))
    × (past_in_order (typing l.t) (around l.w) l.last l.jump l.q l.walk.at (statements_of (map view_statement (drop l.r-index l.all))) l.walk.rows.items ≡ past_in_order (typing l.t) (around l.w) l.fn.s None l.q l.fn.walk.at (statements_of (map view_statement l.fn.all)) l.fn.walk.rows.items)

abbrev pub invariant-walk_labelled-loop-r : goal.invariant-walk_labelled-loop-r
invariant-walk_labelled-loop-r l =
    (behind_statements l.walk.at (statements_of (map view_statement (drop l.r-index l.all))) ≡ behind_statements l.fn.walk.at (statements_of (map view_statement l.fn.all)))
    × ((past_in_order (typing l.t) (around l.w) l.last l.jump l.q l.walk.at (statements_of (map view_statement (drop l.r-index l.all))) l.walk.rows.items ≡ past_in_order (typing l.t) (around l.w) l.fn.s None l.q l.fn.walk.at (statements_of (map view_statement l.fn.all)) l.fn.walk.rows.items)
    × (l.out.items ++ cases (typing l.t) l.of.node l.of.expression l.walk.at (statements_of (map view_statement (drop l.r-index l.all))) ≡ l.fn.out.items ++ cases (typing l.t) l.of.node l.of.expression l.fn.walk.at (statements_of (map view_statement l.fn.all))))
