use Rattle.std.proofs.Common.{◌≡◌, map, drop}
use Rattle.c_tree.specs.View.{view_expression, expressions_of}
use Rattle.c_tree.specs.Behind.{behind_expressions}
use Rattle.flow_form.specs.Passed.{past_arguments}
use Rattle.flow_form.specs.Typing.{typing}
use Rattle.flow_form.proofs.expressions.+walk.Given as goal

abbrev pub invariant-walk_arguments-loop-e : goal.invariant-walk_arguments-loop-e
invariant-walk_arguments-loop-e l =
    (behind_expressions l.walk.at (expressions_of (map view_expression (drop l.e-index l.all))) ≡ behind_expressions l.fn.walk.at (expressions_of (map view_expression l.fn.all)))
    × (past_arguments (typing l.t) l.from l.c l.walk.at (expressions_of (map view_expression (drop l.e-index l.all))) l.walk.rows.items ≡ past_arguments (typing l.t) l.fn.s l.c l.fn.walk.at (expressions_of (map view_expression l.fn.all)) l.fn.walk.rows.items)
