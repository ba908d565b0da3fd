use Rattle.std.proofs.Common.{[], ap, map, sym, subst, ◌∙◌}
use Rattle.c_tree.specs.StatementView.{view_item}
use Rattle.c_tree.specs.ProgramTree.{trees}
use Rattle.flow_form.specs.Laws.{IsInOrder, IsClosed, IsLate}
use Rattle.flow_form.specs.PassedStatements.{past_items}
use Rattle.flow_form.specs.Typing.{typing}
use Rattle.flow_form.proofs.Laws.{in_order, closed, late}
use Rattle.flow_form.proofs.PassedStatements.{items_is}
use Rattle.flow_form.proofs.build.flow.Goals as goal

pub returns-clause-rows : goal.returns-clause-rows
returns-clause-rows c =
    let t = typing c.args.meaning in
    c.in_ok-walk_items.ensures.rows
    ∙ ap (λ is. past_items t c.new-walk.result.at (map view_item is) c.new-walk.result.rows.items) (c.as_slice.ensures ∙ c.items.ensures)
    ∙ ap (λ n. past_items t n (map view_item c.args.program.now.items) c.new-walk.result.rows.items) c.new-walk.ensures.number
    ∙ ap (λ rs. past_items t 1 (map view_item c.args.program.now.items) rs) c.new-walk.ensures.rows
    ∙ items_is t 1 (map view_item c.args.program.now.items) []

pub returns-clause-order : goal.returns-clause-order
returns-clause-order c = subst IsInOrder (sym (returns-clause-rows c)) (in_order (typing c.args.meaning) (trees c.args.program.now))

pub returns-clause-closed : goal.returns-clause-closed
returns-clause-closed c = subst IsClosed (sym (returns-clause-rows c)) (closed (typing c.args.meaning) (trees c.args.program.now))

pub returns-clause-late : goal.returns-clause-late
returns-clause-late c = subst (IsLate (typing c.args.meaning)) (sym (returns-clause-rows c)) (late (typing c.args.meaning) (trees c.args.program.now))
