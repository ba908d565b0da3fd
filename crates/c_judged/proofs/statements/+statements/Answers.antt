use Rattle.std.proofs.Common.{ap, ◌∙◌}
use Rattle.c_tree.specs.View.{view_expression}
use Rattle.c_tree.specs.StatementView.{view_statement}
use Rattle.c_environment.specs.Behind.{behind_expression}
use Rattle.c_environment.specs.Environment.{entered, left}
use Rattle.c_environment.specs.Scopes as scopes
use Rattle.c_judged.proofs.statements.+statements.Goals as goal

pub walk_switch-returns-clause-behind : goal.walk_switch-returns-clause-behind
walk_switch-returns-clause-behind t c =
    let x = view_expression c.args.x.now in
    let s = view_statement c.args.s.now in
    c.left-2.ensures
    ∙ ap left (c.left.ensures
    ∙ ap left (c.in_ok-walk_switched.ensures.behind
    ∙ ap (λ e. scopes.behind_statement e s) (c.in_ok-entered-2.ensures
    ∙ ap entered (c.in_ok-x.ensures.behind ∙ ap (λ e. behind_expression e x) c.in_ok-entered.ensures))))
