use Rattle.std.proofs.Common.{ap, ◌∙◌, ◌≡◌, map}
use Rattle.std.proofs.lemmas.Result.{IfOk-weaker}
use Rattle.c_tree.specs.StatementView.{view_item}
use Rattle.c_environment.specs.Entity.{variables_of}
use Rattle.c_environment.specs.Scopes.{behind_items}
use Rattle.c_environment.specs.Seen.{seen_variable, seen_environment}
use Rattle.c_bindings.specs.Seen.{seen_told}
use Rattle.c_judged.specs.Program.{said_items, misfit_of, program_told, program_misfit, program_variables}
use Rattle.c_judged.proofs.program.judge.Goals as goal

pub returns-clause-all : goal.returns-clause-all
returns-clause-all c =
    let rows = c.args.table.now in
    let items = map view_item c.args.items.now in
    let env = seen_environment c.in_ok-env.env in
    IfOk-weaker c.judged_from.result (λ j. map seen_told j.all.items ≡ (said_items rows env items).all)
    (λ j. map seen_told j.all.items ≡ program_told (map (λ row. row.name) rows) rows items)
    (λ j h. h ∙ ap (λ e. (said_items rows e items).all) c.in_ok-env.ensures) c.judged_from.ensures.all

pub returns-clause-misfit : goal.returns-clause-misfit
returns-clause-misfit c =
    let rows = c.args.table.now in
    let items = map view_item c.args.items.now in
    let env = seen_environment c.in_ok-env.env in
    IfOk-weaker c.judged_from.result (λ j. j.misfit ≡ misfit_of (said_items rows env items).all (behind_items env items))
    (λ j. j.misfit ≡ program_misfit (map (λ row. row.name) rows) rows items)
    (λ j h. h ∙ ap (λ e. misfit_of (said_items rows e items).all (behind_items e items)) c.in_ok-env.ensures) c.judged_from.ensures.misfit

pub returns-clause-variables : goal.returns-clause-variables
returns-clause-variables c =
    let rows = c.args.table.now in
    let items = map view_item c.args.items.now in
    let env = seen_environment c.in_ok-env.env in
    IfOk-weaker c.judged_from.result (λ j. map seen_variable j.variables.items ≡ variables_of (behind_items env items).entities)
    (λ j. map seen_variable j.variables.items ≡ program_variables (map (λ row. row.name) rows) items)
    (λ j h. h ∙ ap (λ e. variables_of (behind_items e items).entities) c.in_ok-env.ensures) c.judged_from.ensures.variables
