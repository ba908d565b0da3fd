use Rattle.std.proofs.Common.{sym, ap, ◌∙◌, [], ◌∷◌, List, map}
use Rattle.c_judgements.specs.Parts.{added}
use Rattle.c_tree.specs.StatementView.{view_item}
use Rattle.c_environment.specs.Seen.{seen_environment}
use Rattle.c_bindings.specs.Told.{Told}
use Rattle.c_bindings.specs.Seen.{seen_told}
use Rattle.c_judged.specs.Program.{said_items, misfit_of}
use Rattle.c_judged.proofs.program.judged_from.Goals as goal

abbrev outermost : List (List Told) → List Told
outermost [] = []
outermost (p ∷ ps) = p

pub returns-clause-all : goal.returns-clause-all
returns-clause-all c =
    let rows = c.args.table.now in
    let items = map view_item c.args.items.now in
    let env = seen_environment c.args.env.now in
    ap outermost (sym c.finish-all.ensures ∙ c.in_ok-walk_items.ensures.all ∙ ap (λ p. added (said_items rows env items).all p) c.new-out.ensures)

pub returns-clause-misfit : goal.returns-clause-misfit
returns-clause-misfit c =
    let rows = c.args.table.now in
    let items = map view_item c.args.items.now in
    let env = seen_environment c.args.env.now in
    let at = seen_environment c.walk_items.new.env in
    c.misfit_of-misfit.ensures
    ∙ ap (λ xs. misfit_of (map seen_told xs) at) c.as_slice.ensures.value
    ∙ ap (λ ts. misfit_of ts at) (returns-clause-all c)
    ∙ ap (λ e. misfit_of (said_items rows env items).all e) c.in_ok-walk_items.ensures.behind
