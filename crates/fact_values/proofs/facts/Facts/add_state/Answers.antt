use Rattle.std.proofs.Common.{◌≡◌, sym, subst, ◌∙◌, ap, refl, true, List, cond}
use Rattle.std.specs.Prelude.{Some, None}
use Rattle.std.specs.BTreeMap.{is_at, BTreeMap}
use Rattle.std.specs.Map.{lookup, set_value}
use Rattle.std.specs.Option.{IsSome}
use Rattle.std.proofs.lemmas.Result.{on_err_weaker}
use Rattle.std.proofs.lemmas.Map.Steps.{set_value_same}
use Rattle.call_ctx.specs.declared.cell.Cell.{Cell}
use Rattle.call_ctx.specs.Order.{cell_cmp}
use Rattle.abstract_values.specs.declared.state.State.{State}
use Rattle.fact_values.specs.declared.part.Part.TheVariants as part
use Rattle.fact_values.specs.declared.part.Held.TheVariants as held
use Rattle.fact_values.specs.FactLists.{FactLists, FactsValue}
use Rattle.fact_values.specs.Facts.{view, consequence, IsFit, IsNewState, AreFacts, Adds}
use Rattle.fact_values.proofs.Grown.{cells_facts, cells_adds, state_fresh, over_facts, over_adds, both_or, if_both}
use Rattle.fact_values.proofs.facts.Facts.add_state.Goals as goal

pub invariant_of-self : goal.invariant_of-self
invariant_of-self c =
    let old : FactLists = record { depth = c.self.inside.depth; cells = c.self.inside.cells.entries; targets = c.self.inside.targets.entries; installed = c.self.inside.installed.entries; threads = c.self.inside.threads.keys; forks = c.self.inside.forks.keys; stirred = c.self.inside.stirred.keys } in
    let fit : IsFit old.depth (consequence (part.Cell c.args.cell) (held.State c.args.state.now)) = subst (λ (v : FactsValue). IsFit v.lists.depth (consequence (part.Cell c.args.cell) (held.State c.args.state.now))) (sym c.self.view_is) c.requires in
    let is : lookup (is_at (cell_cmp c.args.cell)) old.cells ≡ Some c.in-Some.held.now = sym c.in-Some.ensures.value in
    let some : IsSome (lookup (is_at (cell_cmp c.args.cell)) old.cells) = rw is refl in
    both_or c.join.result _ _ _ c.join.ensures.join c.join.ensures.formed c.join.ensures.err
    (λ join formed. over_facts old c.self.invariant (c.get_mut.follows.lender c.join.new.self).entries c.args.cell c.args.state.now c.in-Some.held.now c.join.new.self
    ((c.get_mut.follows.holds c.join.new.self).3 some).0 is join formed fit)
    (λ same. subst (λ (cs : List (Cell × State)). AreFacts (record old { cells = cs }))
    (sym ((c.get_mut.follows.holds c.join.new.self).0 ∙ ap (set_value (is_at (cell_cmp c.args.cell)) old.cells) same ∙ set_value_same _ _ _ is)) c.self.invariant)

pub returns-in-Some-clause-adds : goal.returns-in-Some-clause-adds
returns-in-Some-clause-adds c =
    let old : FactLists = record { depth = c.self.inside.depth; cells = c.self.inside.cells.entries; targets = c.self.inside.targets.entries; installed = c.self.inside.installed.entries; threads = c.self.inside.threads.keys; forks = c.self.inside.forks.keys; stirred = c.self.inside.stirred.keys } in
    let is : lookup (is_at (cell_cmp c.args.cell)) old.cells ≡ Some c.in-Some.held.now = sym c.in-Some.ensures.value in
    let some : IsSome (lookup (is_at (cell_cmp c.args.cell)) old.cells) = rw is refl in
    if_both c.join.result _ _ _ _ _ c.join.ensures.join c.join.ensures.formed c.join.ensures.grew c.join.ensures.same
    (λ join formed answer grew same. subst (λ (v : FactsValue). Adds (consequence (part.Cell c.args.cell) (held.State c.args.state.now)) answer v.lists (record old { cells = (c.get_mut.follows.lender c.join.new.self).entries })) c.self.view_is
    (over_adds old c.self.invariant (c.get_mut.follows.lender c.join.new.self).entries c.args.cell c.args.state.now c.in-Some.held.now c.join.new.self
    ((c.get_mut.follows.holds c.join.new.self).3 some).0 is join formed answer grew same
    (λ e. (c.get_mut.follows.holds c.join.new.self).0 ∙ ap (set_value (is_at (cell_cmp c.args.cell)) old.cells) e ∙ set_value_same _ _ _ is)))

pub returns-in-Some-clause-err : goal.returns-in-Some-clause-err
returns-in-Some-clause-err c =
    let old : FactLists = record { depth = c.self.inside.depth; cells = c.self.inside.cells.entries; targets = c.self.inside.targets.entries; installed = c.self.inside.installed.entries; threads = c.self.inside.threads.keys; forks = c.self.inside.forks.keys; stirred = c.self.inside.stirred.keys } in
    let is : lookup (is_at (cell_cmp c.args.cell)) old.cells ≡ Some c.in-Some.held.now = sym c.in-Some.ensures.value in
    on_err_weaker c.join.result
    (λ same. ap (λ (cs : List (Cell × State)). record old { cells = cs })
    ((c.get_mut.follows.holds c.join.new.self).0 ∙ ap (set_value (is_at (cell_cmp c.args.cell)) old.cells) same ∙ set_value_same _ _ _ is)
    ∙ ap (λ (v : FactsValue). v.lists) c.self.view_is) c.join.ensures.err

pub invariant_of-self-2 : goal.invariant_of-self-2
invariant_of-self-2 c =
    let old : FactLists = record { depth = c.self.inside.depth; cells = c.self.inside.cells.entries; targets = c.self.inside.targets.entries; installed = c.self.inside.installed.entries; threads = c.self.inside.threads.keys; forks = c.self.inside.forks.keys; stirred = c.self.inside.stirred.keys } in
    let fit : IsFit old.depth (consequence (part.Cell c.args.cell) (held.State c.args.state.now)) = subst (λ (v : FactsValue). IsFit v.lists.depth (consequence (part.Cell c.args.cell) (held.State c.args.state.now))) (sym c.self.view_is) c.requires in
    let none : lookup (is_at (cell_cmp c.args.cell)) old.cells ≡ None = sym c.in_default.ensures.value in
    let puts : (d : Cell) → lookup (is_at (cell_cmp d)) c.insert.new.self.entries ≡ cond (is_at (cell_cmp c.args.cell) d) (Some c.in_ok-copied.copied) (lookup (is_at (cell_cmp d)) old.cells) =
    λ d. c.in-Ok.ensures.updates.0 d
    ∙ ap (λ (m : BTreeMap Cell State). cond (is_at (cell_cmp c.args.cell) d) (Some c.in_ok-copied.copied) (lookup (is_at (cell_cmp d)) m.entries)) c.get_mut.follows.holds-at-none in
    let new : IsNewState ((view old).state_at c.args.cell) c.args.state.now c.in_ok-copied.copied = state_fresh _ c.args.state.now c.in_ok-copied.copied none c.in_ok-copied.ensures in
    cells_facts old c.self.invariant c.insert.new.self.entries c.args.cell c.args.state.now c.in_ok-copied.copied puts new fit

pub returns-clause-adds : goal.returns-clause-adds
returns-clause-adds c =
    let old : FactLists = record { depth = c.self.inside.depth; cells = c.self.inside.cells.entries; targets = c.self.inside.targets.entries; installed = c.self.inside.installed.entries; threads = c.self.inside.threads.keys; forks = c.self.inside.forks.keys; stirred = c.self.inside.stirred.keys } in
    let none : lookup (is_at (cell_cmp c.args.cell)) old.cells ≡ None = sym c.in_default.ensures.value in
    let puts : (d : Cell) → lookup (is_at (cell_cmp d)) c.insert.new.self.entries ≡ cond (is_at (cell_cmp c.args.cell) d) (Some c.in_ok-copied.copied) (lookup (is_at (cell_cmp d)) old.cells) =
    λ d. c.in-Ok.ensures.updates.0 d
    ∙ ap (λ (m : BTreeMap Cell State). cond (is_at (cell_cmp c.args.cell) d) (Some c.in_ok-copied.copied) (lookup (is_at (cell_cmp d)) m.entries)) c.get_mut.follows.holds-at-none in
    let new : IsNewState ((view old).state_at c.args.cell) c.args.state.now c.in_ok-copied.copied = state_fresh _ c.args.state.now c.in_ok-copied.copied none c.in_ok-copied.ensures in
    subst (λ (v : FactsValue). Adds (consequence (part.Cell c.args.cell) (held.State c.args.state.now)) true v.lists (record old { cells = c.insert.new.self.entries })) c.self.view_is
    (cells_adds old c.self.invariant c.insert.new.self.entries c.args.cell c.args.state.now c.in_ok-copied.copied puts new (λ x. let there = x.1 in absurd cc))
