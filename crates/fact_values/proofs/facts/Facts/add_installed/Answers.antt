use Rattle.std.proofs.Common.{sym, subst, true}
use Rattle.fact_values.specs.declared.part.Part.TheVariants as part
use Rattle.fact_values.specs.declared.part.Held.TheVariants as held
use Rattle.fact_values.specs.FactLists.{FactLists, FactsValue}
use Rattle.fact_values.specs.Facts.{view, consequence, IsFit, Adds, Holds}
use Rattle.fact_values.specs.Facts.{IsNewInstalled}
use Rattle.fact_values.proofs.Grown.{installed_facts, installed_adds, adds_none}
use Rattle.fact_values.proofs.facts.Facts.add_installed.Goals as goal

pub invariant_of-self-2 : goal.invariant_of-self-2
invariant_of-self-2 c =
    let old : FactLists = record { depth = c.self.inside.depth; cells = c.self.inside.cells.entries; targets = c.self.inside.targets.entries; installed = c.self.inside.installed.entries; threads = c.self.inside.threads.keys; forks = c.self.inside.forks.keys; stirred = c.self.inside.stirred.keys } in
    let fit : IsFit old.depth (consequence (part.Installed c.args.signal c.args.function) (held.Installed c.args.installed.now)) = subst (λ (v : FactsValue). IsFit v.lists.depth (consequence (part.Installed c.args.signal c.args.function) (held.Installed c.args.installed.now))) (sym c.self.view_is) c.requires in
    installed_facts old c.self.invariant c.insert.new.self.entries c.args.signal c.args.function c.args.installed.now c.joined_for-joined.result c.in-Ok.ensures.updates.0
    (subst (λ (v : FactsValue). IsNewInstalled ((view v.lists).installed_at c.args.signal c.args.function) c.args.installed.now c.joined_for-joined.result) (sym c.self.view_is) c.joined_for-joined.ensures) fit

pub returns-clause-adds : goal.returns-clause-adds
returns-clause-adds c =
    let old : FactLists = record { depth = c.self.inside.depth; cells = c.self.inside.cells.entries; targets = c.self.inside.targets.entries; installed = c.self.inside.installed.entries; threads = c.self.inside.threads.keys; forks = c.self.inside.forks.keys; stirred = c.self.inside.stirred.keys } in
    subst (λ (v : FactsValue). Adds (consequence (part.Installed c.args.signal c.args.function) (held.Installed c.args.installed.now)) true v.lists (record old { installed = c.insert.new.self.entries })) c.self.view_is
    (installed_adds old c.self.invariant c.insert.new.self.entries c.args.signal c.args.function c.args.installed.now c.joined_for-joined.result c.in-Ok.ensures.updates.0
    (subst (λ (v : FactsValue). IsNewInstalled ((view v.lists).installed_at c.args.signal c.args.function) c.args.installed.now c.joined_for-joined.result) (sym c.self.view_is) c.joined_for-joined.ensures)
    (λ x. let h = c.holds_installed.ensures.1 (subst (λ (v : FactsValue). Holds (view v.lists) (consequence (part.Installed c.args.signal c.args.function) (held.Installed c.args.installed.now))) c.self.view_is x) in
    let f = c.if-holds_installed.false in absurd cc))

pub returns-then-holds_installed-clause-adds : goal.returns-then-holds_installed-clause-adds
returns-then-holds_installed-clause-adds c = adds_none _ c.args.self.now.lists (c.holds_installed.ensures.0 c.if-holds_installed.true)
