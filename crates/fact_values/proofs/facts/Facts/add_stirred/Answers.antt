use Rattle.std.proofs.Common.{sym, subst}
use Rattle.fact_values.specs.declared.part.Part.TheVariants as part
use Rattle.fact_values.specs.declared.part.Held.TheVariants as held
use Rattle.fact_values.specs.FactLists.{FactLists, FactsValue}
use Rattle.fact_values.specs.Facts.{view, consequence, IsFit, Adds}
use Rattle.std.proofs.Common.{refl}
use Rattle.fact_values.proofs.Holding.{stirred_bounds}
use Rattle.fact_values.proofs.Grown.{facts_from, stirred_put, stirred_adds}
use Rattle.fact_values.proofs.facts.Facts.add_stirred.Goals as goal

pub invariant_of-self-2 : goal.invariant_of-self-2
invariant_of-self-2 c =
    let old : FactLists = record { depth = c.self.inside.depth; cells = c.self.inside.cells.entries; targets = c.self.inside.targets.entries; installed = c.self.inside.installed.entries; threads = c.self.inside.threads.keys; forks = c.self.inside.forks.keys; stirred = c.self.inside.stirred.keys } in
    let fit : IsFit old.depth (consequence (part.Stirred c.args.object) held.Nothing) = subst (λ (v : FactsValue). IsFit v.lists.depth (consequence (part.Stirred c.args.object) held.Nothing)) (sym c.self.view_is) c.requires in
    facts_from old (record old { stirred = c.insert.new.self.keys }) _ (stirred_put old c.insert.new.self.keys c.args.object c.in-Ok.ensures.updates.0) refl c.self.invariant
    (stirred_bounds (view old) c.args.object c.self.invariant.bounds fit.within)

pub returns-clause-adds : goal.returns-clause-adds
returns-clause-adds c =
    let old : FactLists = record { depth = c.self.inside.depth; cells = c.self.inside.cells.entries; targets = c.self.inside.targets.entries; installed = c.self.inside.installed.entries; threads = c.self.inside.threads.keys; forks = c.self.inside.forks.keys; stirred = c.self.inside.stirred.keys } in
    subst (λ (v : FactsValue). Adds (consequence (part.Stirred c.args.object) held.Nothing) c.in-Ok.grew v.lists (record old { stirred = c.insert.new.self.keys })) c.self.view_is
    (stirred_adds old c.insert.new.self.keys c.args.object c.in-Ok.grew c.in-Ok.ensures.updates.0 c.in-Ok.ensures.added c.in-Ok.ensures.unchanged)
