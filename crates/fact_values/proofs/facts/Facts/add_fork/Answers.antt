use Rattle.std.proofs.Common.{subst}
use Rattle.fact_values.specs.declared.part.Part.TheVariants as part
use Rattle.fact_values.specs.declared.part.Held.TheVariants as held
use Rattle.fact_values.specs.FactLists.{FactLists, FactsValue}
use Rattle.fact_values.specs.Facts.{view, consequence, Adds}
use Rattle.std.proofs.Common.{refl}
use Rattle.fact_values.proofs.Holding.{fork_bounds}
use Rattle.fact_values.proofs.Grown.{facts_from, forks_put, forks_adds}
use Rattle.fact_values.proofs.facts.Facts.add_fork.Goals as goal

pub invariant_of-self-2 : goal.invariant_of-self-2
invariant_of-self-2 c =
    let old : FactLists = record { depth = c.self.inside.depth; cells = c.self.inside.cells.entries; targets = c.self.inside.targets.entries; installed = c.self.inside.installed.entries; threads = c.self.inside.threads.keys; forks = c.self.inside.forks.keys; stirred = c.self.inside.stirred.keys } in
    facts_from old (record old { forks = c.insert.new.self.keys }) _ (forks_put old c.insert.new.self.keys c.args.role c.args.function c.in-Ok.ensures.updates.0) refl c.self.invariant
    (fork_bounds (view old) c.args.role c.args.function c.self.invariant.bounds c.requires.within)

pub returns-clause-adds : goal.returns-clause-adds
returns-clause-adds c =
    let old : FactLists = record { depth = c.self.inside.depth; cells = c.self.inside.cells.entries; targets = c.self.inside.targets.entries; installed = c.self.inside.installed.entries; threads = c.self.inside.threads.keys; forks = c.self.inside.forks.keys; stirred = c.self.inside.stirred.keys } in
    subst (λ (v : FactsValue). Adds (consequence (part.Fork c.args.role c.args.function) held.Nothing) c.in-Ok.grew v.lists (record old { forks = c.insert.new.self.keys })) c.self.view_is
    (forks_adds old c.insert.new.self.keys c.args.role c.args.function c.in-Ok.grew c.in-Ok.ensures.updates.0 c.in-Ok.ensures.added c.in-Ok.ensures.unchanged)
