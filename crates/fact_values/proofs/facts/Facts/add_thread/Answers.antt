use Rattle.std.proofs.Common.{subst}
use Rattle.fact_values.specs.declared.part.Part.TheVariants as part
use Rattle.fact_values.specs.declared.part.Held.TheVariants as held
use Rattle.fact_values.specs.FactLists.{FactLists, FactsValue}
use Rattle.fact_values.specs.Facts.{consequence, Adds}
use Rattle.fact_values.proofs.Grown.{threads_adds}
use Rattle.fact_values.proofs.facts.Facts.add_thread.Goals as goal

pub returns-clause-adds : goal.returns-clause-adds
returns-clause-adds c =
    let old : FactLists = record { depth = c.self.inside.depth; cells = c.self.inside.cells.entries; targets = c.self.inside.targets.entries; installed = c.self.inside.installed.entries; threads = c.self.inside.threads.keys; forks = c.self.inside.forks.keys; stirred = c.self.inside.stirred.keys } in
    subst (λ (v : FactsValue). Adds (consequence (part.Thread c.args.function) held.Nothing) c.in-Ok.grew v.lists (record old { threads = c.insert.new.self.keys })) c.self.view_is
    (threads_adds old c.insert.new.self.keys c.args.function c.in-Ok.grew c.in-Ok.ensures.updates.0 c.in-Ok.ensures.added c.in-Ok.ensures.unchanged)
