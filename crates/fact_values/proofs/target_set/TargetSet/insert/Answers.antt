use Rattle.std.proofs.Common.{sym, subst, List}
use Rattle.std.specs.Prelude.{IfOk}
use Rattle.fact_values.specs.declared.object.Target.{Target}
use Rattle.fact_values.specs.Objects.{InsertsTarget}
use Rattle.fact_values.proofs.Keys.{has_besides}
use Rattle.fact_values.proofs.Exact.{target_total}
use Rattle.fact_values.proofs.target_set.TargetSet.insert.Goals as goal
use Rattle.fact_values.proofs.target_set.TargetSet.insert.Goals.{in-Ok, in-Err}

pub returns-clause-inserts : goal.returns-clause-inserts
returns-clause-inserts c = elim c.match-insert.branch [
  | in-Ok w ↦ subst (λ r. IfOk r (λ grew. InsertsTarget c.args.target grew c.args.self.now c.insert.new.self.keys)) (sym w.result-is)
      (subst (λ (old : List Target). InsertsTarget c.args.target w.in-Ok.grew old c.insert.new.self.keys) c.self.view_is record {
        has = has_besides target_total c.self.inside.items.keys c.insert.new.self.keys c.args.target w.in-Ok.ensures.updates.0;
        grew = w.in-Ok.ensures.added;
        same = w.in-Ok.ensures.unchanged;
      })
  | in-Err w ↦ subst (λ r. IfOk r (λ grew. InsertsTarget c.args.target grew c.args.self.now c.insert.new.self.keys)) (sym w.result-is) tt
]
