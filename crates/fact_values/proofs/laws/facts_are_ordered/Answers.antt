use Rattle.fact_values.proofs.Holding.{below_refl, below_trans, holds_weaker}
use Rattle.fact_values.proofs.Ordered.{alike}
use Rattle.fact_values.proofs.laws.facts_are_ordered.Goals as goal

pub returns-clause-reflexive : goal.returns-clause-reflexive
returns-clause-reflexive c = below_refl

pub returns-clause-transitive : goal.returns-clause-transitive
returns-clause-transitive c = below_trans

pub returns-clause-alike : goal.returns-clause-alike
returns-clause-alike c = alike

pub returns-clause-weaker : goal.returns-clause-weaker
returns-clause-weaker c = holds_weaker
