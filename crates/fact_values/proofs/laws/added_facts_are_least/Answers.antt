use Rattle.fact_values.proofs.Ordered.{least_none, least_more}
use Rattle.fact_values.proofs.laws.added_facts_are_least.Goals as goal

pub returns-clause-none : goal.returns-clause-none
returns-clause-none c = least_none

pub returns-clause-more : goal.returns-clause-more
returns-clause-more c = least_more
