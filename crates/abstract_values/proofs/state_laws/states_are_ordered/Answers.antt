use Rattle.abstract_values.proofs.Laws.{under_refl, under_trans, under_antisymmetric}
use Rattle.abstract_values.proofs.state_laws.states_are_ordered.Goals as goal

pub returns-clause-reflexive : goal.returns-clause-reflexive
returns-clause-reflexive c = under_refl

pub returns-clause-transitive : goal.returns-clause-transitive
returns-clause-transitive c = under_trans

pub returns-clause-antisymmetric : goal.returns-clause-antisymmetric
returns-clause-antisymmetric c = under_antisymmetric
