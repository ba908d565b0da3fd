use Rattle.abstract_values.proofs.Laws.{unknown_formed, known_formed, put_formed}
use Rattle.abstract_values.proofs.state_laws.states_stay_well_formed.Goals as goal

pub returns-clause-unknown : goal.returns-clause-unknown
returns-clause-unknown c = unknown_formed

pub returns-clause-value : goal.returns-clause-value
returns-clause-value c = known_formed

pub returns-clause-slots : goal.returns-clause-slots
returns-clause-slots c = put_formed
