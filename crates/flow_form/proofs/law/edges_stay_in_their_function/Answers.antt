use Rattle.flow_form.proofs.Laws.{edges_stay_there}
use Rattle.flow_form.proofs.law.edges_stay_in_their_function.Goals as goal

pub returns : goal.returns
returns c = edges_stay_there
