use Rattle.run_model.proofs.Laws.{end_is_end}
use Rattle.run_model.proofs.law.end_is_end.Goals as goal

pub returns : goal.returns
returns c = end_is_end
