use Rattle.run_model.proofs.Laws.{arrivals_keep_mask}
use Rattle.run_model.proofs.law.arrivals_keep_mask.Goals as goal

pub returns : goal.returns
returns c = arrivals_keep_mask
