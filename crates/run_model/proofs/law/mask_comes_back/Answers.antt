use Rattle.run_model.proofs.Laws.{mask_comes_back}
use Rattle.run_model.proofs.law.mask_comes_back.Goals as goal

pub returns : goal.returns
returns c = mask_comes_back
