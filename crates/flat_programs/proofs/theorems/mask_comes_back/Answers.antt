use Rattle.flat_programs.proofs.Laws.{mask_comes_back}
use Rattle.flat_programs.proofs.theorems.mask_comes_back.Goals as goal

pub returns : goal.returns
returns c = mask_comes_back
