use Rattle.flat_programs.proofs.Whole.{flat_is_whole}
use Rattle.flat_programs.proofs.theorems.flat_is_whole.Goals as goal

pub returns : goal.returns
returns c = flat_is_whole
