use Rattle.flat_programs.proofs.Examples.{rand_above_handler}
use Rattle.flat_programs.proofs.theorems.rand_above_handler.Goals as goal

pub returns : goal.returns
returns c = rand_above_handler
