use Rattle.flat_programs.proofs.Examples.{rand_in_exit}
use Rattle.flat_programs.proofs.theorems.rand_in_exit.Goals as goal

pub returns : goal.returns
returns c = rand_in_exit
