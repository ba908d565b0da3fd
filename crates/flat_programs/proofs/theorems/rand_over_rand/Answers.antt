use Rattle.flat_programs.proofs.Examples.{rand_over_rand}
use Rattle.flat_programs.proofs.theorems.rand_over_rand.Goals as goal

pub returns : goal.returns
returns c = rand_over_rand
