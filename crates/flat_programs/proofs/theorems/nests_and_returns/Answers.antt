use Rattle.flat_programs.proofs.Examples.{nests_and_returns}
use Rattle.flat_programs.proofs.theorems.nests_and_returns.Goals as goal

pub returns : goal.returns
returns c = nests_and_returns
