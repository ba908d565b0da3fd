use Rattle.flat_programs.proofs.Laws.{errno_is_int}
use Rattle.flat_programs.proofs.theorems.errno_is_int.Goals as goal

pub returns : goal.returns
returns c = errno_is_int
