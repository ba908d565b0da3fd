use Rattle.flat_programs.proofs.NoBreach.{sound}
use Rattle.flat_programs.proofs.theorems.soundness.Goals as goal

pub returns : goal.returns
returns c = sound
