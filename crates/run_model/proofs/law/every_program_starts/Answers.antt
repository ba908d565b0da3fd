use Rattle.run_model.proofs.Starts.{has_start}
use Rattle.run_model.proofs.law.every_program_starts.Goals as goal

pub returns : goal.returns
returns c = has_start
