use Rattle.run_model.proofs.StepLaws.{exit_ends}
use Rattle.run_model.proofs.step_law.exit_ends.Goals as goal

pub returns : goal.returns
returns c = exit_ends
