use Rattle.run_model.proofs.StepLaws.{kill_is_not_caught}
use Rattle.run_model.proofs.step_law.kill_is_not_caught.Goals as goal

pub returns : goal.returns
returns c = kill_is_not_caught
