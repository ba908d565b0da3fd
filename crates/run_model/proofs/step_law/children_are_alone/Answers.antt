use Rattle.run_model.proofs.StepLaws.{children_are_alone}
use Rattle.run_model.proofs.step_law.children_are_alone.Goals as goal

pub returns : goal.returns
returns c = children_are_alone
