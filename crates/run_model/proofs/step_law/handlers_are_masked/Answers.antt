use Rattle.run_model.proofs.StepLaws.{handlers_are_masked}
use Rattle.run_model.proofs.step_law.handlers_are_masked.Goals as goal

pub returns : goal.returns
returns c = handlers_are_masked
