use Rattle.run_model.proofs.StepLaws.{order_of_fork_handlers}
use Rattle.run_model.proofs.step_law.order_of_fork_handlers.Goals as goal

pub returns : goal.returns
returns c = order_of_fork_handlers
