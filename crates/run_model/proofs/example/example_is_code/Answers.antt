use Rattle.run_model.proofs.Lawful.{example_is_code}
use Rattle.run_model.proofs.example.example_is_code.Goals as goal

pub returns : goal.returns
returns c = example_is_code
