use Rattle.run_model.proofs.Cases.{cases}
use Rattle.run_model.proofs.case.cases_are_decided.Goals as goal

pub returns : goal.returns
returns c = cases
