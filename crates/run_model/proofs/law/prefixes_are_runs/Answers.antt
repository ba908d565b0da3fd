use Rattle.run_model.proofs.Laws.{prefixes}
use Rattle.run_model.proofs.law.prefixes_are_runs.Goals as goal

pub returns : goal.returns
returns c = prefixes
