use Rattle.run_model.proofs.Examples.{mended}
use Rattle.run_model.proofs.example.runs_break_none.Goals as goal

pub returns : goal.returns
returns c = mended
