use Rattle.run_model.proofs.Examples.{breaking}
use Rattle.run_model.proofs.example.runs_break_each_rule.Goals as goal

pub returns : goal.returns
returns c = breaking
