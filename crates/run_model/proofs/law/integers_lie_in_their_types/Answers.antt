use Rattle.run_model.proofs.Integers.{integers_lie_in_their_types}
use Rattle.run_model.proofs.law.integers_lie_in_their_types.Goals as goal

pub returns : goal.returns
returns c = integers_lie_in_their_types
