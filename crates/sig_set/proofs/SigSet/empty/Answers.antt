use Rattle.sig_set.specs.Members.{signals_in_range}
use Rattle.sig_set.proofs.Operations.{none_is_empty}
use Rattle.sig_set.proofs.SigSet.empty.Goals as goal

pub returns-clause-value : goal.returns-clause-value
returns-clause-value c = none_is_empty

pub returns-clause-range : goal.returns-clause-range
returns-clause-range c = signals_in_range 0
