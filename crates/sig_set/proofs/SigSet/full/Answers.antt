use Rattle.sig_set.specs.Members.{signals_in_range}
use Rattle.sig_set.proofs.Operations.{ones_are_full, ones_have}
use Rattle.sig_set.proofs.SigSet.full.Goals as goal

pub returns-clause-value : goal.returns-clause-value
returns-clause-value c = ones_are_full

pub returns-clause-range : goal.returns-clause-range
returns-clause-range c = signals_in_range 268435455

pub returns-clause-all : goal.returns-clause-all
returns-clause-all c = λ signal least greatest. ones_have signal least greatest
