use Rattle.std.proofs.Common.{arith}
use Rattle.sig_set.specs.Masks.{mask_of-signals_of}
use Rattle.sig_set.proofs.SigSetPartialEq.eq.Goals as goal

pub returns : goal.returns
returns c = grind (arith, mask_of-signals_of)
