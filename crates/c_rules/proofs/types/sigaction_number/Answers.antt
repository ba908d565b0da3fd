use Rattle.std.proofs.Common.{refl}
use Rattle.c_rules.proofs.types.sigaction_number.Goals as goal

pub returns : goal.returns
returns c = refl
