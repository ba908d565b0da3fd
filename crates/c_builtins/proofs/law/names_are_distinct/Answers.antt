use Rattle.std.proofs.Common.{refl}
use Rattle.c_builtins.proofs.law.names_are_distinct.Goals as goal

pub returns : goal.returns
returns c = record { ordinary = refl; of_structures = refl }
