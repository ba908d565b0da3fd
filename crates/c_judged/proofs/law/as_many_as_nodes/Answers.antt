use Rattle.c_judged.proofs.Aligned as aligned
use Rattle.c_judged.proofs.law.as_many_as_nodes.Goals as goal

pub returns : goal.returns
returns c = aligned.as_many
