use Rattle.std.proofs.Common.{refl}
use Rattle.c_grammar.proofs.law.keywords_are_those_of_the_lexis.Goals as goal

pub returns : goal.returns
returns c = refl
