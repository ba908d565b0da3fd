use Rattle.c_grammar.proofs.Programs.{unique}
use Rattle.c_grammar.proofs.law.equal_spellings_are_equal_trees.Goals as goal

pub returns : goal.returns
returns c = unique
