use Rattle.std.proofs.Common.{refl}
use Rattle.c_tree.specs.TypeWords.{built_in_types}
use Rattle.c_environment.proofs.law.type_names_are_the_grammars.Goals as goal

pub returns : goal.returns
unfolding built_in_types
returns c = refl
