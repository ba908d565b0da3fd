use Rattle.std.proofs.Common.{refl}
use Rattle.posix_table.specs.Profile.{profile_rows}
use Rattle.kind_examples.proofs.examples.programs_fit.Goals as goal

pub returns-clause-least : goal.returns-clause-least
unfolding profile_rows
returns-clause-least c = refl

pub returns-clause-built_in_names : goal.returns-clause-built_in_names
unfolding profile_rows
returns-clause-built_in_names c = refl

pub returns-clause-own_initializer : goal.returns-clause-own_initializer
unfolding profile_rows
returns-clause-own_initializer c = refl

pub returns-clause-parameter_hidden : goal.returns-clause-parameter_hidden
unfolding profile_rows
returns-clause-parameter_hidden c = refl

pub returns-clause-defined_behind : goal.returns-clause-defined_behind
unfolding profile_rows
returns-clause-defined_behind c = refl

pub returns-clause-initialised_apart : goal.returns-clause-initialised_apart
unfolding profile_rows
returns-clause-initialised_apart c = refl

pub returns-clause-enumerator_in_sizeof : goal.returns-clause-enumerator_in_sizeof
unfolding profile_rows
returns-clause-enumerator_in_sizeof c = refl

pub returns-clause-library_hidden : goal.returns-clause-library_hidden
unfolding profile_rows
returns-clause-library_hidden c = refl

pub returns-clause-library_called : goal.returns-clause-library_called
unfolding profile_rows
returns-clause-library_called c = refl

pub returns-clause-handler_set : goal.returns-clause-handler_set
unfolding profile_rows
returns-clause-handler_set c = refl

pub returns-clause-zero_action : goal.returns-clause-zero_action
unfolding profile_rows
returns-clause-zero_action c = refl

pub returns-clause-difference_of_pointers : goal.returns-clause-difference_of_pointers
unfolding profile_rows
returns-clause-difference_of_pointers c = refl

pub returns-clause-array_parameter : goal.returns-clause-array_parameter
unfolding profile_rows
returns-clause-array_parameter c = refl

pub returns-clause-array_elsewhere : goal.returns-clause-array_elsewhere
unfolding profile_rows
returns-clause-array_elsewhere c = refl

pub returns-clause-array_initialised : goal.returns-clause-array_initialised
unfolding profile_rows
returns-clause-array_initialised c = refl

pub returns-clause-array_pointed_to : goal.returns-clause-array_pointed_to
unfolding profile_rows
returns-clause-array_pointed_to c = refl

pub returns-clause-goto_forward : goal.returns-clause-goto_forward
unfolding profile_rows
returns-clause-goto_forward c = refl

pub returns-clause-own_structure : goal.returns-clause-own_structure
unfolding profile_rows
returns-clause-own_structure c = refl

pub returns-clause-own_pointer : goal.returns-clause-own_pointer
unfolding profile_rows
returns-clause-own_pointer c = refl

pub returns-clause-element_of_an_array : goal.returns-clause-element_of_an_array
unfolding profile_rows
returns-clause-element_of_an_array c = refl
