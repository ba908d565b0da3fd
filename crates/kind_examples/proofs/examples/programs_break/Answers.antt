use Rattle.std.proofs.Common.{refl}
use Rattle.posix_table.specs.Profile.{profile_rows}
use Rattle.kind_examples.proofs.examples.programs_break.Goals as goal

pub returns-clause-without_main : goal.returns-clause-without_main
unfolding profile_rows
returns-clause-without_main c = refl

pub returns-clause-main_of_an_int : goal.returns-clause-main_of_an_int
unfolding profile_rows
returns-clause-main_of_an_int c = refl

pub returns-clause-main_called : goal.returns-clause-main_called
unfolding profile_rows
returns-clause-main_called c = refl

pub returns-clause-undeclared : goal.returns-clause-undeclared
unfolding profile_rows
returns-clause-undeclared c = refl

pub returns-clause-first_of_two : goal.returns-clause-first_of_two
unfolding profile_rows
returns-clause-first_of_two c = refl

pub returns-clause-parameter_declared_again : goal.returns-clause-parameter_declared_again
unfolding profile_rows
returns-clause-parameter_declared_again c = refl

pub returns-clause-defined_nowhere : goal.returns-clause-defined_nowhere
unfolding profile_rows
returns-clause-defined_nowhere c = refl

pub returns-clause-initialised_twice : goal.returns-clause-initialised_twice
unfolding profile_rows
returns-clause-initialised_twice c = refl

pub returns-clause-library_as_value : goal.returns-clause-library_as_value
unfolding profile_rows
returns-clause-library_as_value c = refl

pub returns-clause-too_few_for_the_library : goal.returns-clause-too_few_for_the_library
unfolding profile_rows
returns-clause-too_few_for_the_library c = refl

pub returns-clause-no_handler : goal.returns-clause-no_handler
unfolding profile_rows
returns-clause-no_handler c = refl

pub returns-clause-action_by_place : goal.returns-clause-action_by_place
unfolding profile_rows
returns-clause-action_by_place c = refl

pub returns-clause-too_few_arguments : goal.returns-clause-too_few_arguments
unfolding profile_rows
returns-clause-too_few_arguments c = refl

pub returns-clause-object_called : goal.returns-clause-object_called
unfolding profile_rows
returns-clause-object_called c = refl

pub returns-clause-sum_of_pointers : goal.returns-clause-sum_of_pointers
unfolding profile_rows
returns-clause-sum_of_pointers c = refl

pub returns-clause-constant_assigned : goal.returns-clause-constant_assigned
unfolding profile_rows
returns-clause-constant_assigned c = refl

pub returns-clause-array_assigned : goal.returns-clause-array_assigned
unfolding profile_rows
returns-clause-array_assigned c = refl

pub returns-clause-array_without_size : goal.returns-clause-array_without_size
unfolding profile_rows
returns-clause-array_without_size c = refl

pub returns-clause-elements_without_size : goal.returns-clause-elements_without_size
unfolding profile_rows
returns-clause-elements_without_size c = refl

pub returns-clause-local_without_size : goal.returns-clause-local_without_size
unfolding profile_rows
returns-clause-local_without_size c = refl

pub returns-clause-member_without_size : goal.returns-clause-member_without_size
unfolding profile_rows
returns-clause-member_without_size c = refl

pub returns-clause-enumerator_past_int : goal.returns-clause-enumerator_past_int
unfolding profile_rows
returns-clause-enumerator_past_int c = refl

pub returns-clause-static_initializer : goal.returns-clause-static_initializer
unfolding profile_rows
returns-clause-static_initializer c = refl

pub returns-clause-case_twice : goal.returns-clause-case_twice
unfolding profile_rows
returns-clause-case_twice c = refl

pub returns-clause-goto_without_label : goal.returns-clause-goto_without_label
unfolding profile_rows
returns-clause-goto_without_label c = refl

pub returns-clause-built_in_structure : goal.returns-clause-built_in_structure
unfolding profile_rows
returns-clause-built_in_structure c = refl

pub returns-clause-tag_of_a_prototype : goal.returns-clause-tag_of_a_prototype
unfolding profile_rows
returns-clause-tag_of_a_prototype c = refl

pub returns-clause-begun_twice : goal.returns-clause-begun_twice
unfolding profile_rows
returns-clause-begun_twice c = refl

pub returns-clause-element_behind_a_pointer : goal.returns-clause-element_behind_a_pointer
unfolding profile_rows
returns-clause-element_behind_a_pointer c = refl
