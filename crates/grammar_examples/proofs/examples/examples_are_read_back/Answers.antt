use Rattle.grammar_examples.proofs.Computed as computed
use Rattle.grammar_examples.proofs.examples.examples_are_read_back.Goals as goal

pub returns-clause-array_of_pointers : goal.returns-clause-array_of_pointers
returns-clause-array_of_pointers c = computed.array_of_pointers

pub returns-clause-pointer_to_function : goal.returns-clause-pointer_to_function
returns-clause-pointer_to_function c = computed.pointer_to_function

pub returns-clause-differences : goal.returns-clause-differences
returns-clause-differences c = computed.differences

pub returns-clause-assignments : goal.returns-clause-assignments
returns-clause-assignments c = computed.assignments

pub returns-clause-choices : goal.returns-clause-choices
returns-clause-choices c = computed.choices

pub returns-clause-inner_else : goal.returns-clause-inner_else
returns-clause-inner_else c = computed.inner_else

pub returns-clause-size_of_a_type : goal.returns-clause-size_of_a_type
returns-clause-size_of_a_type c = computed.size_of_a_type

pub returns-clause-size_of_a_value : goal.returns-clause-size_of_a_value
returns-clause-size_of_a_value c = computed.size_of_a_value

pub returns-clause-cast_of_a_minus : goal.returns-clause-cast_of_a_minus
returns-clause-cast_of_a_minus c = computed.cast_of_a_minus

pub returns-clause-minus_behind_brackets : goal.returns-clause-minus_behind_brackets
returns-clause-minus_behind_brackets c = computed.minus_behind_brackets

pub returns-clause-struct_with_value : goal.returns-clause-struct_with_value
returns-clause-struct_with_value c = computed.struct_with_value

pub returns-clause-enumeration : goal.returns-clause-enumeration
returns-clause-enumeration c = computed.enumeration

pub returns-clause-cast_to_a_new_type : goal.returns-clause-cast_to_a_new_type
returns-clause-cast_to_a_new_type c = computed.cast_to_a_new_type

pub returns-clause-for_with_declaration : goal.returns-clause-for_with_declaration
returns-clause-for_with_declaration c = computed.for_with_declaration

pub returns-clause-cases : goal.returns-clause-cases
returns-clause-cases c = computed.cases

pub returns-clause-jump : goal.returns-clause-jump
returns-clause-jump c = computed.jump

pub returns-clause-postfix : goal.returns-clause-postfix
returns-clause-postfix c = computed.postfix

pub returns-clause-size_of_its_own_name : goal.returns-clause-size_of_its_own_name
returns-clause-size_of_its_own_name c = computed.size_of_its_own_name
