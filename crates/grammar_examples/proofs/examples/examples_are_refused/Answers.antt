use Rattle.grammar_examples.proofs.Computed as computed
use Rattle.grammar_examples.proofs.examples.examples_are_refused.Goals as goal

pub returns-clause-type_declared_again : goal.returns-clause-type_declared_again
returns-clause-type_declared_again c = computed.type_declared_again

pub returns-clause-difference_assigned : goal.returns-clause-difference_assigned
returns-clause-difference_assigned c = computed.difference_assigned

pub returns-clause-case_without_a_switch : goal.returns-clause-case_without_a_switch
returns-clause-case_without_a_switch c = computed.case_without_a_switch

pub returns-clause-break_without_a_loop : goal.returns-clause-break_without_a_loop
returns-clause-break_without_a_loop c = computed.break_without_a_loop

pub returns-clause-brackets_round_a_name : goal.returns-clause-brackets_round_a_name
returns-clause-brackets_round_a_name c = computed.brackets_round_a_name

pub returns-clause-long_char : goal.returns-clause-long_char
returns-clause-long_char c = computed.long_char

pub returns-clause-function_with_a_value : goal.returns-clause-function_with_a_value
returns-clause-function_with_a_value c = computed.function_with_a_value

pub returns-clause-parameter_named_as_its_type : goal.returns-clause-parameter_named_as_its_type
returns-clause-parameter_named_as_its_type c = computed.parameter_named_as_its_type

pub returns-clause-member_named_as_its_type : goal.returns-clause-member_named_as_its_type
returns-clause-member_named_as_its_type c = computed.member_named_as_its_type

pub returns-clause-enumerator_named_as_its_type : goal.returns-clause-enumerator_named_as_its_type
returns-clause-enumerator_named_as_its_type c = computed.enumerator_named_as_its_type
