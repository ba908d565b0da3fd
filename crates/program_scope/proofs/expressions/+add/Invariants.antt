use Rattle.std.proofs.Common.{◌≡◌, map, option_map, drop}
use Rattle.program_scope.specs.With.{with_expressions, with_sizes, with_specifiers, with_members, with_declarators, with_enumerators, with_parameters}
use Rattle.c_tree.specs.View.{view_expression, view_specifier, view_declarator, view_member, view_enumerator, view_parameter, expressions_of, sizes_of, specifiers_of, members_of, declarators_of, enumerators_of, parameters_of}
use Rattle.program_scope.proofs.expressions.+add.Given as goal

abbrev pub invariant-add_expressions-loop-e : goal.invariant-add_expressions-loop-e
invariant-add_expressions-loop-e l = with_expressions l.names (expressions_of (map view_expression (drop l.e-index l.all))) ≡ with_expressions l.fn.names (expressions_of (map view_expression l.fn.all))

abbrev pub invariant-add_sizes-loop-size : goal.invariant-add_sizes-loop-size
invariant-add_sizes-loop-size l = with_sizes l.names (sizes_of (map (option_map view_expression) (drop l.size-index l.all))) ≡ with_sizes l.fn.names (sizes_of (map (option_map view_expression) l.fn.all))

abbrev pub invariant-add_specifiers-loop-word : goal.invariant-add_specifiers-loop-word
invariant-add_specifiers-loop-word l = with_specifiers l.names (specifiers_of (map view_specifier (drop l.word-index l.all))) ≡ with_specifiers l.fn.names (specifiers_of (map view_specifier l.fn.all))

abbrev pub invariant-add_members-loop-member : goal.invariant-add_members-loop-member
invariant-add_members-loop-member l = with_members l.names (members_of (map view_member (drop l.member-index l.all))) ≡ with_members l.fn.names (members_of (map view_member l.fn.all))

abbrev pub invariant-add_declarators-loop-declarator : goal.invariant-add_declarators-loop-declarator
invariant-add_declarators-loop-declarator l = with_declarators l.names (declarators_of (map view_declarator (drop l.declarator-index l.all))) ≡ with_declarators l.fn.names (declarators_of (map view_declarator l.fn.all))

abbrev pub invariant-add_enumerators-loop-enumerator : goal.invariant-add_enumerators-loop-enumerator
invariant-add_enumerators-loop-enumerator l = with_enumerators l.names (enumerators_of (map view_enumerator (drop l.enumerator-index l.all))) ≡ with_enumerators l.fn.names (enumerators_of (map view_enumerator l.fn.all))

abbrev pub invariant-add_parameters-loop-parameter : goal.invariant-add_parameters-loop-parameter
invariant-add_parameters-loop-parameter l = with_parameters l.names (parameters_of (map view_parameter (drop l.parameter-index l.all))) ≡ with_parameters l.fn.names (parameters_of (map view_parameter l.fn.all))
