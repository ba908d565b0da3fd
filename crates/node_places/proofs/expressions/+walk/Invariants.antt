use Rattle.std.proofs.Common.{◌≡◌, false, map, option_map, drop}
use Rattle.node_places.specs.Walked.{walked}
use Rattle.node_places.specs.Past.{past_expressions, past_sizes, past_specifiers, past_members, past_declarators, past_enumerators, past_parameters}
use Rattle.c_tree.specs.View.{view_expression, view_specifier, view_declarator, view_member, view_enumerator, view_parameter, expressions_of, sizes_of, specifiers_of, members_of, declarators_of, enumerators_of, parameters_of}
use Rattle.node_places.proofs.expressions.+walk.Given as goal

abbrev pub invariant-walk_arguments-loop-e : goal.invariant-walk_arguments-loop-e
invariant-walk_arguments-loop-e l = past_expressions l.behind (walked l.walk) (expressions_of (map view_expression (drop l.e-index l.all))) ≡ past_expressions false (walked l.fn.walk) (expressions_of (map view_expression l.fn.all))

abbrev pub invariant-walk_sizes-loop-size : goal.invariant-walk_sizes-loop-size
invariant-walk_sizes-loop-size l = past_sizes (walked l.walk) (sizes_of (map (option_map view_expression) (drop l.size-index l.all))) ≡ past_sizes (walked l.fn.walk) (sizes_of (map (option_map view_expression) l.fn.all))

abbrev pub invariant-walk_specifiers-loop-word : goal.invariant-walk_specifiers-loop-word
invariant-walk_specifiers-loop-word l = past_specifiers (walked l.walk) (specifiers_of (map view_specifier (drop l.word-index l.all))) ≡ past_specifiers (walked l.fn.walk) (specifiers_of (map view_specifier l.fn.all))

abbrev pub invariant-walk_members-loop-member : goal.invariant-walk_members-loop-member
invariant-walk_members-loop-member l = past_members (walked l.walk) (members_of (map view_member (drop l.member-index l.all))) ≡ past_members (walked l.fn.walk) (members_of (map view_member l.fn.all))

abbrev pub invariant-walk_declarators-loop-declarator : goal.invariant-walk_declarators-loop-declarator
invariant-walk_declarators-loop-declarator l = past_declarators l.behind (walked l.walk) (declarators_of (map view_declarator (drop l.declarator-index l.all))) ≡ past_declarators false (walked l.fn.walk) (declarators_of (map view_declarator l.fn.all))

abbrev pub invariant-walk_enumerators-loop-enumerator : goal.invariant-walk_enumerators-loop-enumerator
invariant-walk_enumerators-loop-enumerator l = past_enumerators l.behind (walked l.walk) (enumerators_of (map view_enumerator (drop l.enumerator-index l.all))) ≡ past_enumerators false (walked l.fn.walk) (enumerators_of (map view_enumerator l.fn.all))

abbrev pub invariant-walk_all_parameters-loop-parameter : goal.invariant-walk_all_parameters-loop-parameter
invariant-walk_all_parameters-loop-parameter l = past_parameters l.behind (walked l.walk) (parameters_of (map view_parameter (drop l.parameter-index l.all))) ≡ past_parameters false (walked l.fn.walk) (parameters_of (map view_parameter l.fn.all))
