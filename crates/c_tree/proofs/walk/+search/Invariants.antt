use Rattle.std.proofs.Common.{◌≡◌, map, option_map, drop}
use Rattle.c_tree.specs.Passing.{pass_expressions, pass_sizes, pass_specifiers, pass_members, pass_declarators, pass_enumerators, pass_parameters}
use Rattle.c_tree.specs.Progress.{pass}
use Rattle.c_tree.specs.Search.{progress}
use Rattle.c_tree.specs.View.{view_expression, view_specifier, view_declarator, view_member, view_enumerator, view_parameter, expressions_of, sizes_of, specifiers_of, members_of, declarators_of, enumerators_of, parameters_of}
use Rattle.c_tree.proofs.walk.+search.Given as goal

abbrev pub invariant-search_expressions-loop-e : goal.invariant-search_expressions-loop-e
invariant-search_expressions-loop-e l = pass_expressions pass (progress l.search) (expressions_of (map view_expression (drop l.e-index l.all))) ≡ pass_expressions pass (progress l.fn.search) (expressions_of (map view_expression l.fn.all))

abbrev pub invariant-search_sizes-loop-size : goal.invariant-search_sizes-loop-size
invariant-search_sizes-loop-size l = pass_sizes pass (progress l.search) (sizes_of (map (option_map view_expression) (drop l.size-index l.all))) ≡ pass_sizes pass (progress l.fn.search) (sizes_of (map (option_map view_expression) l.fn.all))

abbrev pub invariant-search_specifiers-loop-word : goal.invariant-search_specifiers-loop-word
invariant-search_specifiers-loop-word l = pass_specifiers pass (progress l.search) (specifiers_of (map view_specifier (drop l.word-index l.all))) ≡ pass_specifiers pass (progress l.fn.search) (specifiers_of (map view_specifier l.fn.all))

abbrev pub invariant-search_members-loop-member : goal.invariant-search_members-loop-member
invariant-search_members-loop-member l = pass_members pass (progress l.search) (members_of (map view_member (drop l.member-index l.all))) ≡ pass_members pass (progress l.fn.search) (members_of (map view_member l.fn.all))

abbrev pub invariant-search_declarators-loop-declarator : goal.invariant-search_declarators-loop-declarator
invariant-search_declarators-loop-declarator l = pass_declarators pass (progress l.search) (declarators_of (map view_declarator (drop l.declarator-index l.all))) ≡ pass_declarators pass (progress l.fn.search) (declarators_of (map view_declarator l.fn.all))

abbrev pub invariant-search_enumerators-loop-enumerator : goal.invariant-search_enumerators-loop-enumerator
invariant-search_enumerators-loop-enumerator l = pass_enumerators pass (progress l.search) (enumerators_of (map view_enumerator (drop l.enumerator-index l.all))) ≡ pass_enumerators pass (progress l.fn.search) (enumerators_of (map view_enumerator l.fn.all))

abbrev pub invariant-search_parameters-loop-parameter : goal.invariant-search_parameters-loop-parameter
invariant-search_parameters-loop-parameter l = pass_parameters pass (progress l.search) (parameters_of (map view_parameter (drop l.parameter-index l.all))) ≡ pass_parameters pass (progress l.fn.search) (parameters_of (map view_parameter l.fn.all))
