use Rattle.std.proofs.Common.{◌≡◌, ◌<◌, ◌++◌, ◌&&◌, None, map, option_map, length, drop}
use Rattle.c_judgements.specs.Parts.{added}
use Rattle.c_kinds.specs.View.{view}
use Rattle.c_tree.specs.View as tree
use Rattle.c_tree.specs.View.{view_expression, view_specifier, view_declarator, view_member, view_enumerator, view_parameter, expressions_of, specifiers_of, declarators_of, enumerators_of, parameters_of}
use Rattle.c_environment.specs.Behind as behind
use Rattle.c_environment.specs.Seen.{seen_type, seen_members, seen_environment}
use Rattle.c_rules.specs.Seen.{seen_operands}
use Rattle.c_declared.specs.Faults as faults
use Rattle.c_declared.specs.Nodes as nodes
use Rattle.c_declared.specs.Seen.{shown}
use Rattle.c_declared.specs.Sizes as sizes
use Rattle.c_declared.proofs.walk.+walk.Given as goal

abbrev pub invariant-walk_all-loop-e : goal.invariant-walk_all-loop-e
invariant-walk_all-loop-e l =
    (seen_operands l.operands.items ++ nodes.operands l.table (seen_environment l.env) (expressions_of (map view_expression (drop l.e-index l.all))) ≡ nodes.operands l.fn.table (seen_environment l.fn.env) (expressions_of (map view_expression l.fn.all)))
    × (added (nodes.said_expressions l.table (seen_environment l.env) (expressions_of (map view_expression (drop l.e-index l.all)))).all (shown l.out) ≡ added (nodes.said_expressions l.fn.table (seen_environment l.fn.env) (expressions_of (map view_expression l.fn.all))).all (shown l.fn.out))
    × (behind.behind_expressions (seen_environment l.env) (expressions_of (map view_expression (drop l.e-index l.all))) ≡ behind.behind_expressions (seen_environment l.fn.env) (expressions_of (map view_expression l.fn.all)))
    × (0 < length (shown l.out))

abbrev pub invariant-walk_sizes-loop-one : goal.invariant-walk_sizes-loop-one
invariant-walk_sizes-loop-one l =
    ((l.settled && (nodes.said_sizes l.table (seen_environment l.env) (tree.sizes_of (map (option_map view_expression) (drop l.one-index l.all)))).settled) ≡ (nodes.said_sizes l.fn.table (seen_environment l.fn.env) (tree.sizes_of (map (option_map view_expression) l.fn.all))).settled)
    × ((l.are_sizes && sizes.are_sizes (seen_environment l.env) (tree.sizes_of (map (option_map view_expression) (drop l.one-index l.all)))) ≡ sizes.are_sizes (seen_environment l.fn.env) (tree.sizes_of (map (option_map view_expression) l.fn.all)))
    × (added (nodes.said_sizes l.table (seen_environment l.env) (tree.sizes_of (map (option_map view_expression) (drop l.one-index l.all)))).all (shown l.out) ≡ added (nodes.said_sizes l.fn.table (seen_environment l.fn.env) (tree.sizes_of (map (option_map view_expression) l.fn.all))).all (shown l.fn.out))
    × (behind.behind_sizes (seen_environment l.env) (tree.sizes_of (map (option_map view_expression) (drop l.one-index l.all))) ≡ behind.behind_sizes (seen_environment l.fn.env) (tree.sizes_of (map (option_map view_expression) l.fn.all)))
    × (0 < length (shown l.out))

abbrev pub invariant-walk_specifiers-loop-word : goal.invariant-walk_specifiers-loop-word
invariant-walk_specifiers-loop-word l =
    ((l.settled && (nodes.said_specifiers l.table (seen_environment l.env) (specifiers_of (map view_specifier (drop l.word-index l.all)))).settled) ≡ (nodes.said_specifiers l.fn.table (seen_environment l.fn.env) (specifiers_of (map view_specifier l.fn.all))).settled)
    × (faults.faults_of_both l.faults (faults.faults_specifiers (seen_environment l.env) (specifiers_of (map view_specifier (drop l.word-index l.all)))) ≡ faults.faults_specifiers (seen_environment l.fn.env) (specifiers_of (map view_specifier l.fn.all)))
    × (added (nodes.said_specifiers l.table (seen_environment l.env) (specifiers_of (map view_specifier (drop l.word-index l.all)))).all (shown l.out) ≡ added (nodes.said_specifiers l.fn.table (seen_environment l.fn.env) (specifiers_of (map view_specifier l.fn.all))).all (shown l.fn.out))
    × (behind.behind_specifiers (seen_environment l.env) (specifiers_of (map view_specifier (drop l.word-index l.all))) ≡ behind.behind_specifiers (seen_environment l.fn.env) (specifiers_of (map view_specifier l.fn.all)))
    × (0 < length (shown l.out))

abbrev pub invariant-walk_members-loop-one : goal.invariant-walk_members-loop-one
invariant-walk_members-loop-one l =
    ((l.settled && (nodes.said_members l.table (seen_environment l.env) (seen_members l.earlier) (tree.members_of (map view_member (drop l.one-index l.all)))).settled) ≡ (nodes.said_members l.fn.table (seen_environment l.fn.env) (seen_members l.fn.earlier) (tree.members_of (map view_member l.fn.all))).settled)
    × (faults.faults_of_both l.faults (faults.faults_members (seen_environment l.env) (tree.members_of (map view_member (drop l.one-index l.all)))) ≡ faults.faults_members (seen_environment l.fn.env) (tree.members_of (map view_member l.fn.all)))
    × (behind.members_of (seen_environment l.env) (seen_members l.earlier) (tree.members_of (map view_member (drop l.one-index l.all))) ≡ behind.members_of (seen_environment l.fn.env) (seen_members l.fn.earlier) (tree.members_of (map view_member l.fn.all)))
    × (added (nodes.said_members l.table (seen_environment l.env) (seen_members l.earlier) (tree.members_of (map view_member (drop l.one-index l.all)))).all (shown l.out) ≡ added (nodes.said_members l.fn.table (seen_environment l.fn.env) (seen_members l.fn.earlier) (tree.members_of (map view_member l.fn.all))).all (shown l.fn.out))
    × (behind.behind_members (seen_environment l.env) (tree.members_of (map view_member (drop l.one-index l.all))) ≡ behind.behind_members (seen_environment l.fn.env) (tree.members_of (map view_member l.fn.all)))
    × (0 < length (shown l.out))

abbrev pub invariant-walk_declarators-loop-d : goal.invariant-walk_declarators-loop-d
invariant-walk_declarators-loop-d l =
    ((l.settled && (nodes.said_declarators l.table (seen_environment l.env) (seen_members l.earlier) (option_map (λ w. view_specifier w.now) l.word) (seen_type l.of) (declarators_of (map view_declarator (drop l.d-index l.all)))).settled) ≡ (nodes.said_declarators l.fn.table (seen_environment l.fn.env) (seen_members l.fn.earlier) (option_map (λ w. view_specifier w.now) l.fn.word) (seen_type l.fn.of) (declarators_of (map view_declarator l.fn.all))).settled)
    × (behind.declared_members (seen_environment l.env) (seen_members l.earlier) (seen_type l.of) (declarators_of (map view_declarator (drop l.d-index l.all))) ≡ behind.declared_members (seen_environment l.fn.env) (seen_members l.fn.earlier) (seen_type l.fn.of) (declarators_of (map view_declarator l.fn.all)))
    × (added (nodes.said_declarators l.table (seen_environment l.env) (seen_members l.earlier) (option_map (λ w. view_specifier w.now) l.word) (seen_type l.of) (declarators_of (map view_declarator (drop l.d-index l.all)))).all (shown l.out) ≡ added (nodes.said_declarators l.fn.table (seen_environment l.fn.env) (seen_members l.fn.earlier) (option_map (λ w. view_specifier w.now) l.fn.word) (seen_type l.fn.of) (declarators_of (map view_declarator l.fn.all))).all (shown l.fn.out))
    × (behind.behind_declarators (seen_environment l.env) (declarators_of (map view_declarator (drop l.d-index l.all))) ≡ behind.behind_declarators (seen_environment l.fn.env) (declarators_of (map view_declarator l.fn.all)))
    × (0 < length (shown l.out))

abbrev pub invariant-walk_enumerators-loop-one : goal.invariant-walk_enumerators-loop-one
invariant-walk_enumerators-loop-one l =
    ((l.settled && (nodes.said_enumerators l.table (seen_environment l.env) l.previous (enumerators_of (map view_enumerator (drop l.one-index l.all)))).settled) ≡ (nodes.said_enumerators l.fn.table (seen_environment l.fn.env) None (enumerators_of (map view_enumerator l.fn.all))).settled)
    × (added (nodes.said_enumerators l.table (seen_environment l.env) l.previous (enumerators_of (map view_enumerator (drop l.one-index l.all)))).all (shown l.out) ≡ added (nodes.said_enumerators l.fn.table (seen_environment l.fn.env) None (enumerators_of (map view_enumerator l.fn.all))).all (shown l.fn.out))
    × (behind.behind_enumerators (seen_environment l.env) l.previous (enumerators_of (map view_enumerator (drop l.one-index l.all))) ≡ behind.behind_enumerators (seen_environment l.fn.env) None (enumerators_of (map view_enumerator l.fn.all)))
    × (0 < length (shown l.out))

abbrev pub invariant-walk_parameters-loop-one : goal.invariant-walk_parameters-loop-one
invariant-walk_parameters-loop-one l =
    ((l.settled && (nodes.said_parameters l.table l.has_body (seen_environment l.env) (parameters_of (map view_parameter (drop l.one-index l.all)))).settled) ≡ (nodes.said_parameters l.fn.table l.fn.has_body (seen_environment l.fn.env) (parameters_of (map view_parameter l.fn.all))).settled)
    × (faults.faults_of_both l.faults (faults.faults_parameters l.has_body (seen_environment l.env) (parameters_of (map view_parameter (drop l.one-index l.all)))) ≡ faults.faults_parameters l.fn.has_body (seen_environment l.fn.env) (parameters_of (map view_parameter l.fn.all)))
    × (map view l.kinds.items ++ behind.parameter_kinds l.has_body (seen_environment l.env) (parameters_of (map view_parameter (drop l.one-index l.all))) ≡ behind.parameter_kinds l.fn.has_body (seen_environment l.fn.env) (parameters_of (map view_parameter l.fn.all)))
    × (added (nodes.said_parameters l.table l.has_body (seen_environment l.env) (parameters_of (map view_parameter (drop l.one-index l.all)))).all (shown l.out) ≡ added (nodes.said_parameters l.fn.table l.fn.has_body (seen_environment l.fn.env) (parameters_of (map view_parameter l.fn.all))).all (shown l.fn.out))
    × (behind.behind_parameters l.has_body (seen_environment l.env) (parameters_of (map view_parameter (drop l.one-index l.all))) ≡ behind.behind_parameters l.fn.has_body (seen_environment l.fn.env) (parameters_of (map view_parameter l.fn.all)))
    × (0 < length (shown l.out))
