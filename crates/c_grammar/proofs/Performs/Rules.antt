-- Each rule reads what code reads that performs its body.
use Rattle.std.proofs.Common.{◌≡◌}
use Rattle.c_grammar.specs.Kind.{IsReal}
use Rattle.c_grammar.specs.Input.{Input}
use Rattle.c_grammar.specs.Reading.{read}
use Rattle.c_grammar.specs.Rules.{Rule, rule, an_expression, a_whole, a_prefix, a_rest, an_opened, more_texts, all_arguments, more_arguments, a_type, all_specifiers, a_struct, all_members, more_members, all_declarators, more_declarators, an_enum, all_enumerators, more_enumerators, all_stars, all_quals, a_declarator, all_sizes, at_most_one_size, all_parameters, some_parameters, more_parameters, a_parameter, a_bare, an_initializer, all_initializers, more_initializers, a_declaration, a_declared, a_named, more_named, an_optional, a_start, a_statement, all_statements, an_outer, more_outer, a_first, an_item, all_items}
use Rattle.c_grammar.specs.Performing.{perform}
use Rattle.c_grammar.proofs.Performs.Steps.{IsFine, rule_performs}
use Rattle.c_grammar.proofs.Performs.Expressions.{expression_fine, whole_fine, prefix_fine, rest_fine, opened_fine, more_texts_fine, arguments_fine, more_arguments_fine}
use Rattle.c_grammar.proofs.Performs.Types.{type_fine, specifiers_fine, struct_fine, members_fine, more_members_fine, declarators_fine, more_declarators_fine, enum_fine, enumerators_fine, more_enumerators_fine}
use Rattle.c_grammar.proofs.Performs.Declarators.{stars_fine, quals_fine, declarator_fine, sizes_fine, at_most_one_size_fine, parameters_fine, some_parameters_fine, more_parameters_fine, parameter_fine, bare_fine, initializer_fine, initializers_fine, more_initializers_fine}
use Rattle.c_grammar.proofs.Performs.Statements.{declaration_fine, declared_fine, named_fine, more_named_fine, optional_fine, start_fine, statement_fine, statements_fine, outer_fine, more_outer_fine, first_fine, item_fine, items_fine}

-- At the end of the tokens none is taken: the kind that is wanted behind an expression is one that a token has.
abbrev pub Wanted : Rule → Type 0
Wanted (an_optional t d e) = IsReal e
Wanted _ = Unit {0}

-- the body of each rule is fine
pub fine : (r : Rule) → Wanted r → IsFine r
fine (an_expression t d l o) w = expression_fine t d l o
fine (a_whole t d l o) w = whole_fine t d l o
fine (a_prefix t d l o) w = prefix_fine t d l o
fine (a_rest t d l x) w = rest_fine t d l x
fine (an_opened t d) w = opened_fine t d
fine more_texts w = more_texts_fine
fine (all_arguments t d) w = arguments_fine t d
fine (more_arguments t d) w = more_arguments_fine t d
fine (a_type t d) w = type_fine t d
fine (all_specifiers t d b ws) w = specifiers_fine t d b ws
fine (a_struct t d) w = struct_fine t d
fine (all_members t d) w = members_fine t d
fine (more_members t d) w = more_members_fine t d
fine (all_declarators t d) w = declarators_fine t d
fine (more_declarators t d) w = more_declarators_fine t d
fine (an_enum t d) w = enum_fine t d
fine (all_enumerators t d) w = enumerators_fine t d
fine (more_enumerators t d) w = more_enumerators_fine t d
fine all_stars w = stars_fine
fine all_quals w = quals_fine
fine (a_declarator t d f y) w = declarator_fine t d f y
fine (all_sizes t d) w = sizes_fine t d
fine (at_most_one_size t d) w = at_most_one_size_fine t d
fine (all_parameters t d) w = parameters_fine t d
fine (some_parameters t d) w = some_parameters_fine t d
fine (more_parameters t d) w = more_parameters_fine t d
fine (a_parameter t d) w = parameter_fine t d
fine (a_bare t d) w = bare_fine t d
fine (an_initializer t d o) w = initializer_fine t d o
fine (all_initializers t d o) w = initializers_fine t d o
fine (more_initializers t d) w = more_initializers_fine t d
fine (a_declaration t d) w = declaration_fine t d
fine (a_declared t d c) w = declared_fine t d c
fine (a_named t d) w = named_fine t d
fine (more_named t d) w = more_named_fine t d
fine (an_optional t d e) w = optional_fine t d e w
fine (a_start t d) w = start_fine t d
fine (a_statement t d p o) w = statement_fine t d p o
fine (all_statements t d p) w = statements_fine t d p
fine (an_outer c s) w = outer_fine c s
fine (more_outer c s) w = more_outer_fine c s
fine (a_first t) w = first_fine t
fine (an_item s) w = item_fine s
fine (all_items s) w = items_fine s

-- A rule reads what its body does, as code reads it.
pub read_performs : (r : Rule) → Wanted r → (i : Input) → read r i ≡ perform (rule r) i
read_performs r w i = rule_performs r (fine r w) i
