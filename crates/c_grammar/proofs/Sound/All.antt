-- Whatever a rule reads, a tree of its shape spells, and nothing that it declares is reserved.
use Rattle.c_tree.specs.Marks.{Tokens}
use Rattle.c_grammar.specs.Gauge.{free}
use Rattle.c_grammar.specs.Rules.{Rule, Result, rule, an_expression, a_whole, a_prefix, a_rest, an_opened, more_texts, all_arguments, more_arguments, a_type, all_specifiers, a_struct, all_members, more_members, all_declarators, more_declarators, an_enum, all_enumerators, more_enumerators, all_stars, all_quals, a_declarator, all_sizes, at_most_one_size, all_parameters, some_parameters, more_parameters, a_parameter, a_bare, an_initializer, all_initializers, more_initializers, a_declaration, a_declared, a_named, more_named, an_optional, a_start, a_statement, all_statements, an_outer, more_outer, a_first, an_item, all_items}
use Rattle.c_grammar.proofs.Conditions.{Goes, go_both}
use Rattle.c_grammar.proofs.Declares.Apart.{Yields}
use Rattle.c_grammar.proofs.Declares.Declarators.{all_apart}
use Rattle.c_grammar.proofs.Keeps.{Keeps}
use Rattle.c_grammar.proofs.Sound.Statements.{a_statement-sound, all_statements-sound, an_optional-sound, a_start-sound}
use Rattle.c_grammar.proofs.Sound.Parameters.{all_parameters-sound, some_parameters-sound, more_parameters-sound, a_parameter-sound, a_bare-sound}
use Rattle.c_grammar.proofs.Sound.Expressions.{a_prefix-sound, a_whole-sound, an_expression-sound, an_opened-sound, more_texts-sound, all_arguments-sound, more_arguments-sound}
use Rattle.c_grammar.proofs.Sound.Declarators.{all_declarators-sound, more_declarators-sound, all_stars-sound, all_quals-sound, a_declarator-sound, all_sizes-sound, at_most_one_size-sound}
use Rattle.c_grammar.proofs.Sound.Types.{all_specifiers-sound, a_type-sound, a_struct-sound, all_members-sound, more_members-sound, an_enum-sound, all_enumerators-sound, more_enumerators-sound}
use Rattle.c_grammar.proofs.Sound.Rest.{a_rest-sound}
use Rattle.c_grammar.proofs.Sound.Items.{an_outer-sound, more_outer-sound, a_first-sound, an_item-sound, all_items-sound}
use Rattle.c_grammar.proofs.Sound.Declarations.{an_initializer-sound, all_initializers-sound, more_initializers-sound, a_named-sound, more_named-sound, a_declaration-sound, a_declared-sound}

sound : (r : Rule) (ts : Tokens) → Keeps r (rule r) ts → Goes (Unit {0}) free Yields (Result r) (rule r) (Yields r ts tt) ts tt
sound r ts h = go_both h (all_apart r ts)

-- Each rule yields what it promises.
pub all_sound : (r : Rule) (ts : Tokens) → Goes (Unit {0}) free Yields (Result r) (rule r) (Yields r ts tt) ts tt
all_sound (an_expression u v w x) ts = sound (an_expression u v w x) ts (an_expression-sound u v w x ts)
all_sound (a_whole u v w x) ts = sound (a_whole u v w x) ts (a_whole-sound u v w x ts)
all_sound (a_prefix u v w x) ts = sound (a_prefix u v w x) ts (a_prefix-sound u v w x ts)
all_sound (a_rest u v w x) ts = sound (a_rest u v w x) ts (a_rest-sound u v w x ts)
all_sound (an_opened u v) ts = sound (an_opened u v) ts (an_opened-sound u v ts)
all_sound more_texts ts = sound more_texts ts (more_texts-sound ts)
all_sound (all_arguments u v) ts = sound (all_arguments u v) ts (all_arguments-sound u v ts)
all_sound (more_arguments u v) ts = sound (more_arguments u v) ts (more_arguments-sound u v ts)
all_sound (a_type u v) ts = sound (a_type u v) ts (a_type-sound u v ts)
all_sound (all_specifiers u v w x) ts = sound (all_specifiers u v w x) ts (all_specifiers-sound u v w x ts)
all_sound (a_struct u v) ts = sound (a_struct u v) ts (a_struct-sound u v ts)
all_sound (all_members u v) ts = sound (all_members u v) ts (all_members-sound u v ts)
all_sound (more_members u v) ts = sound (more_members u v) ts (more_members-sound u v ts)
all_sound (all_declarators u v) ts = sound (all_declarators u v) ts (all_declarators-sound u v ts)
all_sound (more_declarators u v) ts = sound (more_declarators u v) ts (more_declarators-sound u v ts)
all_sound (an_enum u v) ts = sound (an_enum u v) ts (an_enum-sound u v ts)
all_sound (all_enumerators u v) ts = sound (all_enumerators u v) ts (all_enumerators-sound u v ts)
all_sound (more_enumerators u v) ts = sound (more_enumerators u v) ts (more_enumerators-sound u v ts)
all_sound all_stars ts = sound all_stars ts (all_stars-sound ts)
all_sound all_quals ts = sound all_quals ts (all_quals-sound ts)
all_sound (a_declarator u v w x) ts = sound (a_declarator u v w x) ts (a_declarator-sound u v w x ts)
all_sound (all_sizes u v) ts = sound (all_sizes u v) ts (all_sizes-sound u v ts)
all_sound (at_most_one_size u v) ts = sound (at_most_one_size u v) ts (at_most_one_size-sound u v ts)
all_sound (all_parameters u v) ts = sound (all_parameters u v) ts (all_parameters-sound u v ts)
all_sound (some_parameters u v) ts = sound (some_parameters u v) ts (some_parameters-sound u v ts)
all_sound (more_parameters u v) ts = sound (more_parameters u v) ts (more_parameters-sound u v ts)
all_sound (a_parameter u v) ts = sound (a_parameter u v) ts (a_parameter-sound u v ts)
all_sound (a_bare u v) ts = sound (a_bare u v) ts (a_bare-sound u v ts)
all_sound (an_initializer u v w) ts = sound (an_initializer u v w) ts (an_initializer-sound u v w ts)
all_sound (all_initializers u v w) ts = sound (all_initializers u v w) ts (all_initializers-sound u v w ts)
all_sound (more_initializers u v) ts = sound (more_initializers u v) ts (more_initializers-sound u v ts)
all_sound (a_declaration u v) ts = sound (a_declaration u v) ts (a_declaration-sound u v ts)
all_sound (a_declared u v w) ts = sound (a_declared u v w) ts (a_declared-sound u v w ts)
all_sound (a_named u v) ts = sound (a_named u v) ts (a_named-sound u v ts)
all_sound (more_named u v) ts = sound (more_named u v) ts (more_named-sound u v ts)
all_sound (an_optional u v w) ts = sound (an_optional u v w) ts (an_optional-sound u v w ts)
all_sound (a_start u v) ts = sound (a_start u v) ts (a_start-sound u v ts)
all_sound (a_statement u v w x) ts = sound (a_statement u v w x) ts (a_statement-sound u v w x ts)
all_sound (all_statements u v w) ts = sound (all_statements u v w) ts (all_statements-sound u v w ts)
all_sound (an_outer u v) ts = an_outer-sound u v ts
all_sound (more_outer u v) ts = sound (more_outer u v) ts (more_outer-sound u v ts)
all_sound (a_first u) ts = sound (a_first u) ts (a_first-sound u ts)
all_sound (an_item u) ts = sound (an_item u) ts (an_item-sound u ts)
all_sound (all_items u) ts = sound (all_items u) ts (all_items-sound u ts)
