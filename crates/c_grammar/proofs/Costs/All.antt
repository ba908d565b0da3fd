-- What all that is read costs: a program is counted as it has nodes, and as deep as it is.
use Rattle.std.proofs.Common.{◌≡◌, List, length, arith}
use Rattle.c_tree.specs.Tree.{ItemTree}
use Rattle.c_tree.specs.Nodes.{nodes}
use Rattle.c_tree.specs.Depth.{depth}
use Rattle.c_tree.specs.Marks.{Tokens}
use Rattle.c_tree.specs.Shape.{Scope}
use Rattle.c_grammar.specs.Body.{got, reads}
use Rattle.c_grammar.specs.Gauge.{Meter, counted}
use Rattle.c_grammar.specs.Rules.{Rule, Result, rule, rank, top, an_expression, a_whole, a_prefix, a_rest, an_opened, more_texts, all_arguments, more_arguments, a_type, all_specifiers, a_struct, all_members, more_members, all_declarators, more_declarators, an_enum, all_enumerators, more_enumerators, all_stars, all_quals, a_declarator, all_sizes, at_most_one_size, all_parameters, some_parameters, more_parameters, a_parameter, a_bare, an_initializer, all_initializers, more_initializers, a_declaration, a_declared, a_named, more_named, an_optional, a_start, a_statement, all_statements, an_outer, more_outer, a_first, an_item, all_items}
use Rattle.c_grammar.proofs.Sure.{Holds, holds_got}
use Rattle.c_grammar.proofs.Conditions.{Goes, all_go}
use Rattle.c_grammar.proofs.Costs.Counting.{Costs}
use Rattle.c_grammar.proofs.Costs.Expressions.{expression-cost, whole-cost, prefix-cost, rest-cost, opened-cost, texts-cost, arguments-cost, more-arguments-cost}
use Rattle.c_grammar.proofs.Costs.Types.{type-cost, specifiers-cost, struct-cost, members-cost, more-members-cost, declarators-cost, more-declarators-cost, enum-cost, enumerators-cost, more-enumerators-cost}
use Rattle.c_grammar.proofs.Costs.Declarators.{stars-cost, quals-cost, declarator-cost, sizes-cost, at-most-one-cost, parameters-cost, some-parameters-cost, more-parameters-cost, parameter-cost, bare-cost}
use Rattle.c_grammar.proofs.Costs.Declarations.{initializer-cost, initializers-cost, more-initializers-cost, declaration-cost, declared-cost, named-cost, more-named-cost}
use Rattle.c_grammar.proofs.Costs.Statements.{optional-cost, start-cost, statement-cost, statements-cost}
use Rattle.c_grammar.proofs.Costs.Items.{outer-cost, more-outer-cost, first-cost, item-cost, items-cost}

-- Each rule counts as it costs.
pub all_cost : (r : Rule) (ts : Tokens) (m : Meter) → Goes Meter counted Costs (Result r) (rule r) (Costs r ts m) ts m
all_cost (an_expression t d l o) ts m = expression-cost t d l o ts m
all_cost (a_whole t d l o) ts m = whole-cost t d l o ts m
all_cost (a_prefix t d l o) ts m = prefix-cost t d l o ts m
all_cost (a_rest t d l x) ts m = rest-cost t d l x ts m
all_cost (an_opened t d) ts m = opened-cost t d ts m
all_cost more_texts ts m = texts-cost ts m
all_cost (all_arguments t d) ts m = arguments-cost t d ts m
all_cost (more_arguments t d) ts m = more-arguments-cost t d ts m
all_cost (a_type t d) ts m = type-cost t d ts m
all_cost (all_specifiers t d b ws) ts m = specifiers-cost t d b ws ts m
all_cost (a_struct t d) ts m = struct-cost t d ts m
all_cost (all_members t d) ts m = members-cost t d ts m
all_cost (more_members t d) ts m = more-members-cost t d ts m
all_cost (all_declarators t d) ts m = declarators-cost t d ts m
all_cost (more_declarators t d) ts m = more-declarators-cost t d ts m
all_cost (an_enum t d) ts m = enum-cost t d ts m
all_cost (all_enumerators t d) ts m = enumerators-cost t d ts m
all_cost (more_enumerators t d) ts m = more-enumerators-cost t d ts m
all_cost all_stars ts m = stars-cost ts m
all_cost all_quals ts m = quals-cost ts m
all_cost (a_declarator t d f y) ts m = declarator-cost t d f y ts m
all_cost (all_sizes t d) ts m = sizes-cost t d ts m
all_cost (at_most_one_size t d) ts m = at-most-one-cost t d ts m
all_cost (all_parameters t d) ts m = parameters-cost t d ts m
all_cost (some_parameters t d) ts m = some-parameters-cost t d ts m
all_cost (more_parameters t d) ts m = more-parameters-cost t d ts m
all_cost (a_parameter t d) ts m = parameter-cost t d ts m
all_cost (a_bare t d) ts m = bare-cost t d ts m
all_cost (an_initializer t d o) ts m = initializer-cost t d o ts m
all_cost (all_initializers t d o) ts m = initializers-cost t d o ts m
all_cost (more_initializers t d) ts m = more-initializers-cost t d ts m
all_cost (a_declaration t d) ts m = declaration-cost t d ts m
all_cost (a_declared t d c) ts m = declared-cost t d c ts m
all_cost (a_named t d) ts m = named-cost t d ts m
all_cost (more_named t d) ts m = more-named-cost t d ts m
all_cost (an_optional t d e) ts m = optional-cost t d e ts m
all_cost (a_start t d) ts m = start-cost t d ts m
all_cost (a_statement t d p o) ts m = statement-cost t d p o ts m
all_cost (all_statements t d p) ts m = statements-cost t d p ts m
all_cost (an_outer c s) ts m = outer-cost c s ts m
all_cost (more_outer c s) ts m = more-outer-cost c s ts m
all_cost (a_first t) ts m = first-cost t ts m
all_cost (an_item s) ts m = item-cost s ts m
all_cost (all_items s) ts m = items-cost s ts m

-- Whatever a rule reads is counted as it costs.
pub reads_cost : (r : Rule) (ts : Tokens) (m : Meter) → Holds (Costs r ts m) (reads Rule Result rank rule Meter counted top r ts m)
reads_cost r ts m = all_go Meter counted Costs all_cost r ts m

-- before the first token: the program's own node, of depth 1
abbrev pub start : Meter
start = record { made = 1; peak = 1 }

-- The count of a program is its number of nodes, and its depth.
pub program_cost : (s : Scope) (ts : Tokens) (xs : List ItemTree) (us : Tokens) (n : Meter) → reads Rule Result rank rule Meter counted top (all_items s) ts start ≡ got xs us n →
    (n.made ≡ length (nodes xs)) × (n.peak ≡ depth xs)
program_cost s ts xs us n e = let h = holds_got (Costs (all_items s) ts start) _ xs us n (reads_cost (all_items s) ts start) e (omega arith) in (omega arith, omega arith)
