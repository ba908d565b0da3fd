-- Reading the items of a program passes a limit at the 900th token at the earliest.
use Rattle.std.proofs.Common.{◌≡◌, ◌+◌, ◌*◌, ◌≤◌, length, subst, arith}
use Rattle.c_tree.specs.Marks.{Tokens}
use Rattle.c_grammar.specs.Body.{exceeded}
use Rattle.c_grammar.specs.Reading.{read}
use Rattle.c_grammar.specs.Rules.{Rule, Result, rule, rank, top, an_expression, a_whole, a_prefix, a_rest, an_opened, more_texts, all_arguments, more_arguments, a_type, all_specifiers, a_struct, all_members, more_members, all_declarators, more_declarators, an_enum, all_enumerators, more_enumerators, all_stars, all_quals, a_declarator, all_sizes, at_most_one_size, all_parameters, some_parameters, more_parameters, a_parameter, a_bare, an_initializer, all_initializers, more_initializers, a_declaration, a_declared, a_named, more_named, an_optional, a_start, a_statement, all_statements, an_outer, more_outer, a_first, an_item, all_items}
use Rattle.c_grammar.proofs.Programs.{whole, begun}
use Rattle.grammar_limits.proofs.Saving.{Ends, reads_ends}
use Rattle.grammar_limits.proofs.Dues.{Due, due_saving, dues}
use Rattle.grammar_limits.proofs.SafeExpressions.{expression-due, whole-due, prefix-due, rest-due, opened-due, texts-due, arguments-due, more-arguments-due}
use Rattle.grammar_limits.proofs.SafeTypes.{type-due, specifiers-due, struct-due, members-due, more-members-due, declarators-due, more-declarators-due, enum-due, enumerators-due, more-enumerators-due}
use Rattle.grammar_limits.proofs.SafeDeclarators.{stars-due, quals-due, declarator-due, sizes-due, at-most-one-due, parameters-due, some-parameters-due, more-parameters-due, parameter-due, bare-due}
use Rattle.grammar_limits.proofs.SafeDeclarations.{initializer-due, initializers-due, more-initializers-due, declaration-due, declared-due, named-due, more-named-due}
use Rattle.grammar_limits.proofs.SafeStatements.{optional-due, start-due, statement-due, statements-due}
use Rattle.grammar_limits.proofs.SafeItems.{outer-due, more-outer-due, first-due, item-due, items-due}

-- each rule keeps to what is due
all_due : (q : Rule) → Due q
all_due (an_expression t d l o) = expression-due t d l o
all_due (a_whole t d l o) = whole-due t d l o
all_due (a_prefix t d l o) = prefix-due t d l o
all_due (a_rest t d l x) = rest-due t d l x
all_due (an_opened t d) = opened-due t d
all_due more_texts = texts-due
all_due (all_arguments t d) = arguments-due t d
all_due (more_arguments t d) = more-arguments-due t d
all_due (a_type t d) = type-due t d
all_due (all_specifiers t d b ws) = specifiers-due t d b ws
all_due (a_struct t d) = struct-due t d
all_due (all_members t d) = members-due t d
all_due (more_members t d) = more-members-due t d
all_due (all_declarators t d) = declarators-due t d
all_due (more_declarators t d) = more-declarators-due t d
all_due (an_enum t d) = enum-due t d
all_due (all_enumerators t d) = enumerators-due t d
all_due (more_enumerators t d) = more-enumerators-due t d
all_due all_stars = stars-due
all_due all_quals = quals-due
all_due (a_declarator t d f y) = declarator-due t d f y
all_due (all_sizes t d) = sizes-due t d
all_due (at_most_one_size t d) = at-most-one-due t d
all_due (all_parameters t d) = parameters-due t d
all_due (some_parameters t d) = some-parameters-due t d
all_due (more_parameters t d) = more-parameters-due t d
all_due (a_parameter t d) = parameter-due t d
all_due (a_bare t d) = bare-due t d
all_due (an_initializer t d o) = initializer-due t d o
all_due (all_initializers t d o) = initializers-due t d o
all_due (more_initializers t d) = more-initializers-due t d
all_due (a_declaration t d) = declaration-due t d
all_due (a_declared t d c) = declared-due t d c
all_due (a_named t d) = named-due t d
all_due (more_named t d) = more-named-due t d
all_due (an_optional t d e) = optional-due t d e
all_due (a_start t d) = start-due t d
all_due (a_statement t d p o) = statement-due t d p o
all_due (all_statements t d p) = statements-due t d p
all_due (an_outer c s) = outer-due c s
all_due (more_outer c s) = more-outer-due c s
all_due (a_first t) = first-due t
all_due (an_item s) = item-due s
all_due (all_items s) = items-due s

-- Reading passes no limit before 900 tokens were read.
pub exceeded_late : (ts us : Tokens) → read whole (begun ts) ≡ exceeded us → length us + 900 ≤ length ts
unfolding read
exceeded_late ts us e = subst (Ends (length ts) (100 * length ts + 100) (length ts + 50) 20 0 (length ts)) e
    (reads_ends Rule Result rank rule dues (length ts) (λ q. due_saving q (all_due q)) top (100 * length ts + 100) (length ts + 50) whole ts (record { made = 1; peak = 1 }) (omega arith)
    (record { few = omega arith; shallow = omega arith; made = omega arith; peak = omega arith; slight = omega arith; room = omega arith }))
