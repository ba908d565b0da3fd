use Rattle.std.proofs.Common.{map, length}
use Rattle.c_tree.specs.Tree.{specifiers}
use Rattle.c_tree.specs.View.{view_specifier}
use Rattle.c_grammar.specs.Reading.{read}
use Rattle.c_grammar.specs.Rules.{all_specifiers}
use Rattle.c_grammar.proofs.Loops.{Loop}
use Rattle.type_parser.proofs.specifier.more_specifiers.Given as goal

abbrev pub invariant-loop-found : goal.invariant-loop-found
invariant-loop-found g l =
    Loop specifiers (map view_specifier l.found) (read (all_specifiers l.grammar.types.now l.d l.owing l.words) l.cursor) (read (all_specifiers l.fn.grammar.types.now l.fn.d l.fn.named l.fn.words) l.fn.cursor)

abbrev pub decreases-loop-found : goal.decreases-loop-found
decreases-loop-found g l = length l.cursor.rest
