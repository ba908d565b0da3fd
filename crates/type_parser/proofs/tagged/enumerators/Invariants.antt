use Rattle.std.proofs.Common.{map, length}
use Rattle.c_tree.specs.View.{view_enumerator}
use Rattle.c_grammar.specs.Reading.{read}
use Rattle.c_grammar.specs.Rules.{all_enumerators}
use Rattle.c_grammar.proofs.Loops.{Loop}
use Rattle.type_parser.specs.Tagged.{with_enumerator}
use Rattle.type_parser.proofs.tagged.enumerators.Given as goal

abbrev pub invariant-loop-found : goal.invariant-loop-found
invariant-loop-found g l = Loop with_enumerator (map view_enumerator l.found) (read (all_enumerators l.grammar.types.now l.d) l.cursor) (read (all_enumerators l.fn.grammar.types.now l.fn.d) l.fn.cursor)

abbrev pub decreases-loop-found : goal.decreases-loop-found
decreases-loop-found g l = length l.cursor.rest
