use Rattle.std.proofs.Common.{map, length}
use Rattle.c_tree.specs.View.{view_member}
use Rattle.c_grammar.specs.Reading.{read}
use Rattle.c_grammar.specs.Rules.{all_members}
use Rattle.c_grammar.proofs.Loops.{Loop}
use Rattle.type_parser.specs.Tagged.{with_member}
use Rattle.type_parser.proofs.tagged.all_members.Given as goal

abbrev pub invariant-loop-found : goal.invariant-loop-found
invariant-loop-found g l = Loop with_member (map view_member l.found) (read (all_members l.grammar.types.now l.d) l.cursor) (read (all_members l.fn.grammar.types.now l.fn.d) l.fn.cursor)

abbrev pub decreases-loop-found : goal.decreases-loop-found
decreases-loop-found g l = length l.cursor.rest
