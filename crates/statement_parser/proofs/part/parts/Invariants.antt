use Rattle.std.proofs.Common.{◌≤◌, map, length}
use Rattle.c_tree.specs.StatementView.{view_part}
use Rattle.c_grammar.specs.Reading.{read}
use Rattle.c_grammar.specs.Rules.{all_initializers}
use Rattle.c_grammar.proofs.Loops.{Loop}
use Rattle.statement_parser.specs.PartList.{with_part}
use Rattle.statement_parser.proofs.part.parts.Given as goal

abbrev pub invariant-loop-found : goal.invariant-loop-found
invariant-loop-found g l = record {
  read_on : Loop with_part (map view_part l.found) (read (all_initializers l.nest.types.now l.d l.owed) l.cursor) (read (all_initializers l.fn.nest.types.now l.fn.d 0) l.fn.cursor);
  few : l.owed ≤ 1;
}

abbrev pub decreases-loop-found : goal.decreases-loop-found
decreases-loop-found g l = length l.cursor.rest
