use Rattle.std.proofs.Common.{map, length}
use Rattle.c_tree.specs.Tree.{statements}
use Rattle.c_tree.specs.StatementView.{view_statement}
use Rattle.c_grammar.specs.Reading.{read}
use Rattle.c_grammar.specs.Rules.{all_statements}
use Rattle.c_grammar.proofs.Loops.{Loop}
use Rattle.statement_parser.proofs.reader.Statements.all.Given as goal

abbrev pub invariant-loop-context : goal.invariant-loop-context
invariant-loop-context g l =
    Loop statements (map view_statement l.found) (read (all_statements l.self.types.now l.d l.context) l.cursor) (read (all_statements l.fn.self.types.now l.fn.d l.fn.context) l.fn.cursor)

abbrev pub decreases-loop-context : goal.decreases-loop-context
decreases-loop-context g l = length l.cursor.rest
