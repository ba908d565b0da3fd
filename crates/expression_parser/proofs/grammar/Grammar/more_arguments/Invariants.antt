use Rattle.std.proofs.Common.{map, length}
use Rattle.c_tree.specs.Tree.{expressions}
use Rattle.c_tree.specs.View.{view_expression}
use Rattle.c_grammar.specs.Reading.{read}
use Rattle.c_grammar.specs.Rules.{more_arguments}
use Rattle.c_grammar.specs.Lists.{mapped}
use Rattle.c_grammar.proofs.Loops.{Loop}
use Rattle.expression_parser.proofs.grammar.Grammar.more_arguments.Given as goal

abbrev pub invariant-loop-cursor : goal.invariant-loop-cursor
invariant-loop-cursor g l = Loop expressions (map view_expression l.found) (read (more_arguments l.self.types.now l.d) l.cursor) (mapped (expressions (view_expression l.fn.first)) (read (more_arguments l.fn.self.types.now l.fn.d) l.fn.cursor))

abbrev pub decreases-loop-cursor : goal.decreases-loop-cursor
decreases-loop-cursor g l = length l.cursor.rest
