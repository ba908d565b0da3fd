use Rattle.std.proofs.Common.{map, length}
use Rattle.c_tree.specs.Tree.{declarators}
use Rattle.c_tree.specs.View.{view_declarator}
use Rattle.c_grammar.specs.Reading.{read}
use Rattle.c_grammar.specs.Rules.{more_declarators}
use Rattle.c_grammar.specs.Lists.{mapped}
use Rattle.c_grammar.proofs.Loops.{Loop}
use Rattle.type_parser.proofs.tagged.more_declarators.Given as goal

abbrev pub invariant-loop-cursor : goal.invariant-loop-cursor
invariant-loop-cursor g l = Loop declarators (map view_declarator l.found) (read (more_declarators l.grammar.types.now l.d) l.cursor) (mapped (declarators (view_declarator l.fn.first)) (read (more_declarators l.fn.grammar.types.now l.fn.d) l.fn.cursor))

abbrev pub decreases-loop-cursor : goal.decreases-loop-cursor
decreases-loop-cursor g l = length l.cursor.rest
