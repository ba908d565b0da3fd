use Rattle.std.proofs.Common.{◌∷◌, map, length}
use Rattle.c_tree.specs.Shape.{first_scope}
use Rattle.c_tree.specs.StatementView.{view_item}
use Rattle.c_grammar.specs.Reading.{read}
use Rattle.c_grammar.specs.Rules.{all_items}
use Rattle.c_grammar.proofs.Loops.{Loop}
use Rattle.item_parser.proofs.all_items.items.Given as goal

abbrev pub invariant-loop-alloc : goal.invariant-loop-alloc
invariant-loop-alloc l = Loop ◌∷◌ (map view_item l.found) (read (all_items l.scope) l.cursor) (read (all_items first_scope) l.fn.cursor)

abbrev pub decreases-loop-alloc : goal.decreases-loop-alloc
decreases-loop-alloc l = length l.cursor.rest
