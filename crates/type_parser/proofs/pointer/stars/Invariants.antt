use Rattle.std.proofs.Common.{◌∷◌, length}
use Rattle.c_grammar.specs.Reading.{read}
use Rattle.c_grammar.specs.Rules.{all_stars}
use Rattle.c_grammar.proofs.Loops.{Loop}
use Rattle.type_parser.proofs.pointer.stars.Given as goal

abbrev pub invariant-loop-alloc : goal.invariant-loop-alloc
invariant-loop-alloc l = Loop ◌∷◌ l.found (read all_stars l.cursor) (read all_stars l.fn.cursor)

abbrev pub decreases-loop-alloc : goal.decreases-loop-alloc
decreases-loop-alloc l = length l.cursor.rest
