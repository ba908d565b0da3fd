use Rattle.std.proofs.Common.{◌∷◌, length}
use Rattle.c_grammar.specs.Reading.{read}
use Rattle.c_grammar.specs.Rules.{all_quals}
use Rattle.c_grammar.proofs.Loops.{Loop}
use Rattle.type_parser.proofs.pointer.quals.Given as goal

abbrev pub invariant-loop-qual : goal.invariant-loop-qual
invariant-loop-qual l = Loop ◌∷◌ l.found (read all_quals l.cursor) (read all_quals l.fn.cursor)

abbrev pub decreases-loop-qual : goal.decreases-loop-qual
decreases-loop-qual l = length l.cursor.rest
