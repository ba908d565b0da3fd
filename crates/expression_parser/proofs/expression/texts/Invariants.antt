use Rattle.std.proofs.Common.{◌∷◌, length}
use Rattle.c_grammar.specs.Reading.{read}
use Rattle.c_grammar.specs.Rules.{more_texts}
use Rattle.c_grammar.specs.Lists.{mapped}
use Rattle.c_grammar.proofs.Loops.{Loop}
use Rattle.expression_parser.proofs.expression.texts.Given as goal

abbrev pub invariant-loop-alloc : goal.invariant-loop-alloc
invariant-loop-alloc l = Loop ◌∷◌ l.found (read more_texts l.cursor) (mapped (λ ns. l.fn.first ∷ ns) (read more_texts l.fn.cursor))

abbrev pub decreases-loop-alloc : goal.decreases-loop-alloc
decreases-loop-alloc l = length l.cursor.rest
