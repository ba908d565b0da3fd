use Rattle.std.proofs.Common.{◌∷◌, map, length}
use Rattle.c_tree.specs.StatementView.{view_named}
use Rattle.c_grammar.specs.Reading.{read}
use Rattle.c_grammar.specs.Rules.{more_named}
use Rattle.c_grammar.specs.Lists.{mapped}
use Rattle.c_grammar.proofs.Loops.{Loop}
use Rattle.statement_parser.proofs.named.more_names.Given as goal

abbrev pub invariant-loop-alloc : goal.invariant-loop-alloc
invariant-loop-alloc l = Loop ◌∷◌ (map view_named l.found) (read (more_named l.types l.d) l.cursor) (mapped (λ xs. view_named l.fn.first ∷ xs) (read (more_named l.fn.types l.fn.d) l.fn.cursor))

abbrev pub decreases-loop-alloc : goal.decreases-loop-alloc
decreases-loop-alloc l = length l.cursor.rest
