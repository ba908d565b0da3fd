use Rattle.std.proofs.Common.{◌≡◌, ◌∷◌, map, length}
use Rattle.c_tree.specs.Shape.{behind_named, behind_names}
use Rattle.c_tree.specs.StatementView.{view_named}
use Rattle.c_grammar.specs.Reading.{read}
use Rattle.c_grammar.specs.Rules.{more_outer}
use Rattle.c_grammar.specs.Lists.{mapped}
use Rattle.c_grammar.proofs.Loops.{Loop}
use Rattle.item_parser.proofs.outer.names.Given as goal

abbrev pub invariant-loop-alloc : goal.invariant-loop-alloc
invariant-loop-alloc l = record {
  reads : Loop ◌∷◌ (map view_named l.found) (read (more_outer l.storage l.scope) l.cursor) (mapped (λ ns. view_named l.fn.first ∷ ns) (read (more_outer l.fn.storage (behind_named l.fn.storage (view_named l.fn.first) l.fn.scope)) l.fn.cursor));
  behind : l.scope ≡ behind_names l.storage (map view_named l.found) l.fn.scope;
}

abbrev pub decreases-loop-alloc : goal.decreases-loop-alloc
decreases-loop-alloc l = length l.cursor.rest
