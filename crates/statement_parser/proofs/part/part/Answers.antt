use Rattle.std.proofs.Common.{sym, subst}
use Rattle.c_tree.specs.StatementView.{view_init, view_part}
use Rattle.c_grammar.specs.Gives.{Gives}
use Rattle.statement_parser.proofs.Parts.{part_unnamed}
use Rattle.statement_parser.proofs.part.part.Goals as goal

pub returns-in_ok-init-in_default : goal.returns-in_ok-init-in_default
returns-in_ok-init-in_default g c =
    let e = part_unnamed c.args.nest.now.types.now c.args.d c.args.owed c.args.cursor.now c.inner.new.cursor (view_init c.in_ok-init-in_default.init) c.kind.result c.kind.ensures c.in_default.not-Dot c.in_ok-init-in_default.ensures in
    subst (λ o. Gives (λ p. (view_part p.0, p.1)) o c.behind_part.result c.behind_part.new.cursor) (sym e) c.behind_part.ensures
