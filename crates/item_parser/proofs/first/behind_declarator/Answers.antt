use Rattle.std.proofs.Common.{map, sym, subst}
use Rattle.c_tree.specs.Shape.{behind_specifiers}
use Rattle.c_tree.specs.StatementView.{view_item}
use Rattle.c_tree.specs.View.{view_specifier, view_declarator, specifiers_of}
use Rattle.c_grammar.specs.Gives.{Gives}
use Rattle.item_parser.proofs.ItemCases.{declared_by}
use Rattle.item_parser.proofs.first.behind_declarator.Goals as goal

pub returns-in_default-clause-reads : goal.returns-in_default-clause-reads
returns-in_default-clause-reads c =
    let e = declared_by c.args.storage (specifiers_of (map view_specifier c.args.specs)) (behind_specifiers (specifiers_of (map view_specifier c.args.specs)) c.args.scope.now) (view_declarator c.args.declarator) c.kind.result c.args.cursor.now c.kind.ensures c.in_default.not-OpenBrace in
    subst (λ o. Gives view_item o c.declaration.result c.declaration.new.cursor) (sym e) c.declaration.ensures.reads
