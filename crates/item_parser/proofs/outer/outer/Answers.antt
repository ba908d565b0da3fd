use Rattle.std.proofs.Common.{sym, subst}
use Rattle.c_tree.specs.View.{view_declarator}
use Rattle.c_tree.specs.StatementView.{view_named}
use Rattle.c_grammar.specs.Gives.{Gives}
use Rattle.item_parser.proofs.ItemCases.{outer_on}
use Rattle.item_parser.proofs.outer.outer.Goals as goal

pub returns : goal.returns
returns c =
    let e = outer_on c.args.storage c.args.scope.now c.outer_types-types.result (view_declarator c.in_ok-found.found) c.args.cursor.now c.outer_declarator.new.cursor c.outer_types-types.ensures c.in_ok-found.ensures in
    subst (λ o. Gives view_named o c.behind_declarator.result c.behind_declarator.new.cursor) (sym e) c.behind_declarator.ensures
