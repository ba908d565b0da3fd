use Rattle.std.proofs.Common.{map, sym, subst}
use Rattle.c_tree.specs.StatementView.{view_item}
use Rattle.c_tree.specs.View.{view_specifier, specifiers_of}
use Rattle.c_grammar.specs.Gives.{Gives}
use Rattle.item_parser.proofs.ItemCases.{specified_on}
use Rattle.item_parser.proofs.all_items.specified.Goals as goal

pub returns-clause-reads : goal.returns-clause-reads
returns-clause-reads c =
    let e = specified_on c.args.storage c.args.scope.now c.inner_types-types.result (specifiers_of (map view_specifier c.in_ok-specs.specs)) c.args.cursor.now c.specifiers.new.cursor c.inner_types-types.ensures c.in_ok-specs.ensures in
    subst (λ o. Gives view_item o c.behind_specifiers.result c.behind_specifiers.new.cursor) (sym e) c.behind_specifiers.ensures.reads
