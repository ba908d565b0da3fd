use Rattle.std.proofs.Common.{◌≡◌, true, sym, subst, rules}
use Rattle.c_tree.specs.StatementView.{view_item}
use Rattle.c_grammar.specs.Rules.{begins_type}
use Rattle.c_grammar.specs.Gives.{Gives}
use Rattle.item_parser.proofs.ItemCases.{item_on}
use Rattle.item_parser.proofs.all_items.item.Goals as goal

pub returns-in_ok-spend-in_default-clause-reads : goal.returns-in_ok-spend-in_default-clause-reads
returns-in_ok-spend-in_default-clause-reads c =
    let begins : begins_type c.kind_outside.result ≡ true = first_of (cc, search rules) in
    let e = item_on c.args.scope.now c.kind_outside.result c.args.cursor.now c.spend.new.cursor c.kind_outside.ensures c.in_default.not-Static c.in_default.not-Extern c.in_default.not-Typedef begins c.in_ok-spend-in_default.ensures in
    subst (λ o. Gives view_item o c.specified.result c.specified.new.cursor) (sym e) c.specified.ensures.reads
