use Rattle.std.proofs.Common.{map, sym, subst}
use Rattle.c_tree.specs.View.{view_expression, expressions_of}
use Rattle.c_grammar.specs.Gives.{Gives}
use Rattle.expression_parser.proofs.Listing.{arguments_first}
use Rattle.expression_parser.proofs.grammar.Grammar.all_arguments.Goals as goal

pub returns-in_ok-first-in_default : goal.returns-in_ok-first-in_default
returns-in_ok-first-in_default g c =
    let e = arguments_first c.args.self.now.types.now c.args.d c.args.cursor.now c.expression.new.cursor (view_expression c.in_ok-first-in_default.first) c.kind.result c.kind.ensures c.in_default.not-CloseParen c.in_ok-first-in_default.ensures in
    subst (λ o. Gives (λ xs. expressions_of (map view_expression xs)) o c.more_arguments.result c.more_arguments.new.cursor) (sym e) c.more_arguments.ensures
