use Rattle.std.proofs.Common.{map, drop, sym, ◌∙◌}
use Rattle.c_tree.specs.StatementView.{view_statement, statements_of}
use Rattle.c_tree.proofs.Stopping.{statements_stay}
use Rattle.c_tree.proofs.walk_items.+search_statement.Goals as goal

pub search_statements-returns-then-is_some : goal.search_statements-returns-then-is_some
search_statements-returns-then-is_some t c =
    sym (statements_stay c.loop-statement.search (statements_of (map view_statement (drop c.loop-statement.statement-index c.args.all.now))) (sym c.is_some.ensures ∙ c.if-is_some.true)) ∙ c.loop-statement.invariant
