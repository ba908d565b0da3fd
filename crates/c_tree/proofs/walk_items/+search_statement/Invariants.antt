use Rattle.std.proofs.Common.{◌≡◌, map, drop}
use Rattle.c_tree.specs.Progress.{pass}
use Rattle.c_tree.specs.Search.{progress}
use Rattle.c_tree.specs.Passing.{pass_statements}
use Rattle.c_tree.specs.StatementView.{view_statement, statements_of}
use Rattle.c_tree.proofs.walk_items.+search_statement.Given as goal

abbrev pub invariant-search_statements-loop-statement : goal.invariant-search_statements-loop-statement
invariant-search_statements-loop-statement l = pass_statements pass (progress l.search) (statements_of (map view_statement (drop l.statement-index l.all))) ≡ pass_statements pass (progress l.fn.search) (statements_of (map view_statement l.fn.all))
