use Rattle.std.proofs.Common.{◌≡◌, map, drop}
use Rattle.program_scope.specs.With.{with_statements}
use Rattle.c_tree.specs.StatementView.{view_statement, statements_of}
use Rattle.program_scope.proofs.items.+add_statement.Given as goal

abbrev pub invariant-add_statements-loop-statement : goal.invariant-add_statements-loop-statement
invariant-add_statements-loop-statement l = with_statements l.names (statements_of (map view_statement (drop l.statement-index l.all))) ≡ with_statements l.fn.names (statements_of (map view_statement l.fn.all))
