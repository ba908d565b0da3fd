use Rattle.std.proofs.Common.{◌≡◌, map, drop}
use Rattle.node_places.specs.Walked.{walked, skip}
use Rattle.c_tree.specs.StatementView.{view_statement, statements_of}
use Rattle.node_places.specs.Past.{past_statements}
use Rattle.node_places.proofs.items.+walk_statement.Given as goal

abbrev pub invariant-walk_block-loop-statement : goal.invariant-walk_block-loop-statement
invariant-walk_block-loop-statement l = past_statements (walked l.walk) (statements_of (map view_statement (drop l.statement-index l.all))) ≡ past_statements (skip 1 (walked l.fn.walk)) (statements_of (map view_statement l.fn.all))
