use Rattle.std.proofs.Common.{◌≡◌, map, drop}
use Rattle.c_tree.specs.StatementView.{view_statement, statements_of}
use Rattle.flow_form.specs.Statements.{has_default}
use Rattle.flow_form.proofs.switches.has_default_label.Given as goal

abbrev pub invariant-loop-s : goal.invariant-loop-s
invariant-loop-s l = has_default (statements_of (map view_statement (drop l.s-index l.all))) ≡ has_default (statements_of (map view_statement l.fn.all))
