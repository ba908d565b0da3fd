use Rattle.std.proofs.Common.{◌≡◌, ◌++◌, map, drop}
use Rattle.c_tree.specs.StatementView.{view_statement, statements_of}
use Rattle.c_tree.specs.Behind.{behind_statements}
use Rattle.flow_form.specs.Known.{label_of}
use Rattle.flow_form.specs.Statements.{all_labels}
use Rattle.flow_form.proofs.labels.+collect.Given as goal

abbrev pub invariant-collect_all-loop-s : goal.invariant-collect_all-loop-s
invariant-collect_all-loop-s l =
    (behind_statements l.at (statements_of (map view_statement (drop l.s-index l.all))) ≡ behind_statements l.fn.at (statements_of (map view_statement l.fn.all)))
    × (map label_of l.out.labels.items ++ all_labels l.at (statements_of (map view_statement (drop l.s-index l.all))) ≡ map label_of l.fn.out.labels.items ++ all_labels l.fn.at (statements_of (map view_statement l.fn.all)))
