use Rattle.std.proofs.Common.{◌≡◌, ◌++◌, map, drop}
use Rattle.c_tree.specs.StatementView.{view_statement, statements_of}
use Rattle.c_judged.specs.Statements.{labels_of}
use Rattle.c_judged.proofs.labels.+labels.Given as goal

abbrev pub invariant-add_all_labels-loop-s : goal.invariant-add_all_labels-loop-s
invariant-add_all_labels-loop-s l = l.out ++ labels_of (statements_of (map view_statement (drop l.s-index l.all))) ≡ l.fn.out ++ labels_of (statements_of (map view_statement l.fn.all))
