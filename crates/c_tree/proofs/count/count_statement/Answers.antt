use Rattle.std.proofs.Common.{ap, sym, ◌∙◌}
use Rattle.c_tree.specs.Behind.{count_node}
use Rattle.c_tree.specs.Nodes.{nodes_statement}
use Rattle.c_tree.specs.Passing.{pass_statement}
use Rattle.c_tree.specs.Progress.{Progress, pass}
use Rattle.c_tree.specs.StatementView.{view_statement}
use Rattle.c_tree.proofs.Found.{from}
use Rattle.c_tree.proofs.Passing.{statement_passes}
use Rattle.c_tree.proofs.count.count_statement.Goals as goal

pub returns : goal.returns
returns c =
    let x = view_statement c.args.s.now in
    let searched = c.search_statement.ensures ∙ ap (λ (p : Progress). pass_statement pass p x) c.start-search.ensures ∙ statement_passes pass (from 4294967295 0) x in
    c.in_ok-add.ensures (nodes_statement x) searched ∙ sym (statement_passes count_node c.args.at.now x)
