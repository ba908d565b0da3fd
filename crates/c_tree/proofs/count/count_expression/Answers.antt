use Rattle.std.proofs.Common.{ap, sym, ◌∙◌}
use Rattle.c_tree.specs.Behind.{count_node}
use Rattle.c_tree.specs.Nodes.{nodes_expression}
use Rattle.c_tree.specs.Passing.{pass_expression}
use Rattle.c_tree.specs.Progress.{Progress, pass}
use Rattle.c_tree.specs.View.{view_expression}
use Rattle.c_tree.proofs.Found.{from}
use Rattle.c_tree.proofs.Passing.{expression_passes}
use Rattle.c_tree.proofs.count.count_expression.Goals as goal

pub returns : goal.returns
returns c =
    let x = view_expression c.args.e.now in
    let searched = c.search_expression.ensures ∙ ap (λ (p : Progress). pass_expression pass p x) c.start-search.ensures ∙ expression_passes pass (from 4294967295 0) x in
    c.in_ok-add.ensures (nodes_expression x) searched ∙ sym (expression_passes count_node c.args.at.now x)
