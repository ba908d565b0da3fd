use Rattle.std.proofs.Common.{ap, sym, ◌∙◌}
use Rattle.c_tree.specs.Behind.{count_node}
use Rattle.c_tree.specs.Nodes.{nodes_start}
use Rattle.c_tree.specs.Passing.{pass_start}
use Rattle.c_tree.specs.Progress.{Progress, pass}
use Rattle.c_tree.specs.StatementView.{view_start}
use Rattle.c_tree.proofs.Found.{from}
use Rattle.c_tree.proofs.Passing.{start_passes}
use Rattle.c_tree.proofs.count.count_start.Goals as goal

pub returns : goal.returns
returns c =
    let x = view_start c.args.part.now in
    let searched = c.search_start.ensures ∙ ap (λ (p : Progress). pass_start pass p x) c.start-search.ensures ∙ start_passes pass (from 4294967295 0) x in
    c.in_ok-add.ensures (nodes_start x) searched ∙ sym (start_passes count_node c.args.at.now x)
