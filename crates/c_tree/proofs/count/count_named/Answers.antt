use Rattle.std.proofs.Common.{ap, sym, ◌∙◌}
use Rattle.c_tree.specs.Behind.{count_node}
use Rattle.c_tree.specs.Nodes.{nodes_named}
use Rattle.c_tree.specs.Passing.{pass_named}
use Rattle.c_tree.specs.Progress.{Progress, pass}
use Rattle.c_tree.specs.StatementView.{view_named}
use Rattle.c_tree.proofs.Found.{from}
use Rattle.c_tree.proofs.Passing.{named_passes}
use Rattle.c_tree.proofs.count.count_named.Goals as goal

pub returns : goal.returns
returns c =
    let x = view_named c.args.n.now in
    let searched = c.search_named.ensures ∙ ap (λ (p : Progress). pass_named pass p x) c.start-search.ensures ∙ named_passes pass (from 4294967295 0) x in
    c.in_ok-add.ensures (nodes_named x) searched ∙ sym (named_passes count_node c.args.at.now x)
