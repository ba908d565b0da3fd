use Rattle.std.proofs.Common.{ap, sym, ◌∙◌}
use Rattle.c_tree.specs.Behind.{count_node}
use Rattle.c_tree.specs.Nodes.{nodes_init}
use Rattle.c_tree.specs.Passing.{pass_init}
use Rattle.c_tree.specs.Progress.{Progress, pass}
use Rattle.c_tree.specs.StatementView.{view_init}
use Rattle.c_tree.proofs.Found.{from}
use Rattle.c_tree.proofs.Passing.{init_passes}
use Rattle.c_tree.proofs.count.count_init.Goals as goal

pub returns : goal.returns
returns c =
    let x = view_init c.args.i.now in
    let searched = c.search_init.ensures ∙ ap (λ (p : Progress). pass_init pass p x) c.start-search.ensures ∙ init_passes pass (from 4294967295 0) x in
    c.in_ok-add.ensures (nodes_init x) searched ∙ sym (init_passes count_node c.args.at.now x)
