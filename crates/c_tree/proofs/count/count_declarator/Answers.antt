use Rattle.std.proofs.Common.{ap, sym, ◌∙◌}
use Rattle.c_tree.specs.Behind.{count_node}
use Rattle.c_tree.specs.Nodes.{nodes_declarator}
use Rattle.c_tree.specs.Passing.{pass_declarator}
use Rattle.c_tree.specs.Progress.{Progress, pass}
use Rattle.c_tree.specs.View.{view_declarator}
use Rattle.c_tree.proofs.Found.{from}
use Rattle.c_tree.proofs.Passing.{declarator_passes}
use Rattle.c_tree.proofs.count.count_declarator.Goals as goal

pub returns : goal.returns
returns c =
    let x = view_declarator c.args.d.now in
    let searched = c.search_declarator.ensures ∙ ap (λ (p : Progress). pass_declarator pass p x) c.start-search.ensures ∙ declarator_passes pass (from 4294967295 0) x in
    c.in_ok-add.ensures (nodes_declarator x) searched ∙ sym (declarator_passes count_node c.args.at.now x)
