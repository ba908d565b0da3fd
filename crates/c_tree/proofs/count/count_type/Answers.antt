use Rattle.std.proofs.Common.{ap, sym, ◌∙◌}
use Rattle.c_tree.specs.Behind.{count_node}
use Rattle.c_tree.specs.Nodes.{nodes_type}
use Rattle.c_tree.specs.Passing.{pass_type}
use Rattle.c_tree.specs.Progress.{Progress, pass}
use Rattle.c_tree.specs.View.{view_type}
use Rattle.c_tree.proofs.Found.{from}
use Rattle.c_tree.proofs.Passing.{type_passes}
use Rattle.c_tree.proofs.count.count_type.Goals as goal

pub returns : goal.returns
returns c =
    let x = view_type c.args.t.now in
    let searched = c.search_type.ensures ∙ ap (λ (p : Progress). pass_type pass p x) c.start-search.ensures ∙ type_passes pass (from 4294967295 0) x in
    c.in_ok-add.ensures (nodes_type x) searched ∙ sym (type_passes count_node c.args.at.now x)
