use Rattle.std.proofs.Common.{option_map, ap, sym, ◌∙◌}
use Rattle.c_tree.specs.Behind.{count_node}
use Rattle.c_tree.specs.Nodes.{nodes_optional}
use Rattle.c_tree.specs.Passing.{pass_optional}
use Rattle.c_tree.specs.Progress.{Progress, pass}
use Rattle.c_tree.specs.View.{view_expression}
use Rattle.c_tree.proofs.Found.{from}
use Rattle.c_tree.proofs.Passing.{optional_passes}
use Rattle.c_tree.proofs.count.count_optional.Goals as goal

pub returns : goal.returns
returns c =
    let x = option_map view_expression c.args.e.now in
    let searched = c.search_optional.ensures ∙ ap (λ (p : Progress). pass_optional pass p x) c.start-search.ensures ∙ optional_passes pass (from 4294967295 0) x in
    c.in_ok-add.ensures (nodes_optional x) searched ∙ sym (optional_passes count_node c.args.at.now x)
