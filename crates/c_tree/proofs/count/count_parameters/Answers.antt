use Rattle.std.proofs.Common.{map, ap, sym, ◌∙◌}
use Rattle.c_tree.specs.Behind.{count_node}
use Rattle.c_tree.specs.Nodes.{nodes_parameters}
use Rattle.c_tree.specs.Passing.{pass_parameters}
use Rattle.c_tree.specs.Progress.{Progress, pass}
use Rattle.c_tree.specs.View.{view_parameter, parameters_of}
use Rattle.c_tree.proofs.Found.{from}
use Rattle.c_tree.proofs.Passing.{parameters_passes}
use Rattle.c_tree.proofs.count.count_parameters.Goals as goal

pub returns : goal.returns
returns c =
    let x = parameters_of (map view_parameter c.args.all.now) in
    let searched = c.search_parameters.ensures ∙ ap (λ (p : Progress). pass_parameters pass p x) c.start-search.ensures ∙ parameters_passes pass (from 4294967295 0) x in
    c.in_ok-add.ensures (nodes_parameters x) searched ∙ sym (parameters_passes count_node c.args.at.now x)
