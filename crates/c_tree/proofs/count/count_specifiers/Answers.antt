use Rattle.std.proofs.Common.{map, ap, sym, ◌∙◌}
use Rattle.c_tree.specs.Behind.{count_node}
use Rattle.c_tree.specs.Nodes.{nodes_specifiers}
use Rattle.c_tree.specs.Passing.{pass_specifiers}
use Rattle.c_tree.specs.Progress.{Progress, pass}
use Rattle.c_tree.specs.View.{view_specifier, specifiers_of}
use Rattle.c_tree.proofs.Found.{from}
use Rattle.c_tree.proofs.Passing.{specifiers_passes}
use Rattle.c_tree.proofs.count.count_specifiers.Goals as goal

pub returns : goal.returns
returns c =
    let x = specifiers_of (map view_specifier c.args.all.now) in
    let searched = c.search_specifiers.ensures ∙ ap (λ (p : Progress). pass_specifiers pass p x) c.start-search.ensures ∙ specifiers_passes pass (from 4294967295 0) x in
    c.in_ok-add.ensures (nodes_specifiers x) searched ∙ sym (specifiers_passes count_node c.args.at.now x)
