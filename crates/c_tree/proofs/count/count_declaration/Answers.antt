use Rattle.std.proofs.Common.{ap, sym, ◌∙◌}
use Rattle.c_tree.specs.Behind.{count_node}
use Rattle.c_tree.specs.Nodes.{nodes_declaration}
use Rattle.c_tree.specs.Passing.{pass_declaration}
use Rattle.c_tree.specs.Progress.{Progress, pass}
use Rattle.c_tree.specs.StatementView.{view_declaration}
use Rattle.c_tree.proofs.Found.{from}
use Rattle.c_tree.proofs.Passing.{declaration_passes}
use Rattle.c_tree.proofs.count.count_declaration.Goals as goal

pub returns : goal.returns
returns c =
    let x = view_declaration c.args.d.now in
    let searched = c.search_declaration.ensures ∙ ap (λ (p : Progress). pass_declaration pass p x) c.start-search.ensures ∙ declaration_passes pass (from 4294967295 0) x in
    c.in_ok-add.ensures (nodes_declaration x) searched ∙ sym (declaration_passes count_node c.args.at.now x)
