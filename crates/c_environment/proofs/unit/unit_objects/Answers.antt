use Rattle.std.proofs.Common.{map, ap, ◌∙◌}
use Rattle.c_tree.specs.StatementView.{view_item}
use Rattle.c_environment.specs.Counted.{counted}
use Rattle.c_environment.specs.Start.{object_names, one_block}
use Rattle.c_environment.proofs.Counts.{counted_names}
use Rattle.c_environment.proofs.unit.unit_objects.Goals as goal

pub returns : goal.returns
returns c =
    let ns = object_names (map view_item c.args.items.now) in
    ap (λ p. p.1) (c.in_ok-add_unit_objects.ensures ∙ ap (λ p. counted p ns) c.new-numbering.ensures) ∙ counted_names 0 one_block ns
