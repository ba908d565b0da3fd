use Rattle.std.proofs.Common.{map, ap, ◌∙◌}
use Rattle.c_builtins.specs.Names.{built_ins}
use Rattle.c_builtins.specs.Types.{type_names, tags, structures}
use Rattle.c_tree.specs.StatementView.{view_item}
use Rattle.c_environment.specs.Fill.{nothing, filled}
use Rattle.c_environment.specs.Start.{function_names, object_names, numbered, one_block}
use Rattle.c_environment.proofs.Starts.{filled_is}
use Rattle.c_environment.proofs.environment.Environment.start.Goals as goal

pub returns : goal.returns
returns c =
    let rows = map (λ row. row.name) c.args.table.now in
    let fs = numbered 0 (function_names (map view_item c.args.items.now)) one_block in
    let os = numbered 0 (object_names (map view_item c.args.items.now)) one_block in
    c.in_ok-filled.ensures
    ∙ ap (λ env. filled env built_ins type_names rows tags structures) (c.nothing-environment.ensures ∙ ap (λ f. nothing f c.in_ok-objects.objects) c.in_ok-functions.ensures ∙ ap (nothing fs) c.in_ok-objects.ensures)
    ∙ filled_is fs os built_ins type_names rows tags structures
