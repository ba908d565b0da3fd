use Rattle.std.proofs.Common.{◌∙◌}
use Rattle.call_ctx.proofs.Compared.{cell_by_numbers}
use Rattle.call_ctx.proofs.order.compare_cells.Goals as goal

pub returns : goal.returns
returns c = c.cmp.ensures ∙ cell_by_numbers c.args.a.now c.args.b.now
