use Rattle.call_ctx.proofs.Compared.{exact_ctx, exact_cell, ctx_total, cell_total}
use Rattle.call_ctx.proofs.order.order_is_total.Goals as goal

pub returns-clause-contexts : goal.returns-clause-contexts
returns-clause-contexts c = ctx_total

pub returns-clause-cells : goal.returns-clause-cells
returns-clause-cells c = cell_total

pub returns-clause-contexts_apart : goal.returns-clause-contexts_apart
returns-clause-contexts_apart c = exact_ctx

pub returns-clause-cells_apart : goal.returns-clause-cells_apart
returns-clause-cells_apart c = exact_cell
