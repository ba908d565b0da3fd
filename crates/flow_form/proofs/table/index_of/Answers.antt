use Rattle.std.proofs.Common.{◌+◌, slice_get, take, arith, ap, sym, ◌∙◌}
use Rattle.flow_form.specs.Positions.{Ways}
use Rattle.flow_form.specs.Table.{number, found}
use Rattle.flow_form.proofs.Tables.{placed, some_at}
use Rattle.flow_form.proofs.table.index_of.Goals as goal

pub loop-row-preserved : goal.loop-row-preserved
loop-row-preserved c =
    let same = c.loop-row.invariant.0 in
    let viewed = ap (λ (r : Ways). number r.source.at) c.row.view_is in (
      omega (arith, same),
      placed c.loop-row.index.items c.args.rows.now c.loop-row.i (c.loop-row.row-index + 1) c.number_of-k.result c.row-item.result
          (ap (slice_get c.args.rows.now) same ∙ some_at c.args.rows.now c.loop-row.row-index c.row-item.result (omega (arith, c.loop-row-test.true)) c.row-item.is) (cc (c.number_of-k.ensures, viewed)) (omega (arith, c.if-k-len.false, c.len.ensures)) (omega (arith, same))
          (λ k. c.loop-row.invariant.1 k ∙ ap (λ i. found k (take i c.args.rows.now)) (sym same)),
    )
