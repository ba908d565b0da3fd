use Rattle.std.proofs.Common.{◌-◌, ◌∙◌, ap, get_or, length, ◌<◌, arith}
use Rattle.std.proofs.Math.ListN.{set}
use Rattle.std.proofs.lemmas.List.{get_or_default}
use Rattle.std.proofs.lemmas.List.Edits.{map_over_more}
use Rattle.base_core.proofs.mem_sink.count_down.Goals as goal

pub loop-left-preserved : goal.loop-left-preserved
loop-left-preserved c =
    let i = c.loop-left.left-index in
    let here : i < length c.loop-left.planned = omega arith in
    ap (λ v. set c.loop-left.planned i v) c.saturating_sub.ensures
    ∙ map_over_more (λ n. n - 1) c.args.planned.now c.loop-left.planned i (get_or c.loop-left.planned i 0) (omega arith) c.loop-left.invariant (get_or_default c.loop-left.planned i 0 _ here)
