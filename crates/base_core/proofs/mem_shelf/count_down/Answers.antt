use Rattle.std.proofs.Common.{◌-◌, ◌∙◌, ap, get_or, length, ◌<◌, arith}
use Rattle.std.proofs.Math.ListN.{set}
use Rattle.std.proofs.lemmas.List.{get_or_default}
use Rattle.std.proofs.lemmas.List.Edits.{map_over_more}
use Rattle.base_core.specs.declared.mem_shelf.PlannedFailure.{PlannedFailure}
use Rattle.base_core.proofs.mem_shelf.count_down.Goals as goal

pub loop-failure-preserved : goal.loop-failure-preserved
loop-failure-preserved c =
    let i = c.loop-failure.failure-index in
    let planned = c.loop-failure.planned in
    let zero : PlannedFailure = record { call = 0; kept = 0 } in
    let x = get_or planned i zero in
    let here : i < length planned = omega arith in
    ap (λ v. set planned i (record { call = v; kept = x.kept })) c.saturating_sub-failure.ensures
    ∙ map_over_more (λ (failure : PlannedFailure). record failure { call = failure.call - 1 }) c.args.planned.now planned i x (omega arith) c.loop-failure.invariant (get_or_default planned i zero x here)
