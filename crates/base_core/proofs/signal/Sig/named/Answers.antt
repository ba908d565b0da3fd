use Rattle.std.proofs.Common.{◌≡◌, ◌∙◌, ◌-◌, ap, sym, bytes_eq, arith}
use Rattle.base_core.proofs.SignalNames.{search_from, search_start, search_found, search_next, search_end}
use Rattle.base_core.proofs.signal.Sig.named.Goals as goal

pub loop-number-init : goal.loop-number-init
loop-number-init c = search_start c.args.name.now

pub returns-then-eq : goal.returns-then-eq
returns-then-eq c =
    search_found c.loop-number.number c.name_of.result.now c.args.name.now (omega arith) c.name_of.ensures
    (c.if-eq.ensures ∙ ap (λ b. bytes_eq b c.args.name.now) c.as_bytes.ensures.value) c.loop-number.invariant

pub loop-number-preserved : goal.loop-number-preserved
loop-number-preserved c =
    search_next c.loop-number.number c.name_of.result.now c.args.name.now (omega arith) c.name_of.ensures
    (c.if-eq.ensures ∙ ap (λ b. bytes_eq b c.args.name.now) c.as_bytes.ensures.value) c.loop-number.invariant

pub returns : goal.returns
returns c =
    let at : 29 ≡ c.loop-number.number = omega arith in
    sym (search_end c.args.name.now) ∙ ap (λ m. search_from (m - 1) m c.args.name.now) at ∙ c.loop-number.invariant
