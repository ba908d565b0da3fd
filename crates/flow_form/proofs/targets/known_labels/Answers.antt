use Rattle.std.proofs.Common.{◌≡◌, ◌<◌, ◌-◌, suc, length, map, drop, arith, sym, subst, ap, ◌∙◌, ◌∷◌}
use Rattle.std.proofs.Math.Seq.{drop-cons}
use Rattle.flow_form.specs.Known.{label_of, AreKnown}
use Rattle.flow_form.proofs.Known.{one_more}
use Rattle.flow_form.proofs.targets.known_labels.Goals as goal

pub loop-i-preserved : goal.loop-i-preserved
loop-i-preserved c =
    let ls = c.args.labels.now in
    let i = c.loop-i.i in
    let x = c.in-Some.l.now in
    let within : i - 1 < length ls = omega (arith, c.loop-i.invariant.0, c.loop-i-test.true) in
    let whole : i ≡ suc (i - 1) = omega (arith, c.loop-i-test.true) in
    let split : drop (i - 1) ls ≡ x ∷ drop (suc (i - 1)) ls = drop-cons ls (i - 1) x within ∙ ap (λ y. y ∷ drop (suc (i - 1)) ls) (sym c.in-Some.ensures.lookup.1) in (
      omega (arith, c.loop-i.invariant.0),
      subst (λ xs. AreKnown c.insert.new.self (map label_of xs)) (sym split)
          (one_more c.loop-i.known c.insert.new.self x (drop (suc (i - 1)) ls) c.in-Ok.ensures.updates (subst (λ k. AreKnown c.loop-i.known (map label_of (drop k ls))) whole c.loop-i.invariant.1)),
    )
