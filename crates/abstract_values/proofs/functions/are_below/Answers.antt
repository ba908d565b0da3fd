use Rattle.std.proofs.Common.{refl, subst, sym, drop}
use Rattle.std.proofs.lemmas.List.{drop_more, drop_all}
use Rattle.abstract_values.proofs.Places.{Walk, left_met, left_first}
use Rattle.abstract_values.proofs.Codes.{lower, equal, met_at, at_met, walk_is_under}
use Rattle.abstract_values.proofs.functions.are_below.Goals as goal

pub returns-then-not-is_at : goal.returns-then-not-is_at
returns-then-not-is_at c = (
  λ e. absurd cc,
  λ under.
      let walk = (walk_is_under 0 0 c.args.codes.now c.args.others.now c.requires.codes c.requires.others).1 under in
      let here = drop_more c.args.codes.now c.loop-code.code-index 0 c.loop-code-test.true in
      let met = left_first lower equal _ _ _ _ _ _ c.loop-code.invariant here c.place_of-place.ensures.place walk in
      let stands = c.is_at.ensures.at.1 (met_at _ _ met) in
      let not = c.if-not-is_at.true in absurd cc,
)

pub loop-code-preserved : goal.loop-code-preserved
loop-code-preserved c =
    let here = drop_more c.args.codes.now c.loop-code.code-index 0 c.loop-code-test.true in
    left_met lower equal _ _ _ _ _ _ c.loop-code.invariant here c.place_of-place.ensures.place c.place_of-place.ensures.within (at_met _ _ (c.is_at.ensures.at.0 c.if-not-is_at.false))

pub returns : goal.returns
returns c =
    let done = drop_all c.loop-code.code-index c.args.codes.now c.loop-code-test.false in
    let walk = c.loop-code.invariant.to (subst (λ l. Walk lower equal l (drop c.loop-code.place c.args.others.now)) (sym done) tt) in
    (λ e. (walk_is_under 0 0 c.args.codes.now c.args.others.now c.requires.codes c.requires.others).0 walk, λ under. refl)
