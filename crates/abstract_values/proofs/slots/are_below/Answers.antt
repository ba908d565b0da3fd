use Rattle.std.proofs.Common.{refl, subst, sym, ap, ◌∙◌, ◌∷◌, ◌+◌, drop}
use Rattle.std.proofs.lemmas.List.{drop_more, drop_all}
use Rattle.abstract_values.proofs.Places.{Walk, left_met, left_first}
use Rattle.abstract_values.proofs.Entries.{earlier, meets}
use Rattle.abstract_values.proofs.Walks.{walk_is_under}
use Rattle.abstract_values.proofs.slots.are_below.Goals as goal

pub returns-then-not-is_met : goal.returns-then-not-is_met
returns-then-not-is_met c = (
  λ e. absurd cc,
  λ under.
      let walk = (walk_is_under c.args.lower.now c.args.upper.now c.requires.lower c.requires.upper).1 under in
      let here = drop_more c.args.upper.now c.loop-entry.entry-index c.entry-item.result c.loop-entry-test.true ∙ ap (λ x. x ∷ drop (c.loop-entry.entry-index + 1) c.args.upper.now) (sym c.entry-item.is) in
      let met = left_first earlier meets _ _ _ _ _ _ c.loop-entry.invariant here c.place_of-place.ensures.place walk in
      let stands = c.is_met.ensures.1 met in
      let not = c.if-not-is_met.true in absurd cc,
)

pub loop-entry-preserved : goal.loop-entry-preserved
loop-entry-preserved c =
    let here = drop_more c.args.upper.now c.loop-entry.entry-index c.entry-item.result c.loop-entry-test.true ∙ ap (λ x. x ∷ drop (c.loop-entry.entry-index + 1) c.args.upper.now) (sym c.entry-item.is) in
    left_met earlier meets _ _ _ _ _ _ c.loop-entry.invariant here c.place_of-place.ensures.place c.place_of-place.ensures.within (c.is_met.ensures.0 c.if-not-is_met.false)

pub returns : goal.returns
returns c =
    let done = drop_all c.loop-entry.entry-index c.args.upper.now c.loop-entry-test.false in
    let walk = c.loop-entry.invariant.to (subst (λ l. Walk earlier meets l (drop c.loop-entry.place c.args.lower.now)) (sym done) tt) in
    (λ e. (walk_is_under c.args.lower.now c.args.upper.now c.requires.lower c.requires.upper).0 walk, λ under. refl)
