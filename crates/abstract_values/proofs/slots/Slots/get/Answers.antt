use Rattle.std.proofs.Common.{◌<◌, length, ap, ◌∙◌, subst}
use Rattle.abstract_values.specs.Entries.{slot_at}
use Rattle.abstract_values.proofs.Entries.{found_is, nowhere_is}
use Rattle.abstract_values.proofs.slots.Slots.get.Goals as goal

pub returns-then-is_at : goal.returns-then-is_at
returns-then-is_at c =
    found_is c.args.s _ _ _ c.self.inside.entries.items c.deref.ensures.value c.deref-2.ensures.value c.place_of-place.ensures.place c.index.result.now c.self.invariant
    (subst (λ l. c.place_of-place.result < length l) c.deref-2.ensures.value (c.is_at.ensures.within c.if-is_at.true)) c.index.ensures (c.is_at.ensures.at.0 c.if-is_at.true)
    ∙ ap (λ es. slot_at es c.args.s) c.self.view_is

pub returns-else-is_at : goal.returns-else-is_at
returns-else-is_at c =
    nowhere_is c.args.s _ _ _ c.self.inside.entries.items c.deref.ensures.value c.deref-2.ensures.value c.place_of-place.ensures.place c.self.invariant
    (λ h. let stands = c.is_at.ensures.at.1 h in let not = c.if-is_at.false in absurd cc)
    ∙ ap (λ es. slot_at es c.args.s) c.self.view_is
