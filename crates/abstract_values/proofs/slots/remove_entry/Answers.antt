use Rattle.std.proofs.Common.{sym, ◌∙◌, subst}
use Rattle.std.specs.Prelude.{None}
use Rattle.abstract_values.specs.Entries.{AreSlots, Puts}
use Rattle.abstract_values.proofs.Entries.{removed_is, kept_is, without_entry_puts, without_entry_slots}
use Rattle.abstract_values.proofs.slots.remove_entry.Goals as goal

pub returns-then-is_at-clause-puts : goal.returns-then-is_at-clause-puts
returns-then-is_at-clause-puts c =
    let is = c.remove_at.ensures ∙ removed_is c.args.key _ _ _ c.args.entries.now.items c.deref.ensures.value c.deref-2.ensures.value c.place_of-place.ensures.place (c.is_at.ensures.at.0 c.if-is_at.true) in
    subst (Puts c.args.key None c.args.entries.now.items) (sym is) (without_entry_puts c.args.key c.args.entries.now.items c.requires)

pub returns-then-is_at-clause-slots : goal.returns-then-is_at-clause-slots
returns-then-is_at-clause-slots c =
    let is = c.remove_at.ensures ∙ removed_is c.args.key _ _ _ c.args.entries.now.items c.deref.ensures.value c.deref-2.ensures.value c.place_of-place.ensures.place (c.is_at.ensures.at.0 c.if-is_at.true) in
    subst AreSlots (sym is) (without_entry_slots c.args.key c.args.entries.now.items c.requires)

pub returns-else-is_at-clause-puts : goal.returns-else-is_at-clause-puts
returns-else-is_at-clause-puts c =
    let is = kept_is c.args.key _ _ _ c.args.entries.now.items c.deref.ensures.value c.deref-2.ensures.value c.place_of-place.ensures.place
    (λ h. let stands = c.is_at.ensures.at.1 h in let not = c.if-is_at.false in absurd cc) in
    subst (Puts c.args.key None c.args.entries.now.items) (sym is) (without_entry_puts c.args.key c.args.entries.now.items c.requires)
