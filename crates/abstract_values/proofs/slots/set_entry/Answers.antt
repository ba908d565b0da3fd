use Rattle.std.proofs.Common.{sym, ◌∙◌, subst}
use Rattle.std.proofs.lemmas.Result.{on_ok_weaker}
use Rattle.abstract_values.specs.Values.{known}
use Rattle.abstract_values.specs.Entries.{AreSlots, Puts}
use Rattle.abstract_values.proofs.Entries.{replaced_is, inserted_is, with_entry_puts, with_entry_slots}
use Rattle.abstract_values.proofs.Outcomes.{ok_or_err}
use Rattle.abstract_values.proofs.slots.set_entry.Goals as goal

pub returns-then-is_at-clause-puts : goal.returns-then-is_at-clause-puts
returns-then-is_at-clause-puts c =
    let is = c.replace_at.ensures ∙ replaced_is c.args.key _ _ _ c.args.entries.now.items c.deref.ensures.value c.deref-2.ensures.value c.place_of-place.ensures.place c.args.value (c.is_at.ensures.at.0 c.if-is_at.true) in
    subst (Puts c.args.key (known c.args.value) c.args.entries.now.items) (sym is) (with_entry_puts c.args.key c.args.value c.args.entries.now.items)

pub returns-then-is_at-clause-slots : goal.returns-then-is_at-clause-slots
returns-then-is_at-clause-slots c =
    let is = c.replace_at.ensures ∙ replaced_is c.args.key _ _ _ c.args.entries.now.items c.deref.ensures.value c.deref-2.ensures.value c.place_of-place.ensures.place c.args.value (c.is_at.ensures.at.0 c.if-is_at.true) in
    subst AreSlots (sym is) (with_entry_slots c.args.key c.args.value c.args.entries.now.items c.requires.kept c.requires.slots)

pub returns-clause-puts : goal.returns-clause-puts
returns-clause-puts c =
    let is = inserted_is c.args.key _ _ _ c.args.entries.now.items c.deref.ensures.value c.deref-2.ensures.value c.place_of-place.ensures.place c.args.value
    (λ h. let stands = c.is_at.ensures.at.1 h in let never = c.if-is_at.false in absurd cc) in
    on_ok_weaker c.insert_at.result (λ e. subst (Puts c.args.key (known c.args.value) c.args.entries.now.items) (sym (e ∙ is)) (with_entry_puts c.args.key c.args.value c.args.entries.now.items)) c.insert_at.ensures.ok

pub returns-clause-slots : goal.returns-clause-slots
returns-clause-slots c =
    let is = inserted_is c.args.key _ _ _ c.args.entries.now.items c.deref.ensures.value c.deref-2.ensures.value c.place_of-place.ensures.place c.args.value
    (λ h. let stands = c.is_at.ensures.at.1 h in let never = c.if-is_at.false in absurd cc) in
    ok_or_err c.insert_at.result c.insert_at.ensures.ok c.insert_at.ensures.err
    (λ e. subst AreSlots (sym (e ∙ is)) (with_entry_slots c.args.key c.args.value c.args.entries.now.items c.requires.kept c.requires.slots))
    (λ e. subst AreSlots (sym e) c.requires.slots)
