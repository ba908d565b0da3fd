use Rattle.std.proofs.Common.{sym, subst}
use Rattle.abstract_values.specs.Entries.{AreSlots}
use Rattle.abstract_values.proofs.Walks.{join_slots}
use Rattle.abstract_values.proofs.slots.Slots.join.Goals as goal

pub invariant_of-result : goal.invariant_of-result
invariant_of-result c =
    subst AreSlots (sym c.in_ok-entries.ensures)
    (join_slots _ _ (subst AreSlots (sym c.deref.ensures.value) c.self.invariant) (subst AreSlots (sym c.deref-2.ensures.value) c.o.invariant))
