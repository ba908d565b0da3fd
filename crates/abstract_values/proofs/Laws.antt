-- The laws of states: `Under` is an order, and the join is the least state above both.
use Rattle.std.proofs.Common.{◌≡◌, refl, sym, ap, ◌∙◌, subst, Bool, true, false, cond, ◌&&◌, List}
use Rattle.std.specs.Prelude.{Option, Some, None, IfSome}
use Rattle.std.proofs.lemmas.Bool.{and_parts, and_from}
use Rattle.abstract_values.specs.declared.slot.Slot.{Slot}
use Rattle.abstract_values.specs.declared.slot_value.SlotValue.{SlotValue}
use Rattle.abstract_values.specs.declared.state.State.{State}
use Rattle.abstract_values.specs.Numbers.{int_join}
use Rattle.abstract_values.specs.Sets.{set_join}
use Rattle.abstract_values.specs.Keys.{is_same}
use Rattle.abstract_values.specs.Values.{IsFormed, is_unknown, known}
use Rattle.abstract_values.specs.Entries.{Entry, slot_at, AreSlots, AreFormed, Puts, SlotUnder, slots_join}
use Rattle.abstract_values.specs.States.{Under, IsJoin, IsWellFormed, unknown_state}
use Rattle.abstract_values.proofs.Numbers.{int_refl, int_trans, int_antisymmetric, int_join_left, int_join_right, int_join_least}
use Rattle.abstract_values.proofs.Sets.{set_refl, set_trans, set_antisymmetric, set_join_left, set_join_right, set_join_least, set_join_some, any_set_some}
use Rattle.abstract_values.proofs.Values.{slot_refl, slot_trans, slot_join, slot_join_left, slot_join_right, slot_join_least, slot_join_formed}
use Rattle.abstract_values.proofs.Entries.{slot_at_known}
use Rattle.abstract_values.proofs.Walks.{join_at, slots_antisymmetric}

pub under_refl : (s : State) → Under s s
under_refl s = record { mask = set_refl s.mask; errno = int_refl s.errno; alone = λ h. h; bare = λ h. h; slots = λ k. slot_refl (slot_at s.slots k) }

pub under_trans : (s t u : State) → Under s t → Under t u → Under s u
under_trans s t u h k = record {
  mask = set_trans s.mask t.mask u.mask h.mask k.mask;
  errno = int_trans s.errno t.errno u.errno h.errno k.errno;
  alone = λ e. h.alone (k.alone e);
  bare = λ e. h.bare (k.bare e);
  slots = λ q. slot_trans (slot_at s.slots q) (slot_at t.slots q) (slot_at u.slots q) (h.slots q) (k.slots q);
}

same_bool : (x y : Bool) → (x ≡ true → y ≡ true) → (y ≡ true → x ≡ true) → x ≡ y
same_bool true y h k = sym (h refl)
same_bool false true h k = k refl
same_bool false false h k = refl

-- states whose slots are what the type `Slots` keeps are equal where each is below the other
pub under_antisymmetric : (s t : State) → AreSlots s.slots → AreSlots t.slots → Under s t → Under t s → s ≡ t
under_antisymmetric s t p q h k =
    let mask = set_antisymmetric s.mask t.mask h.mask k.mask in
    let errno = int_antisymmetric s.errno t.errno h.errno k.errno in
    let alone = same_bool s.alone t.alone k.alone h.alone in
    let bare = same_bool s.bare t.bare k.bare h.bare in
    let slots = slots_antisymmetric s.slots t.slots p q h.slots k.slots in
    λ i. record { mask = mask i; errno = errno i; alone = alone i; bare = bare i; slots = slots i }

-- n is made of s and t, part by part
pub record Joins (s t n : State) : Type 0 where
  pub mask : n.mask ≡ set_join s.mask t.mask
  pub errno : n.errno ≡ int_join s.errno t.errno
  pub alone : n.alone ≡ (s.alone && t.alone)
  pub bare : n.bare ≡ (s.bare && t.bare)
  pub slots : n.slots ≡ slots_join s.slots t.slots
  pub kept : AreSlots s.slots

module _ (s t n : State) (j : Joins s t n) where
  slot : (k : Slot) → slot_at n.slots k ≡ slot_join (slot_at s.slots k) (slot_at t.slots k)
  slot k = ap (λ es. slot_at es k) j.slots ∙ join_at s.slots t.slots k j.kept

  joins_left : Under s n
  joins_left = record {
    mask = rw j.mask (set_join_left s.mask t.mask);
    errno = rw j.errno (int_join_left s.errno t.errno);
    alone = λ e. (and_parts s.alone t.alone (sym j.alone ∙ e)).0;
    bare = λ e. (and_parts s.bare t.bare (sym j.bare ∙ e)).0;
    slots = λ k. subst (SlotUnder (slot_at s.slots k)) (sym (slot k)) (slot_join_left (slot_at s.slots k) (slot_at t.slots k));
  }

  joins_right : Under t n
  joins_right = record {
    mask = rw j.mask (set_join_right s.mask t.mask);
    errno = rw j.errno (int_join_right s.errno t.errno);
    alone = λ e. (and_parts s.alone t.alone (sym j.alone ∙ e)).1;
    bare = λ e. (and_parts s.bare t.bare (sym j.bare ∙ e)).1;
    slots = λ k. subst (SlotUnder (slot_at t.slots k)) (sym (slot k)) (slot_join_right (slot_at s.slots k) (slot_at t.slots k));
  }

  joins_least : (u : State) → Under s u → Under t u → Under n u
  joins_least u h k = record {
    mask = rw j.mask (set_join_least s.mask t.mask u.mask h.mask k.mask);
    errno = rw j.errno (int_join_least s.errno t.errno u.errno h.errno k.errno);
    alone = λ e. j.alone ∙ and_from s.alone t.alone (h.alone e) (k.alone e);
    bare = λ e. j.bare ∙ and_from s.bare t.bare (h.bare e) (k.bare e);
    slots = λ q. subst (λ v. SlotUnder v (slot_at u.slots q)) (sym (slot q))
        (slot_join_least (slot_at s.slots q) (slot_at t.slots q) (slot_at u.slots q) (slot_at_known u.slots q) (h.slots q) (k.slots q));
  }

  pub joins_formed : IsWellFormed s → IsWellFormed t → IsWellFormed n
  joins_formed h k = record {
    mask = rw j.mask (set_join_some s.mask t.mask h.mask);
    bare = λ e. let both = and_parts s.bare t.bare (sym j.bare ∙ e) in j.alone ∙ and_from s.alone t.alone (h.bare both.0) (k.bare both.1);
    slots = λ q. subst (λ v. IfSome v IsFormed) (sym (slot q)) (slot_join_formed (slot_at s.slots q) (slot_at t.slots q) (h.slots q) (k.slots q));
  }

pub joins : (s t n : State) → Joins s t n → IsJoin s t n
joins s t n j = record { left = joins_left s t n j; right = joins_right s t n j; least = joins_least s t n j }

-- a state that is below the other adds nothing
pub joins_below : (s t : State) → Under t s → IsJoin s t s
joins_below s t h = record { left = under_refl s; right = h; least = λ u a b. a }

pub unknown_formed : IsWellFormed unknown_state
unknown_formed = record { mask = any_set_some; bare = λ e. absurd cc; slots = λ k. tt }

-- a slot that gets a value that stands for something, or none, leaves slots so
chosen_formed : (b : Bool) (p q : Option SlotValue) → IfSome p IsFormed → IfSome q IsFormed → IfSome (cond b p q) IsFormed
chosen_formed true p q h g = h
chosen_formed false p q h g = g

pub known_formed : (v : SlotValue) → IsFormed v → IfSome (known v) IsFormed
known_formed v f = chosen_formed (is_unknown v) None (Some v) tt f

pub put_formed : (key : Slot) (value : Option SlotValue) (old new : List Entry) → Puts key value old new → IfSome value IsFormed → AreFormed old → AreFormed new
put_formed key value old new puts f h k = subst (λ o. IfSome o IsFormed) (sym (puts k)) (chosen_formed (is_same key k) value (slot_at old k) f (h k))
