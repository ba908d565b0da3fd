-- Two maps of slots walked side by side: their order and their join.
use Rattle.std.proofs.Common.{◌≡◌, ℕ, ◌+◌, ◌<◌, length, get_or, List, [], ◌∷◌, ◌++◌, drop, refl, sym, ap, ◌∙◌, subst, Bool, true, false, cond}
use Rattle.std.specs.Prelude.{Option, Some, None, IfSome, ◌↔◌, slice_get}
use Rattle.std.specs.declared.cmp.Ordering.TheVariants.{Less}
use Rattle.std.proofs.lemmas.List.{drop-drop}
use Rattle.std.proofs.lemmas.Option.{slice_get_read}
use Rattle.abstract_values.specs.Places.{leading}
use Rattle.abstract_values.specs.declared.slot.Slot.{Slot}
use Rattle.abstract_values.specs.declared.slot_value.SlotValue.{SlotValue}
use Rattle.abstract_values.specs.Keys.{slot_cmp, is_before, is_same}
use Rattle.abstract_values.specs.Values.{ValueUnder, value_join, is_unknown, known, HasRisingCodes, IsKept}
use Rattle.abstract_values.specs.Entries.{Entry, slot_at, AreSlotsAbove, AreSlots, SlotUnder, SlotsUnder, HasKey, IsMet, entry_of, common, joined_entry, slots_join}
use Rattle.abstract_values.proofs.Places.{behind_more, past, Walk, first_of_drop}
use Rattle.abstract_values.proofs.Keys.{same_slot, self_same, before_less, before_trans, not_same, not_same_back, behind_is}
use Rattle.abstract_values.proofs.Values.{value_antisymmetric, slot_join, known_is, value_join_codes}
use Rattle.abstract_values.proofs.Entries.{earlier, meets, slots_above, slots_tail, absent_above, slot_later, slot_first}

-- what is left of the entries behind those before an entry's key
abbrev pub rest : Entry → List Entry → List Entry
rest e es = past earlier meets e es

rest_more : (e o : Entry) (os : List Entry) → rest e (o ∷ os) ≡ cond (is_before o.0 e.0) (rest e os) (o ∷ os)
rest_more e o os = behind_more (λ y. earlier y e) o os

-- ---- what is left has the same values from the key on
rest_at : (e : Entry) (es : List Entry) (k : Slot) → is_before k e.0 ≡ false → slot_at (rest e es) k ≡ slot_at es k
rest_at e [] k h = refl
rest_at e (o ∷ os) k h = ap (λ l. slot_at l k) (rest_more e o os) ∙ by_test (rest_at e os k h) (is_before o.0 e.0) refl
  where
    by_test : slot_at (rest e os) k ≡ slot_at os k → (t : Bool) → is_before o.0 e.0 ≡ t → slot_at (cond t (rest e os) (o ∷ os)) k ≡ slot_at (o ∷ os) k
    by_test ih true before =
        ih ∙ sym (by_same (is_same o.0 k) refl)
      where
        by_same : (s : Bool) → is_same o.0 k ≡ s → cond s (known o.1) (slot_at os k) ≡ slot_at os k
        by_same true same =
            let moved : is_before k e.0 ≡ true = subst (λ x. is_before x e.0 ≡ true) (same_slot o.0 k same) before in absurd cc
        by_same false same = refl
    by_test ih false before = refl

rest_slots_above : (j : Slot) (e : Entry) (es : List Entry) → AreSlotsAbove j es → AreSlotsAbove j (rest e es)
rest_slots_above j e [] h = tt
rest_slots_above j e (o ∷ os) h = subst (AreSlotsAbove j) (sym (rest_more e o os)) (by_test (rest_slots_above o.0 e os h.2) (is_before o.0 e.0))
  where
    by_test : AreSlotsAbove o.0 (rest e os) → (t : Bool) → AreSlotsAbove j (cond t (rest e os) (o ∷ os))
    by_test ih true = slots_above j o.0 _ h.0 ih
    by_test ih false = h

rest_slots : (e : Entry) (es : List Entry) → AreSlots es → AreSlots (rest e es)
rest_slots e [] h = tt
rest_slots e (o ∷ os) h = subst AreSlots (sym (rest_more e o os)) (by_test (is_before o.0 e.0))
  where
    by_test : (t : Bool) → AreSlots (cond t (rest e os) (o ∷ os))
    by_test true = slots_tail o.0 _ (rest_slots_above o.0 e os h.1)
    by_test false = h

-- the rest of entries begins at the key, or has no value there
abbrev pub first_at : Slot → List Entry → Option SlotValue
first_at key [] = None
first_at key (o ∷ os) = cond (is_same o.0 key) (Some o.1) None

pub slot_at_rest : (e : Entry) (es : List Entry) → AreSlots es → slot_at es e.0 ≡ first_at e.0 (rest e es)
slot_at_rest e [] h = refl
slot_at_rest e (o ∷ os) h = by_test (slot_at_rest e os (slots_tail o.0 os h.1)) (is_before o.0 e.0) refl ∙ ap (first_at e.0) (sym (rest_more e o os))
  where
    by_same : is_before o.0 e.0 ≡ false → (s : Bool) → is_same o.0 e.0 ≡ s → cond s (known o.1) (slot_at os e.0) ≡ cond s (Some o.1) None
    by_same before true same = known_is o.1 h.0.known
    by_same before false same = absent_above e.0 os (slots_above e.0 o.0 os (behind_is o.0 e.0 before same) h.1)

    by_test : slot_at os e.0 ≡ first_at e.0 (rest e os) → (t : Bool) → is_before o.0 e.0 ≡ t → slot_at (o ∷ os) e.0 ≡ first_at e.0 (cond t (rest e os) (o ∷ os))
    by_test ih true before = slot_later o os e.0 (not_same o.0 e.0 (before_less o.0 e.0 before)) ∙ ih
    by_test ih false before = by_same before (is_same o.0 e.0) refl

-- ---- a key is before another, or the values there are the same as behind the first
split_at : (e : Entry) (us lower : List Entry) (k : Slot) → AreSlotsAbove e.0 us → (slot_at us k ≡ None → ⊥) → slot_at (rest e lower) k ≡ slot_at lower k
split_at e us lower k h stands = by_test (is_before k e.0) refl
  where
    by_test : (t : Bool) → is_before k e.0 ≡ t → slot_at (rest e lower) k ≡ slot_at lower k
    by_test true before = absurd (stands (absent_above k us (slots_above k e.0 us (before_less k e.0 before) h)))
    by_test false before = rest_at e lower k before

under_from : (x y : Option SlotValue) → ((y ≡ None → ⊥) → SlotUnder x y) → SlotUnder x y
under_from x None h = tt
under_from x (Some w) h = h (λ e. cc)

begins_under : (e : Entry) (l : List Entry) → IsMet e (slice_get l 0) → SlotUnder (first_at e.0 l) (Some e.1)
begins_under e [] b = absurd b
begins_under e (o ∷ os) b = by_test (is_same o.0 e.0) b.0
  where
    by_test : (t : Bool) → t ≡ true → SlotUnder (cond t (Some o.1) None) (Some e.1)
    by_test true is = b.1
    by_test false is = absurd cc

under_begins : (e : Entry) (l : List Entry) → SlotUnder (first_at e.0 l) (Some e.1) → IsMet e (slice_get l 0)
under_begins e [] u = u
under_begins e (o ∷ os) u = by_test (is_same o.0 e.0) refl u
  where
    by_test : (t : Bool) → is_same o.0 e.0 ≡ t → SlotUnder (cond t (Some o.1) None) (Some e.1) → (is_same o.0 e.0 ≡ true) × ValueUnder o.1 e.1
    by_test true is u = (is, u)
    by_test false is u = absurd u

walk_to : (upper lower : List Entry) → AreSlots upper → AreSlots lower → Walk earlier meets upper lower → SlotsUnder lower upper
walk_to [] lower h l w k = tt
walk_to (e ∷ us) lower h l w k = by_same (walk_to us (rest e lower) (slots_tail e.0 us h.1) (rest_slots e lower l) w.1) (is_same e.0 k) refl
  where
    by_same : SlotsUnder (rest e lower) us → (s : Bool) → is_same e.0 k ≡ s → SlotUnder (slot_at lower k) (cond s (known e.1) (slot_at us k))
    by_same ih true same =
        let at : SlotUnder (slot_at lower e.0) (Some e.1) = subst (λ x. SlotUnder x (Some e.1)) (sym (slot_at_rest e lower l)) (begins_under e (rest e lower) w.0) in
        let here = subst (λ x. SlotUnder (slot_at lower x) (Some e.1)) (same_slot e.0 k same) at in
        subst (SlotUnder (slot_at lower k)) (sym (known_is e.1 h.0.known)) here
    by_same ih false same =
        under_from _ _ (λ stands. subst (λ x. SlotUnder x (slot_at us k)) (split_at e us lower k h.1 stands) (ih k))

walk_from : (upper lower : List Entry) → AreSlots upper → AreSlots lower → SlotsUnder lower upper → Walk earlier meets upper lower
walk_from [] lower h l u = tt
walk_from (e ∷ us) lower h l u =
    let at : SlotUnder (slot_at lower e.0) (Some e.1) = subst (SlotUnder (slot_at lower e.0)) (slot_first e us h.0) (u e.0) in (
      under_begins e (rest e lower) (subst (λ x. SlotUnder x (Some e.1)) (slot_at_rest e lower l) at),
      walk_from us (rest e lower) (slots_tail e.0 us h.1) (rest_slots e lower l) behind_it,
    )
  where
    behind_it : SlotsUnder (rest e lower) us
    behind_it k = under_from _ _ (λ stands. subst (λ x. SlotUnder x (slot_at us k)) (sym (split_at e us lower k h.1 stands)) (passed (is_same e.0 k) refl stands (u k)))
      where
        passed : (s : Bool) → is_same e.0 k ≡ s → (slot_at us k ≡ None → ⊥) → SlotUnder (slot_at lower k) (cond s (known e.1) (slot_at us k)) → SlotUnder (slot_at lower k) (slot_at us k)
        passed true same stands v = absurd (stands (subst (λ x. slot_at us x ≡ None) (same_slot e.0 k same) (absent_above e.0 us h.1)))
        passed false same stands v = v

pub walk_is_under : (lower upper : List Entry) → AreSlots lower → AreSlots upper → Walk earlier meets upper lower ↔ SlotsUnder lower upper
walk_is_under lower upper l h = (walk_to upper lower h l, walk_from upper lower h l)

-- ---- the join
abbrev pub walk_join : List Entry → List Entry → List Entry
walk_join [] right = []
walk_join (e ∷ es) right = common e (slice_get (rest e right) 0) ++ walk_join es (rest e right)

common_is : (e : Entry) (l : List Entry) → common e (slice_get l 0) ≡ joined_entry e (first_at e.0 l)
common_is e [] = refl
common_is e (o ∷ os) = by_test (is_same o.0 e.0)
  where
    by_test : (t : Bool) → cond t (entry_of e.0 (value_join e.1 o.1)) [] ≡ joined_entry e (cond t (Some o.1) None)
    by_test true = refl
    by_test false = refl

-- the join looks only at the keys of the left entries
joins_alike : (es right other : List Entry) (j : Slot) → AreSlotsAbove j es → ((k : Slot) → slot_cmp j k ≡ Less → slot_at right k ≡ slot_at other k) → slots_join es right ≡ slots_join es other
joins_alike [] right other j h same = refl
joins_alike (e ∷ es) right other j h same =
    let first : joined_entry e (slot_at right e.0) ≡ joined_entry e (slot_at other e.0) = ap (joined_entry e) (same e.0 h.0) in
    let others = joins_alike es right other e.0 h.2 (λ k less. same k (before_trans j e.0 k h.0 less)) in
    λ i. first i ++ others i

not_before : (j k : Slot) → slot_cmp j k ≡ Less → is_before k j ≡ false
not_before j k less = by_test (is_before k j) refl
  where
    by_test : (t : Bool) → is_before k j ≡ t → t ≡ false
    by_test true before =
        let self = before_trans j k j less (before_less k j before) in
        let apart = not_same j j self in
        let same = self_same j in absurd cc
    by_test false before = refl

walk_join_tail : (j : Slot) (es right : List Entry) → AreSlotsAbove j es → AreSlots right → walk_join es right ≡ slots_join es right
walk_join_tail j [] right h r = refl
walk_join_tail j (e ∷ es) right h r =
    let first : common e (slice_get (rest e right) 0) ≡ joined_entry e (slot_at right e.0) = common_is e (rest e right) ∙ ap (joined_entry e) (sym (slot_at_rest e right r)) in
    let others = walk_join_tail e.0 es (rest e right) h.2 (rest_slots e right r) ∙ joins_alike es (rest e right) right e.0 h.2 (λ k less. rest_at e right k (not_before e.0 k less)) in
    λ i. first i ++ others i

pub walk_join_is : (es right : List Entry) → AreSlots es → AreSlots right → walk_join es right ≡ slots_join es right
walk_join_is [] right h r = refl
walk_join_is (e ∷ es) right h r =
    let first : common e (slice_get (rest e right) 0) ≡ joined_entry e (slot_at right e.0) = common_is e (rest e right) ∙ ap (joined_entry e) (sym (slot_at_rest e right r)) in
    let others = walk_join_tail e.0 es (rest e right) h.1 (rest_slots e right r) ∙ joins_alike es (rest e right) right e.0 h.1 (λ k less. rest_at e right k (not_before e.0 k less)) in
    λ i. first i ++ others i

-- ---- what the join has at a key
entry_then : (key : Slot) (v : SlotValue) (es : List Entry) (k : Slot) → (is_same key k ≡ true → slot_at es k ≡ None) → slot_at (entry_of key v ++ es) k ≡ cond (is_same key k) (known v) (slot_at es k)
entry_then key v es k gone = by_tests (is_unknown v) refl (is_same key k) refl
  where
    by_tests : (t : Bool) → is_unknown v ≡ t → (s : Bool) → is_same key k ≡ s → slot_at (cond t [] ((key, v) ∷ []) ++ es) k ≡ cond s (cond t None (Some v)) (slot_at es k)
    by_tests true unknown true same = gone same
    by_tests true unknown false same = refl
    by_tests false unknown s same = ap (λ b. cond b (known v) (slot_at es k)) same ∙ ap (λ x. cond s x (slot_at es k)) (known_is v unknown)

joined_then : (e : Entry) (w : Option SlotValue) (es : List Entry) (k : Slot) → (is_same e.0 k ≡ true → slot_at es k ≡ None) → slot_at (joined_entry e w ++ es) k ≡ cond (is_same e.0 k) (slot_join (Some e.1) w) (slot_at es k)
joined_then e None es k gone = by_test (is_same e.0 k) refl
  where
    by_test : (s : Bool) → is_same e.0 k ≡ s → slot_at es k ≡ cond s None (slot_at es k)
    by_test true same = gone same
    by_test false same = refl
joined_then e (Some w) es k gone = entry_then e.0 (value_join e.1 w) es k gone

join_absent : (j : Slot) (es right : List Entry) → AreSlotsAbove j es → slot_at (slots_join es right) j ≡ None
join_absent j [] right h = refl
join_absent j (e ∷ es) right h =
    let apart = not_same_back j e.0 h.0 in
    let later = join_absent j es right (slots_above j e.0 es h.0 h.2) in
    joined_then e (slot_at right e.0) (slots_join es right) j (λ same. later) ∙ ap (λ b. cond b (slot_join (Some e.1) (slot_at right e.0)) (slot_at (slots_join es right) j)) apart ∙ later

join_at_tail : (j : Slot) (es right : List Entry) (k : Slot) → AreSlotsAbove j es → slot_at (slots_join es right) k ≡ slot_join (slot_at es k) (slot_at right k)
join_at_tail j [] right k h = refl
join_at_tail j (e ∷ es) right k h =
    joined_then e (slot_at right e.0) (slots_join es right) k (λ same. subst (λ x. slot_at (slots_join es right) x ≡ None) (same_slot e.0 k same) (join_absent e.0 es right h.2))
    ∙ by_same (join_at_tail e.0 es right k h.2) (is_same e.0 k) refl
  where
    by_same : slot_at (slots_join es right) k ≡ slot_join (slot_at es k) (slot_at right k) → (s : Bool) → is_same e.0 k ≡ s
        → cond s (slot_join (Some e.1) (slot_at right e.0)) (slot_at (slots_join es right) k) ≡ slot_join (cond s (known e.1) (slot_at es k)) (slot_at right k)
    by_same ih true same =
        ap (λ x. slot_join (Some e.1) (slot_at right x)) (same_slot e.0 k same) ∙ ap (λ x. slot_join x (slot_at right k)) (sym (known_is e.1 h.1.known))
    by_same ih false same = ih

pub join_at : (es right : List Entry) (k : Slot) → AreSlots es → slot_at (slots_join es right) k ≡ slot_join (slot_at es k) (slot_at right k)
join_at [] right k h = refl
join_at (e ∷ es) right k h =
    joined_then e (slot_at right e.0) (slots_join es right) k (λ same. subst (λ x. slot_at (slots_join es right) x ≡ None) (same_slot e.0 k same) (join_absent e.0 es right h.1))
    ∙ by_same (join_at_tail e.0 es right k h.1) (is_same e.0 k) refl
  where
    by_same : slot_at (slots_join es right) k ≡ slot_join (slot_at es k) (slot_at right k) → (s : Bool) → is_same e.0 k ≡ s
        → cond s (slot_join (Some e.1) (slot_at right e.0)) (slot_at (slots_join es right) k) ≡ slot_join (cond s (known e.1) (slot_at es k)) (slot_at right k)
    by_same ih true same =
        ap (λ x. slot_join (Some e.1) (slot_at right x)) (same_slot e.0 k same) ∙ ap (λ x. slot_join x (slot_at right k)) (sym (known_is e.1 h.0.known))
    by_same ih false same = ih

-- ---- the join is of the form of slots
slot_codes : (es : List Entry) (k : Slot) → AreSlots es → IfSome (slot_at es k) HasRisingCodes
slot_codes [] k h = tt
slot_codes (e ∷ es) k h = by_same (slot_codes es k (slots_tail e.0 es h.1)) (is_same e.0 k)
  where
    by_known : (t : Bool) → IfSome (cond t None (Some e.1)) HasRisingCodes
    by_known true = tt
    by_known false = h.0.codes

    by_same : IfSome (slot_at es k) HasRisingCodes → (s : Bool) → IfSome (cond s (known e.1) (slot_at es k)) HasRisingCodes
    by_same ih true = by_known (is_unknown e.1)
    by_same ih false = ih

joined_above : (j : Slot) (e : Entry) (w : Option SlotValue) (es : List Entry) → slot_cmp j e.0 ≡ Less → IsKept e.1 → IfSome w HasRisingCodes → AreSlotsAbove e.0 es → AreSlotsAbove j (joined_entry e w ++ es)
joined_above j e None es less kept codes h = slots_above j e.0 es less h
joined_above j e (Some w) es less kept codes h = by_test (is_unknown (value_join e.1 w)) refl
  where
    by_test : (t : Bool) → is_unknown (value_join e.1 w) ≡ t → AreSlotsAbove j (cond t [] ((e.0, value_join e.1 w) ∷ []) ++ es)
    by_test true unknown = slots_above j e.0 es less h
    by_test false unknown = (less, record { known = unknown; codes = value_join_codes e.1 w kept.codes codes }, h)

join_slots_above : (j : Slot) (es right : List Entry) → AreSlotsAbove j es → AreSlots right → AreSlotsAbove j (slots_join es right)
join_slots_above j [] right h r = tt
join_slots_above j (e ∷ es) right h r = joined_above j e (slot_at right e.0) (slots_join es right) h.0 h.1 (slot_codes right e.0 r) (join_slots_above e.0 es right h.2 r)

pub join_slots : (es right : List Entry) → AreSlots es → AreSlots right → AreSlots (slots_join es right)
join_slots [] right h r = tt
join_slots (e ∷ es) right h r = joined (slot_at right e.0) (slot_codes right e.0 r) (join_slots_above e.0 es right h.1 r)
  where
    by_test : (w : SlotValue) → HasRisingCodes w → AreSlotsAbove e.0 (slots_join es right) → (t : Bool) → is_unknown (value_join e.1 w) ≡ t → AreSlots (cond t [] ((e.0, value_join e.1 w) ∷ []) ++ slots_join es right)
    by_test w codes above true unknown = slots_tail e.0 _ above
    by_test w codes above false unknown = (record { known = unknown; codes = value_join_codes e.1 w h.0.codes codes }, above)

    joined : (w : Option SlotValue) → IfSome w HasRisingCodes → AreSlotsAbove e.0 (slots_join es right) → AreSlots (joined_entry e w ++ slots_join es right)
    joined None codes above = slots_tail e.0 _ above
    joined (Some w) codes above = by_test w codes above (is_unknown (value_join e.1 w)) refl

-- ---- maps that are each below the other are equal
none_under : (w : Option SlotValue) (v : SlotValue) → w ≡ None → SlotUnder w (Some v) → ⊥
none_under None v e h = h
none_under (Some w) v e h = absurd cc

stands_in : (e : Entry) (es others : List Entry) → IsKept e.1 → SlotsUnder others (e ∷ es) → slot_at others e.0 ≡ None → ⊥
stands_in e es others kept under gone = none_under (slot_at others e.0) e.1 gone (subst (SlotUnder (slot_at others e.0)) (slot_first e es kept) (under e.0))

pub slots_antisymmetric : (es others : List Entry) → AreSlots es → AreSlots others → SlotsUnder es others → SlotsUnder others es → es ≡ others
slots_antisymmetric [] [] h k up down = refl
slots_antisymmetric [] (o ∷ os) h k up down = absurd (stands_in o os [] k.0 up refl)
slots_antisymmetric (e ∷ es) [] h k up down = absurd (stands_in e es [] h.0 down refl)
slots_antisymmetric (e ∷ es) (o ∷ os) h k up down =
    let same = keys (is_before e.0 o.0) refl (is_same e.0 o.0) refl in
    let value = values same in
    let others = slots_antisymmetric es os (slots_tail e.0 es h.1) (slots_tail o.0 os k.1)
    (tails e es o os same h.1 k.1 up) (tails o os e es (sym same) k.1 h.1 down) in
    λ i. (same i, value i) ∷ others i
  where
    keys : (t : Bool) → is_before e.0 o.0 ≡ t → (s : Bool) → is_same e.0 o.0 ≡ s → e.0 ≡ o.0
    keys true before s same =
        absurd (stands_in e es (o ∷ os) h.0 down (absent_above e.0 (o ∷ os) (before_less e.0 o.0 before, k.0, k.1)))
    keys false before true same = same_slot e.0 o.0 same
    keys false before false same =
        absurd (stands_in o os (e ∷ es) k.0 up (absent_above o.0 (e ∷ es) (behind_is e.0 o.0 before same, h.0, h.1)))

    values : e.0 ≡ o.0 → e.1 ≡ o.1
    values same =
        let at_left : slot_at (e ∷ es) o.0 ≡ Some e.1 = subst (λ x. slot_at (e ∷ es) x ≡ Some e.1) same (slot_first e es h.0) in
        let at_right : slot_at (o ∷ os) o.0 ≡ Some o.1 = slot_first o os k.0 in
        let one : SlotUnder (Some e.1) (Some o.1) = subst (λ x. SlotUnder x (Some o.1)) at_left (subst (SlotUnder (slot_at (e ∷ es) o.0)) at_right (up o.0)) in
        let two : SlotUnder (Some o.1) (Some e.1) = subst (λ x. SlotUnder x (Some e.1)) at_right (subst (SlotUnder (slot_at (o ∷ os) o.0)) at_left (down o.0)) in
        value_antisymmetric e.1 o.1 h.0.codes k.0.codes one two

    tails : (x : Entry) (xs : List Entry) (y : Entry) (ys : List Entry) → x.0 ≡ y.0 → AreSlotsAbove x.0 xs → AreSlotsAbove y.0 ys → SlotsUnder (x ∷ xs) (y ∷ ys) → SlotsUnder xs ys
    tails x xs y ys same above beyond under q = by_same (is_same y.0 q) refl
      where
        by_same : (s : Bool) → is_same y.0 q ≡ s → SlotUnder (slot_at xs q) (slot_at ys q)
        by_same true tied = subst (λ o. SlotUnder (slot_at xs q) o) (sym (subst (λ z. slot_at ys z ≡ None) (same_slot y.0 q tied) (absent_above y.0 ys beyond))) tt
        by_same false apart =
            let left : slot_at (x ∷ xs) q ≡ slot_at xs q = slot_later x xs q (subst (λ z. is_same z q ≡ false) (sym same) apart) in
            let right : slot_at (y ∷ ys) q ≡ slot_at ys q = slot_later y ys q apart in
            subst (SlotUnder (slot_at xs q)) right (subst (λ o. SlotUnder o (slot_at (y ∷ ys) q)) left (under q))

-- ---- one step of the walk that joins
pub walk_join_step : (es right : List Entry) (i at next : ℕ) (e : Entry) → drop i es ≡ e ∷ drop (i + 1) es → next ≡ at + leading (λ o. is_before o.0 e.0) (drop at right)
    → walk_join (drop i es) (drop at right) ≡ common e (slice_get right next) ++ walk_join (drop (i + 1) es) (drop next right)
walk_join_step es right i at next e here is =
    let there : rest e (drop at right) ≡ drop next right = drop-drop (leading (λ o. is_before o.0 e.0) (drop at right)) at right ∙ ap (λ n. drop n right) (sym is) in
    ap (λ l. walk_join l (drop at right)) here
    ∙ ap (λ l. common e (slice_get l 0) ++ walk_join (drop (i + 1) es) l) there
    ∙ ap (λ o. common e o ++ walk_join (drop (i + 1) es) (drop next right)) (first_of_drop right next)

pub common_at : (e o : Entry) (others : List Entry) (p : ℕ) → p < length others → o ≡ get_or others p o → HasKey e.0 (slice_get others p) → entry_of e.0 (value_join e.1 o.1) ≡ common e (slice_get others p)
common_at e o others p within read h =
    let at : slice_get others p ≡ Some o = slice_get_read others (length others) p o refl within read in
    let same : is_same o.0 e.0 ≡ true = subst (HasKey e.0) at h in
    sym (ap (common e) at ∙ ap (λ b. cond b (entry_of e.0 (value_join e.1 o.1)) []) same)

pub common_none : (e : Entry) (there : Option Entry) → (HasKey e.0 there → ⊥) → common e there ≡ []
common_none e None never = refl
common_none e (Some o) never = by_test (is_same o.0 e.0) never
  where
    by_test : (t : Bool) → (t ≡ true → ⊥) → cond t (entry_of e.0 (value_join e.1 o.1)) [] ≡ []
    by_test true never = absurd (never refl)
    by_test false never = refl
