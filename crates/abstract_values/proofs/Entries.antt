-- Slots as a map: look-ups, changes, walks and joins.
use Rattle.std.proofs.Common.{◌≡◌, ℕ, suc, ◌<◌, List, [], ◌∷◌, length, drop, set, refl, sym, ap, zero-add, get_or, ◌+◌, ◌∙◌, subst, Bool, true, false, cond}
use Rattle.std.specs.Prelude.{Option, Some, None, slice_get}
use Rattle.std.specs.List.{insert, remove}
use Rattle.std.proofs.lemmas.Option.{slice_get_read}
use Rattle.std.specs.declared.cmp.Ordering.TheVariants.{Less}
use Rattle.abstract_values.specs.declared.slot.Slot.{Slot}
use Rattle.abstract_values.specs.declared.slot_value.SlotValue.{SlotValue}
use Rattle.abstract_values.specs.Places.{leading}
use Rattle.abstract_values.specs.Keys.{slot_cmp, is_before, is_same}
use Rattle.abstract_values.specs.Values.{ValueUnder, known, IsKept}
use Rattle.abstract_values.specs.Entries.{Entry, slot_at, AreSlotsAbove, AreSlots, Puts, HasKey}
use Rattle.abstract_values.proofs.Keys.{same_slot, self_same, before_less, before_trans, not_same, not_same_back, behind_is}
use Rattle.abstract_values.proofs.Values.{IsKnown, known_is, known_known}

abbrev pub earlier : Entry → Entry → Bool
earlier e f = is_before e.0 f.0

abbrev pub meets : Entry → Entry → Type 0
meets e f = (is_same e.0 f.0 ≡ true) × ValueUnder e.1 f.1

pub slots_above : (j k : Slot) (es : List Entry) → slot_cmp j k ≡ Less → AreSlotsAbove k es → AreSlotsAbove j es
slots_above j k [] less h = tt
slots_above j k (e ∷ es) less h = (before_trans j k e.0 less h.0, h.1, h.2)

pub slots_tail : (k : Slot) (es : List Entry) → AreSlotsAbove k es → AreSlots es
slots_tail k [] h = tt
slots_tail k (e ∷ es) h = (h.1, h.2)

-- a key before all keys is absent
pub absent_above : (k : Slot) (es : List Entry) → AreSlotsAbove k es → slot_at es k ≡ None
absent_above k [] h = refl
absent_above k (e ∷ es) h =
    ap (λ b. cond b (known e.1) (slot_at es k)) (not_same_back k e.0 h.0) ∙ absent_above k es (slots_above k e.0 es h.0 h.2)

-- what a look-up finds is known
pub slot_at_known : (es : List Entry) (k : Slot) → IsKnown (slot_at es k)
slot_at_known [] k = tt
slot_at_known (e ∷ es) k = by_test (slot_at_known es k) (is_same e.0 k)
  where
    by_test : IsKnown (slot_at es k) → (t : Bool) → IsKnown (cond t (known e.1) (slot_at es k))
    by_test ih true = known_known e.1
    by_test ih false = ih

pub slot_here : (e : Entry) (es : List Entry) (k : Slot) → is_same e.0 k ≡ true → slot_at (e ∷ es) k ≡ known e.1
slot_here e es k same = ap (λ b. cond b (known e.1) (slot_at es k)) same

pub slot_later : (e : Entry) (es : List Entry) (k : Slot) → is_same e.0 k ≡ false → slot_at (e ∷ es) k ≡ slot_at es k
slot_later e es k apart = ap (λ b. cond b (known e.1) (slot_at es k)) apart

pub slot_first : (e : Entry) (es : List Entry) → IsKept e.1 → slot_at (e ∷ es) e.0 ≡ Some e.1
slot_first e es kept = slot_here e es e.0 (self_same e.0) ∙ known_is e.1 kept.known

-- ---- a look-up at the place where the search for a key ends
abbrev pub place : Slot → List Entry → ℕ
place key es = leading (λ e. is_before e.0 key) es

abbrev pub found : Slot → Option Entry → Option SlotValue
found key None = None
found key (Some e) = cond (is_same e.0 key) (Some e.1) None

pub slot_at_place : (es : List Entry) (key : Slot) → AreSlots es → slot_at es key ≡ found key (slice_get es (place key es))
slot_at_place [] key h = refl
slot_at_place (e ∷ es) key h = by_test (slot_at_place es key (slots_tail e.0 es h.1)) (is_before e.0 key) refl
  where
    by_test : slot_at es key ≡ found key (slice_get es (place key es)) → (t : Bool) → is_before e.0 key ≡ t → slot_at (e ∷ es) key ≡ found key (slice_get (e ∷ es) (cond t (suc (place key es)) 0))
    by_test ih true before = slot_later e es key (not_same e.0 key (before_less e.0 key before)) ∙ ih
    by_test ih false before = by_same (is_same e.0 key) refl
      where
        by_same : (s : Bool) → is_same e.0 key ≡ s → cond s (known e.1) (slot_at es key) ≡ cond s (Some e.1) None
        by_same true same = known_is e.1 h.0.known
        by_same false same = absent_above key es (slots_above key e.0 es (behind_is e.0 key before same) h.1)

-- ---- changes
abbrev pub with_entry : Slot → SlotValue → List Entry → List Entry
with_entry s v [] = (s, v) ∷ []
with_entry s v (e ∷ es) = cond (is_before e.0 s) (e ∷ with_entry s v es) (cond (is_same e.0 s) ((s, v) ∷ es) ((s, v) ∷ e ∷ es))

abbrev pub without_entry : Slot → List Entry → List Entry
without_entry s [] = []
without_entry s (e ∷ es) = cond (is_before e.0 s) (e ∷ without_entry s es) (cond (is_same e.0 s) es (e ∷ es))

pub with_entry_puts : (s : Slot) (v : SlotValue) (es : List Entry) → Puts s (known v) es (with_entry s v es)
with_entry_puts s v [] k = refl
with_entry_puts s v (e ∷ es) k = by_tests (with_entry_puts s v es k) (is_before e.0 s) refl (is_same e.0 s) refl
  where
    crossed : (x y : Bool) → (x ≡ true → y ≡ true → ⊥) → cond x (known e.1) (cond y (known v) (slot_at es k)) ≡ cond y (known v) (cond x (known e.1) (slot_at es k))
    crossed true true never = absurd (never refl refl)
    crossed true false never = refl
    crossed false y never = refl

    twice : (x : Bool) → cond x (known v) (slot_at es k) ≡ cond x (known v) (cond x (known e.1) (slot_at es k))
    twice true = refl
    twice false = refl

    by_tests : slot_at (with_entry s v es) k ≡ cond (is_same s k) (known v) (slot_at es k) → (t : Bool) → is_before e.0 s ≡ t → (u : Bool) → is_same e.0 s ≡ u
        → slot_at (cond t (e ∷ with_entry s v es) (cond u ((s, v) ∷ es) ((s, v) ∷ e ∷ es))) k ≡ cond (is_same s k) (known v) (cond (is_same e.0 k) (known e.1) (slot_at es k))
    by_tests ih true before u same =
        ap (λ x. cond (is_same e.0 k) (known e.1) x) ih
        ∙ crossed (is_same e.0 k) (is_same s k) (λ a b.
        let one = same_slot e.0 k a in
        let two = same_slot s k b in
        let equal : e.0 ≡ s = one ∙ sym two in
        let apart = not_same e.0 s (before_less e.0 s before) in
        let tied : is_same e.0 s ≡ true = subst (λ x. is_same e.0 x ≡ true) equal (self_same e.0) in absurd cc)
    by_tests ih false before true same =
        let equal = same_slot e.0 s same in
        subst (λ x. cond (is_same s k) (known v) (slot_at es k) ≡ cond (is_same s k) (known v) (cond (is_same x k) (known e.1) (slot_at es k))) (sym equal) (twice (is_same s k))
    by_tests ih false before false same = refl

pub with_entry_above : (j s : Slot) (v : SlotValue) (es : List Entry) → slot_cmp j s ≡ Less → IsKept v → AreSlotsAbove j es → AreSlotsAbove j (with_entry s v es)
with_entry_above j s v [] less kept h = (less, kept, tt)
with_entry_above j s v (e ∷ es) less kept h = by_tests (λ l. with_entry_above e.0 s v es l kept h.2) (is_before e.0 s) refl (is_same e.0 s) refl
  where
    by_tests : (slot_cmp e.0 s ≡ Less → AreSlotsAbove e.0 (with_entry s v es)) → (t : Bool) → is_before e.0 s ≡ t → (u : Bool) → is_same e.0 s ≡ u
        → AreSlotsAbove j (cond t (e ∷ with_entry s v es) (cond u ((s, v) ∷ es) ((s, v) ∷ e ∷ es)))
    by_tests ih true before u same = (h.0, h.1, ih (before_less e.0 s before))
    by_tests ih false before true same = (less, kept, subst (λ x. AreSlotsAbove x es) (same_slot e.0 s same) h.2)
    by_tests ih false before false same = (less, kept, (behind_is e.0 s before same, h.1, h.2))

pub with_entry_slots : (s : Slot) (v : SlotValue) (es : List Entry) → IsKept v → AreSlots es → AreSlots (with_entry s v es)
with_entry_slots s v [] kept h = (kept, tt)
with_entry_slots s v (e ∷ es) kept h = by_tests (λ l. with_entry_above e.0 s v es l kept h.1) (is_before e.0 s) refl (is_same e.0 s) refl
  where
    by_tests : (slot_cmp e.0 s ≡ Less → AreSlotsAbove e.0 (with_entry s v es)) → (t : Bool) → is_before e.0 s ≡ t → (u : Bool) → is_same e.0 s ≡ u
        → AreSlots (cond t (e ∷ with_entry s v es) (cond u ((s, v) ∷ es) ((s, v) ∷ e ∷ es)))
    by_tests ih true before u same = (h.0, ih (before_less e.0 s before))
    by_tests ih false before true same = (kept, subst (λ x. AreSlotsAbove x es) (same_slot e.0 s same) h.1)
    by_tests ih false before false same = (kept, (behind_is e.0 s before same, h.0, h.1))

pub without_entry_above : (j s : Slot) (es : List Entry) → AreSlotsAbove j es → AreSlotsAbove j (without_entry s es)
without_entry_above j s [] h = tt
without_entry_above j s (e ∷ es) h = by_tests (without_entry_above e.0 s es h.2) (is_before e.0 s) (is_same e.0 s)
  where
    by_tests : AreSlotsAbove e.0 (without_entry s es) → (t u : Bool) → AreSlotsAbove j (cond t (e ∷ without_entry s es) (cond u es (e ∷ es)))
    by_tests ih true u = (h.0, h.1, ih)
    by_tests ih false true = slots_above j e.0 es h.0 h.2
    by_tests ih false false = h

pub without_entry_slots : (s : Slot) (es : List Entry) → AreSlots es → AreSlots (without_entry s es)
without_entry_slots s [] h = tt
without_entry_slots s (e ∷ es) h = by_tests (is_before e.0 s) (is_same e.0 s)
  where
    by_tests : (t u : Bool) → AreSlots (cond t (e ∷ without_entry s es) (cond u es (e ∷ es)))
    by_tests true u = (h.0, without_entry_above e.0 s es h.1)
    by_tests false true = slots_tail e.0 es h.1
    by_tests false false = h

pub without_entry_puts : (s : Slot) (es : List Entry) → AreSlots es → Puts s None es (without_entry s es)
without_entry_puts s [] h k = none (is_same s k)
  where
    none : (x : Bool) → ◌≡◌ {A = Option SlotValue} None (cond x None None)
    none true = refl
    none false = refl
without_entry_puts s (e ∷ es) h k = by_tests (without_entry_puts s es (slots_tail e.0 es h.1) k) (is_before e.0 s) refl (is_same e.0 s) refl
  where
    crossed : (x y : Bool) → (x ≡ true → y ≡ true → ⊥) → cond x (known e.1) (cond y None (slot_at es k)) ≡ cond y None (cond x (known e.1) (slot_at es k))
    crossed true true never = absurd (never refl refl)
    crossed true false never = refl
    crossed false y never = refl

    gone : (x : Bool) → (x ≡ true → slot_at es k ≡ None) → slot_at es k ≡ cond x None (cond x (known e.1) (slot_at es k))
    gone true when = when refl
    gone false when = refl

    stays : (x : Bool) → (x ≡ true → slot_at (e ∷ es) k ≡ None) → slot_at (e ∷ es) k ≡ cond x None (slot_at (e ∷ es) k)
    stays true when = when refl
    stays false when = refl

    by_tests : slot_at (without_entry s es) k ≡ cond (is_same s k) None (slot_at es k) → (t : Bool) → is_before e.0 s ≡ t → (u : Bool) → is_same e.0 s ≡ u
        → slot_at (cond t (e ∷ without_entry s es) (cond u es (e ∷ es))) k ≡ cond (is_same s k) None (cond (is_same e.0 k) (known e.1) (slot_at es k))
    by_tests ih true before u same =
        ap (λ x. cond (is_same e.0 k) (known e.1) x) ih
        ∙ crossed (is_same e.0 k) (is_same s k) (λ a b.
        let one = same_slot e.0 k a in
        let two = same_slot s k b in
        let equal : e.0 ≡ s = one ∙ sym two in
        let apart = not_same e.0 s (before_less e.0 s before) in
        let tied : is_same e.0 s ≡ true = subst (λ x. is_same e.0 x ≡ true) equal (self_same e.0) in absurd cc)
    by_tests ih false before true same =
        let equal = same_slot e.0 s same in
        subst (λ x. slot_at es k ≡ cond (is_same x k) None (cond (is_same e.0 k) (known e.1) (slot_at es k))) equal
        (gone (is_same e.0 k) (λ t. subst (λ x. slot_at es x ≡ None) (same_slot e.0 k t) (absent_above e.0 es h.1)))
    by_tests ih false before false same =
        stays (is_same s k) (λ t. subst (λ x. slot_at (e ∷ es) x ≡ None) (same_slot s k t) (absent_above s (e ∷ es) (behind_is e.0 s before same, h.0, h.1)))

-- the entry at a place has the key, or not
abbrev pub Stands : Slot → List Entry → ℕ → Type 0
Stands key es at = HasKey key (slice_get es at)

pub replaced : (s : Slot) (v : SlotValue) (es : List Entry) → Stands s es (place s es) → set es (place s es) (s, v) ≡ with_entry s v es
replaced s v [] h = absurd h
replaced s v (f ∷ es) h = by_tests (replaced s v es) (is_before f.0 s) (is_same f.0 s) refl h
  where
    by_tests : (Stands s es (place s es) → set es (place s es) (s, v) ≡ with_entry s v es) → (t u : Bool) → is_same f.0 s ≡ u → Stands s (f ∷ es) (cond t (suc (place s es)) 0)
        → set (f ∷ es) (cond t (suc (place s es)) 0) (s, v) ≡ cond t (f ∷ with_entry s v es) (cond u ((s, v) ∷ es) ((s, v) ∷ f ∷ es))
    by_tests ih true u same h = ap (λ l. f ∷ l) (ih h)
    by_tests ih false true same h = refl
    by_tests ih false false same h = let tied : is_same f.0 s ≡ true = h in absurd cc

pub inserted : (s : Slot) (v : SlotValue) (es : List Entry) → (Stands s es (place s es) → ⊥) → insert es (place s es) (s, v) ≡ with_entry s v es
inserted s v [] h = refl
inserted s v (f ∷ es) h = by_tests (inserted s v es) (is_before f.0 s) (is_same f.0 s) refl h
  where
    by_tests : ((Stands s es (place s es) → ⊥) → insert es (place s es) (s, v) ≡ with_entry s v es) → (t u : Bool) → is_same f.0 s ≡ u → (Stands s (f ∷ es) (cond t (suc (place s es)) 0) → ⊥)
        → insert (f ∷ es) (cond t (suc (place s es)) 0) (s, v) ≡ cond t (f ∷ with_entry s v es) (cond u ((s, v) ∷ es) ((s, v) ∷ f ∷ es))
    by_tests ih true u same h = ap (λ l. f ∷ l) (ih h)
    by_tests ih false true same h = absurd (h same)
    by_tests ih false false same h = refl

pub removed : (s : Slot) (es : List Entry) → Stands s es (place s es) → remove es (place s es) ≡ without_entry s es
removed s [] h = absurd h
removed s (f ∷ es) h = by_tests (removed s es) (is_before f.0 s) (is_same f.0 s) refl h
  where
    by_tests : (Stands s es (place s es) → remove es (place s es) ≡ without_entry s es) → (t u : Bool) → is_same f.0 s ≡ u → Stands s (f ∷ es) (cond t (suc (place s es)) 0)
        → remove (f ∷ es) (cond t (suc (place s es)) 0) ≡ cond t (f ∷ without_entry s es) (cond u es (f ∷ es))
    by_tests ih true u same h = ap (λ l. f ∷ l) (ih h)
    by_tests ih false true same h = refl
    by_tests ih false false same h = let tied : is_same f.0 s ≡ true = h in absurd cc

pub kept_all : (s : Slot) (es : List Entry) → (Stands s es (place s es) → ⊥) → es ≡ without_entry s es
kept_all s [] h = refl
kept_all s (f ∷ es) h = by_tests (kept_all s es) (is_before f.0 s) (is_same f.0 s) refl h
  where
    by_tests : ((Stands s es (place s es) → ⊥) → es ≡ without_entry s es) → (t u : Bool) → is_same f.0 s ≡ u → (Stands s (f ∷ es) (cond t (suc (place s es)) 0) → ⊥)
        → f ∷ es ≡ cond t (f ∷ without_entry s es) (cond u es (f ∷ es))
    by_tests ih true u same h = ap (λ l. f ∷ l) (ih h)
    by_tests ih false true same h = absurd (h same)
    by_tests ih false false same h = refl

-- what a look-up answers, by whether the entry at the place has the key
pub found_there : (s : Slot) (e : Entry) (es : List Entry) → AreSlots es → slice_get es (place s es) ≡ Some e → Stands s es (place s es) → Some e.1 ≡ slot_at es s
found_there s e es h at stands =
    let same : is_same e.0 s ≡ true = subst (HasKey s) at stands in
    sym (slot_at_place es s h ∙ ap (found s) at ∙ ap (λ b. cond b (Some e.1) None) same)

pub found_nowhere : (s : Slot) (es : List Entry) → AreSlots es → (Stands s es (place s es) → ⊥) → None ≡ slot_at es s
found_nowhere s es h misses = sym (slot_at_place es s h ∙ none (slice_get es (place s es)) misses)
  where
    by_test : (e : Entry) → (t : Bool) → (t ≡ true → ⊥) → cond t (Some e.1) None ≡ None
    by_test e true never = absurd (never refl)
    by_test e false never = refl

    none : (o : Option Entry) → (HasKey s o → ⊥) → found s o ≡ None
    none None never = refl
    none (Some e) never = by_test e (is_same e.0 s) never

-- ---- as the search for a place answers
place_is : (key : Slot) (p : ℕ) (l s : List Entry) → l ≡ s → p ≡ 0 + leading (λ e. is_before e.0 key) (drop 0 l) → p ≡ place key s
place_is key p l s e is = is ∙ zero-add _ ∙ ap (place key) e

module _ (key : Slot) (p : ℕ) (l m s : List Entry) (e : l ≡ s) (f : m ≡ s) (is : p ≡ 0 + leading (λ e. is_before e.0 key) (drop 0 l)) where
  here : p ≡ place key s
  here = place_is key p l s e is

  stands_of : HasKey key (slice_get m p) → Stands key s (place key s)
  stands_of h = subst (λ n. Stands key s n) here (subst (λ x. Stands key x p) f h)

  misses_of : (HasKey key (slice_get m p) → ⊥) → Stands key s (place key s) → ⊥
  misses_of never h = never (subst (λ x. Stands key x p) (sym f) (subst (λ n. Stands key s n) (sym here) h))

  pub removed_is : HasKey key (slice_get m p) → remove s p ≡ without_entry key s
  removed_is h = ap (remove s) here ∙ removed key s (stands_of h)

  pub kept_is : (HasKey key (slice_get m p) → ⊥) → s ≡ without_entry key s
  kept_is never = kept_all key s (misses_of never)

  pub replaced_is : (v : SlotValue) → HasKey key (slice_get m p) → set s p (key, v) ≡ with_entry key v s
  replaced_is v h = ap (λ n. set s n (key, v)) here ∙ replaced key v s (stands_of h)

  pub inserted_is : (v : SlotValue) → (HasKey key (slice_get m p) → ⊥) → insert s p (key, v) ≡ with_entry key v s
  inserted_is v never = ap (λ n. insert s n (key, v)) here ∙ inserted key v s (misses_of never)

  pub found_is : (x : Entry) → AreSlots s → p < length s → x ≡ get_or s p x → HasKey key (slice_get m p) → Some x.1 ≡ slot_at s key
  found_is x are within read h =
      let at : slice_get s p ≡ Some x = slice_get_read s (length s) p x refl within read in
      found_there key x s are (ap (slice_get s) (sym here) ∙ at) (stands_of h)

  pub nowhere_is : AreSlots s → (HasKey key (slice_get m p) → ⊥) → None ≡ slot_at s key
  nowhere_is are never = found_nowhere key s are (misses_of never)
