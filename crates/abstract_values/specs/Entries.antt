-- Slots as a map: the entries in the order of their keys, and the value at each key.
use Rattle.std.specs.Prelude.{◌≡◌, List, [], ◌∷◌, ◌++◌, cond, Option, Some, None, IsTrue, IfSome, IsSomeAnd}
use Rattle.std.specs.declared.cmp.Ordering.TheVariants.{Less}
use Rattle.abstract_values.specs.declared.slot.Slot.{Slot}
use Rattle.abstract_values.specs.declared.slot_value.SlotValue.{SlotValue}
use Rattle.abstract_values.specs.Keys.{slot_cmp, is_same}
use Rattle.abstract_values.specs.Values.{ValueUnder, value_join, is_unknown, known, IsFormed, IsKept}

abbrev pub Entry : Type 0
Entry = Slot × SlotValue

-- what is known at a key
abbrev pub slot_at : List Entry → Slot → Option SlotValue
slot_at [] key = None
slot_at (e ∷ entries) key = cond (is_same e.0 key) (known e.1) (slot_at entries key)

-- the keys strictly rise behind the given one, and each value is kept
abbrev pub AreSlotsAbove : Slot → List Entry → Type 0
AreSlotsAbove key [] = Unit {0}
AreSlotsAbove key (e ∷ entries) = (slot_cmp key e.0 ≡ Less) × IsKept e.1 × AreSlotsAbove e.0 entries

-- what every value of the type `Slots` is: the keys strictly rise, and no value is wholly unknown
abbrev pub AreSlots : List Entry → Type 0
AreSlots [] = Unit {0}
AreSlots (e ∷ entries) = IsKept e.1 × AreSlotsAbove e.0 entries

-- the new entries have this at the key, and at each other key what the old ones have
abbrev pub Puts : Slot → Option SlotValue → List Entry → List Entry → Type 0
Puts key value old new = (k : Slot) → slot_at new k ≡ cond (is_same key k) value (slot_at old k)

-- each value that is known stands for something
abbrev pub AreFormed : List Entry → Type 0
AreFormed entries = (key : Slot) → IfSome (slot_at entries key) IsFormed

-- a key that is absent may be anything
abbrev pub SlotUnder : Option SlotValue → Option SlotValue → Type 0
SlotUnder a None = Unit {0}
SlotUnder (Some v) (Some w) = ValueUnder v w
SlotUnder None (Some w) = ⊥

-- each slot of the upper entries stands in the lower ones with a value below
abbrev pub SlotsUnder : List Entry → List Entry → Type 0
SlotsUnder lower upper = (key : Slot) → SlotUnder (slot_at lower key) (slot_at upper key)

-- the entry that stands there has the key
abbrev pub HasKey : Slot → Option Entry → Type 0
HasKey key there = IsSomeAnd there (λ e. IsTrue (is_same e.0 key))

-- the entry that stands there has the key of another, and a value below
abbrev pub IsMet : Entry → Option Entry → Type 0
IsMet entry there = IsSomeAnd there (λ e. IsTrue (is_same e.0 entry.0) × ValueUnder e.1 entry.1)

abbrev pub entry_of : Slot → SlotValue → List Entry
entry_of key v = cond (is_unknown v) [] ((key, v) ∷ [])

-- what an entry has in common with the one that stands there
abbrev pub common : Entry → Option Entry → List Entry
common e None = []
common e (Some other) = cond (is_same other.0 e.0) (entry_of e.0 (value_join e.1 other.1)) []

abbrev pub joined_entry : Entry → Option SlotValue → List Entry
joined_entry e None = []
joined_entry e (Some w) = entry_of e.0 (value_join e.1 w)

-- each slot of both, with the join of its values where that is known
abbrev pub slots_join : List Entry → List Entry → List Entry
slots_join [] other = []
slots_join (e ∷ entries) other = joined_entry e (slot_at other e.0) ++ slots_join entries other
