-- The keys of slots, and their order: the variables by their numbers, then the nodes by theirs.
use Rattle.std.specs.Prelude.{ℕ, Bool}
use Rattle.std.specs.Ordering.{nat_cmp, ordering_then, is_eq, is_lt}
use Rattle.std.specs.declared.cmp.Ordering.{Ordering}
use Rattle.abstract_values.specs.declared.slot.Slot.{Slot}
use Rattle.abstract_values.specs.declared.slot.Slot.TheVariants.{Var, Node}

abbrev pub kind_of : Slot → ℕ
kind_of (Var variable) = 0
kind_of (Node node) = 1

abbrev pub number_of : Slot → ℕ
number_of (Var variable) = variable.0
number_of (Node node) = node.0

abbrev pub slot_cmp : Slot → Slot → Ordering
slot_cmp a b = ordering_then (nat_cmp (kind_of a) (kind_of b)) (nat_cmp (number_of a) (number_of b))

abbrev pub is_before : Slot → Slot → Bool
is_before a b = is_lt (slot_cmp a b)

abbrev pub is_same : Slot → Slot → Bool
is_same a b = is_eq (slot_cmp a b)
