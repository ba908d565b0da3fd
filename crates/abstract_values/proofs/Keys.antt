-- The order of keys is total, and only equal keys tie.
use Rattle.std.proofs.Common.{◌≡◌, refl, ap, ◌∙◌, true, false}
use Rattle.std.specs.Ordering.{nat_cmp, ordering_reverse, is_eq, is_lt}
use Rattle.std.specs.Cmp.{IsTotalOrder, nat_cmp_total}
use Rattle.std.specs.FinSet.{nat_cmp-IsAntisymmetric}
use Rattle.std.specs.declared.cmp.Ordering.{Ordering}
use Rattle.std.specs.declared.cmp.Ordering.TheVariants.{Less, Equal, Greater}
use Rattle.std.proofs.lemmas.Cmp.{on_total, then_total, tied_itself}
use Rattle.abstract_values.specs.declared.slot.Slot.{Slot}
use Rattle.abstract_values.specs.declared.slot.Slot.TheVariants.{Var, Node}
use Rattle.abstract_values.specs.Keys.{kind_of, number_of, slot_cmp, is_before, is_same}

pub slot_total : IsTotalOrder slot_cmp
slot_total = then_total (on_total kind_of nat_cmp_total) (on_total number_of nat_cmp_total)

pub is_less : (o : Ordering) → is_lt o ≡ true → o ≡ Less
is_less Less e = refl
is_less Equal e = absurd cc
is_less Greater e = absurd cc

pub is_equal : (o : Ordering) → is_eq o ≡ true → o ≡ Equal
is_equal Less e = absurd cc
is_equal Equal e = refl
is_equal Greater e = absurd cc

is_greater : (o : Ordering) → is_lt o ≡ false → is_eq o ≡ false → o ≡ Greater
is_greater Less e f = absurd cc
is_greater Equal e f = absurd cc
is_greater Greater e f = refl

pub same_slot : (a b : Slot) → is_same a b ≡ true → a ≡ b
same_slot (Var a) (Var b) e =
    let n : a.0 ≡ b.0 = nat_cmp-IsAntisymmetric a.0 b.0 (is_equal (nat_cmp a.0 b.0) e) in λ i. Var (record { 0 = n i })
same_slot (Var a) (Node b) e = absurd cc
same_slot (Node a) (Var b) e = absurd cc
same_slot (Node a) (Node b) e =
    let n : a.0 ≡ b.0 = nat_cmp-IsAntisymmetric a.0 b.0 (is_equal (nat_cmp a.0 b.0) e) in λ i. Node (record { 0 = n i })

pub self_same : (a : Slot) → is_same a a ≡ true
self_same a = ap is_eq (tied_itself slot_total a)

pub before_less : (a b : Slot) → is_before a b ≡ true → slot_cmp a b ≡ Less
before_less a b e = is_less (slot_cmp a b) e

pub before_trans : (a b c : Slot) → slot_cmp a b ≡ Less → slot_cmp b c ≡ Less → slot_cmp a c ≡ Less
before_trans a b c h k = slot_total.trans a b c h k

pub not_same : (a b : Slot) → slot_cmp a b ≡ Less → is_same a b ≡ false
not_same a b e = ap is_eq e

pub not_same_back : (a b : Slot) → slot_cmp a b ≡ Less → is_same b a ≡ false
not_same_back a b e = ap is_eq (slot_total.antisymm b a ∙ ap ordering_reverse e)

-- neither before nor the same: behind
pub behind_is : (a b : Slot) → is_before a b ≡ false → is_same a b ≡ false → slot_cmp b a ≡ Less
behind_is a b e f = slot_total.antisymm b a ∙ ap ordering_reverse (is_greater (slot_cmp a b) e f)
