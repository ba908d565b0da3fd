-- The order of values of slots is one, and the join of two slots is the least slot above both.
use Rattle.std.proofs.Common.{◌≡◌, refl, ap, Bool, true, false, cond, ◌&&◌}
use Rattle.std.specs.Prelude.{Option, Some, None, IfSome}
use Rattle.std.proofs.lemmas.Bool.{and_parts, and_from}
use Rattle.abstract_values.specs.declared.slot_value.SlotValue.{SlotValue}
use Rattle.abstract_values.specs.declared.slot_value.SlotValue.TheVariants.{Number, Signals, Functions, Action}
use Rattle.abstract_values.specs.Numbers.{is_any_int}
use Rattle.abstract_values.specs.Sets.{is_any_set}
use Rattle.abstract_values.specs.Functions.{is_any_fns}
use Rattle.abstract_values.specs.Values.{ValueUnder, value_join, is_unknown, known, IsFormed, HasRisingCodes}
use Rattle.abstract_values.specs.Entries.{SlotUnder}
use Rattle.abstract_values.proofs.Numbers.{int_refl, int_trans, int_antisymmetric, int_join_left, int_join_right, int_join_least, int_any_up}
use Rattle.abstract_values.proofs.Sets.{set_refl, set_trans, set_antisymmetric, set_join_left, set_join_right, set_join_least, set_any_up, set_join_some}
use Rattle.abstract_values.proofs.FunctionOrder.{fns_refl, fns_trans, fns_antisymmetric, fns_join_left, fns_join_right, fns_join_least, fns_any_up, fns_join_some, fns_join_codes}

pub value_refl : (v : SlotValue) → ValueUnder v v
value_refl (Number a) = int_refl a
value_refl (Signals s) = set_refl s
value_refl (Functions f) = fns_refl f
value_refl (Action f s a) = (fns_refl f, set_refl s, int_refl a)

pub value_trans : (u v w : SlotValue) → ValueUnder u v → ValueUnder v w → ValueUnder u w
value_trans (Number a) (Number b) (Number c) h k = int_trans a b c h k
value_trans (Number a) (Number b) _ h k = absurd k
value_trans (Signals a) (Signals b) (Signals c) h k = set_trans a b c h k
value_trans (Signals a) (Signals b) _ h k = absurd k
value_trans (Functions a) (Functions b) (Functions c) h k = fns_trans a b c h k
value_trans (Functions a) (Functions b) _ h k = absurd k
value_trans (Action f s a) (Action g t b) (Action h' u c) h k = (fns_trans f g h' h.0 k.0, set_trans s t u h.1 k.1, int_trans a b c h.2 k.2)
value_trans (Action f s a) (Action g t b) _ h k = absurd k
value_trans _ _ _ h k = absurd h

pub value_antisymmetric : (v w : SlotValue) → HasRisingCodes v → HasRisingCodes w → ValueUnder v w → ValueUnder w v → v ≡ w
value_antisymmetric (Number a) (Number b) p q h k = ap Number (int_antisymmetric a b h k)
value_antisymmetric (Signals s) (Signals t) p q h k = ap Signals (set_antisymmetric s t h k)
value_antisymmetric (Functions f) (Functions g) p q h k = ap Functions (fns_antisymmetric f g p q h k)
value_antisymmetric (Action f s a) (Action g t b) p q h k =
    let one = fns_antisymmetric f g p q h.0 k.0 in
    let two = set_antisymmetric s t h.1 k.1 in
    let three = int_antisymmetric a b h.2 k.2 in
    λ i. Action (one i) (two i) (three i)
value_antisymmetric _ _ p q h k = absurd h

value_join_least : (v w u : SlotValue) → ValueUnder v u → ValueUnder w u → ValueUnder (value_join v w) u
value_join_least (Number a) (Number b) (Number c) h k = int_join_least a b c h k
value_join_least (Number a) _ (Number c) h k = absurd k
value_join_least (Signals a) (Signals b) (Signals c) h k = set_join_least a b c h k
value_join_least (Signals a) _ (Signals c) h k = absurd k
value_join_least (Functions a) (Functions b) (Functions c) h k = fns_join_least a b c h k
value_join_least (Functions a) _ (Functions c) h k = absurd k
value_join_least (Action f s a) (Action g t b) (Action h' u c) h k = (fns_join_least f g h' h.0 k.0, set_join_least s t u h.1 k.1, int_join_least a b c h.2 k.2)
value_join_least (Action f s a) _ (Action h' u c) h k = absurd k
value_join_least _ _ _ h k = absurd h

value_any_up : (v w : SlotValue) → ValueUnder v w → is_unknown v ≡ true → is_unknown w ≡ true
value_any_up (Number a) (Number b) h e = int_any_up a b h e
value_any_up (Signals s) (Signals t) h e = set_any_up s t h e
value_any_up (Functions f) (Functions g) h e = fns_any_up f g h e
value_any_up (Action f s a) (Action g t b) h e =
    let last = and_parts (is_any_fns f && is_any_set s) (is_any_int a) e in
    let two = and_parts (is_any_fns f) (is_any_set s) last.0 in
    and_from _ _ (and_from _ _ (fns_any_up f g h.0 two.0) (set_any_up s t h.1 two.1)) (int_any_up a b h.2 last.1)
value_any_up _ _ h e = absurd h

-- ---- slots that may be absent
abbrev pub slot_join : Option SlotValue → Option SlotValue → Option SlotValue
slot_join (Some v) (Some w) = known (value_join v w)
slot_join _ _ = None

-- something is known of what stands there
abbrev pub IsKnown : Option SlotValue → Type 0
IsKnown o = IfSome o (λ v. is_unknown v ≡ false)

pub known_is : (v : SlotValue) → is_unknown v ≡ false → known v ≡ Some v
known_is v e = ap (λ b. cond b None (Some v)) e

pub known_known : (v : SlotValue) → IsKnown (known v)
known_known v = by_test (is_unknown v) refl
  where
    by_test : (t : Bool) → is_unknown v ≡ t → IsKnown (cond t None (Some v))
    by_test true e = tt
    by_test false e = e

pub slot_refl : (x : Option SlotValue) → SlotUnder x x
slot_refl None = tt
slot_refl (Some v) = value_refl v

pub slot_trans : (x y z : Option SlotValue) → SlotUnder x y → SlotUnder y z → SlotUnder x z
slot_trans x y None h k = tt
slot_trans x None (Some w) h k = absurd k
slot_trans None (Some v) (Some w) h k = absurd h
slot_trans (Some u) (Some v) (Some w) h k = value_trans u v w h k

known_up : (v w : SlotValue) → ValueUnder v w → SlotUnder (Some v) (known w)
known_up v w h = by_test (is_unknown w)
  where
    by_test : (t : Bool) → SlotUnder (Some v) (cond t None (Some w))
    by_test true = tt
    by_test false = h

known_down : (v w : SlotValue) → ValueUnder v w → is_unknown w ≡ false → SlotUnder (known v) (Some w)
known_down v w h e = by_test (is_unknown v) refl
  where
    by_test : (t : Bool) → is_unknown v ≡ t → SlotUnder (cond t None (Some v)) (Some w)
    by_test true is = let up = value_any_up v w h is in absurd cc
    by_test false is = h

pub slot_join_left : (x y : Option SlotValue) → SlotUnder x (slot_join x y)
slot_join_left None y = tt
slot_join_left (Some v) None = tt
slot_join_left (Some (Number a)) (Some (Number b)) = known_up (Number a) (value_join (Number a) (Number b)) (int_join_left a b)
slot_join_left (Some (Signals s)) (Some (Signals t)) = known_up (Signals s) (value_join (Signals s) (Signals t)) (set_join_left s t)
slot_join_left (Some (Functions f)) (Some (Functions g)) = known_up (Functions f) (value_join (Functions f) (Functions g)) (fns_join_left f g)
slot_join_left (Some (Action f s a)) (Some (Action g t b)) = known_up (Action f s a) (value_join (Action f s a) (Action g t b)) (fns_join_left f g, set_join_left s t, int_join_left a b)
slot_join_left (Some _) (Some _) = tt

pub slot_join_right : (x y : Option SlotValue) → SlotUnder y (slot_join x y)
slot_join_right None y = tt
slot_join_right (Some v) None = tt
slot_join_right (Some (Number a)) (Some (Number b)) = known_up (Number b) (value_join (Number a) (Number b)) (int_join_right a b)
slot_join_right (Some (Signals s)) (Some (Signals t)) = known_up (Signals t) (value_join (Signals s) (Signals t)) (set_join_right s t)
slot_join_right (Some (Functions f)) (Some (Functions g)) = known_up (Functions g) (value_join (Functions f) (Functions g)) (fns_join_right f g)
slot_join_right (Some (Action f s a)) (Some (Action g t b)) = known_up (Action g t b) (value_join (Action f s a) (Action g t b)) (fns_join_right f g, set_join_right s t, int_join_right a b)
slot_join_right (Some _) (Some _) = tt

pub slot_join_least : (x y z : Option SlotValue) → IsKnown z → SlotUnder x z → SlotUnder y z → SlotUnder (slot_join x y) z
slot_join_least x y None i h k = tt
slot_join_least None y (Some w) i h k = absurd h
slot_join_least (Some u) None (Some w) i h k = absurd k
slot_join_least (Some u) (Some v) (Some w) i h k = known_down (value_join u v) w (value_join_least u v w h k) i

-- ---- bounds
value_join_formed : (v w : SlotValue) → IsFormed v → IsFormed w → IsFormed (value_join v w)
value_join_formed (Number a) (Number b) h k = tt
value_join_formed (Signals s) (Signals t) h k = set_join_some s t h
value_join_formed (Functions f) (Functions g) h k = fns_join_some f g h
value_join_formed (Action f s a) (Action g t b) h k = (fns_join_some f g h.0, set_join_some s t h.1)
value_join_formed _ _ h k = tt

pub slot_join_formed : (x y : Option SlotValue) → IfSome x IsFormed → IfSome y IsFormed → IfSome (slot_join x y) IsFormed
slot_join_formed None y h k = tt
slot_join_formed (Some v) None h k = tt
slot_join_formed (Some v) (Some w) h k = by_test (is_unknown (value_join v w)) (value_join_formed v w h k)
  where
    by_test : (t : Bool) → IsFormed (value_join v w) → IfSome (cond t None (Some (value_join v w))) IsFormed
    by_test true f = tt
    by_test false f = f

pub value_join_codes : (v w : SlotValue) → HasRisingCodes v → HasRisingCodes w → HasRisingCodes (value_join v w)
value_join_codes (Number a) (Number b) h k = tt
value_join_codes (Signals s) (Signals t) h k = tt
value_join_codes (Functions f) (Functions g) h k = fns_join_codes f g h k
value_join_codes (Action f s a) (Action g t b) h k = fns_join_codes f g h k
value_join_codes _ _ h k = tt
