-- The order of the values of slots. Values of two forms aren't ordered.
use Rattle.std.specs.Prelude.{Bool, false, cond, ◌&&◌, ◌≡◌, Option, Some, None}
use Rattle.abstract_values.specs.declared.number.AbsInt.TheVariants as int
use Rattle.abstract_values.specs.declared.slot_value.SlotValue.{SlotValue}
use Rattle.abstract_values.specs.declared.slot_value.SlotValue.TheVariants.{Number, Signals, Functions, Action}
use Rattle.abstract_values.specs.Numbers.{IntUnder, int_join, is_any_int}
use Rattle.abstract_values.specs.Sets.{SetUnder, set_join, is_any_set, IsSomeSet}
use Rattle.abstract_values.specs.Functions.{FnsUnder, fns_join, is_any_fns, IsSomeFn, HasCodes}

-- whatever the lower one stands for, the upper one stands for
abbrev pub ValueUnder : SlotValue → SlotValue → Type 0
ValueUnder (Number a) (Number b) = IntUnder a b
ValueUnder (Signals s) (Signals t) = SetUnder s t
ValueUnder (Functions f) (Functions g) = FnsUnder f g
ValueUnder (Action f s a) (Action g t b) = FnsUnder f g × SetUnder s t × IntUnder a b
ValueUnder _ _ = ⊥

-- the least value above both; above two forms nothing is known
abbrev pub value_join : SlotValue → SlotValue → SlotValue
value_join (Number a) (Number b) = Number (int_join a b)
value_join (Signals s) (Signals t) = Signals (set_join s t)
value_join (Functions f) (Functions g) = Functions (fns_join f g)
value_join (Action f s a) (Action g t b) = Action (fns_join f g) (set_join s t) (int_join a b)
value_join _ _ = Number int.Any

-- nothing is known of it
abbrev pub is_unknown : SlotValue → Bool
is_unknown (Number a) = is_any_int a
is_unknown (Signals s) = is_any_set s
is_unknown (Functions f) = is_any_fns f
is_unknown (Action f s a) = is_any_fns f && is_any_set s && is_any_int a

-- the value, or none where nothing is known of it
abbrev pub known : SlotValue → Option SlotValue
known v = cond (is_unknown v) None (Some v)

-- its sets and its functions stand for something
abbrev pub IsFormed : SlotValue → Type 0
IsFormed (Number a) = Unit {0}
IsFormed (Signals s) = IsSomeSet s
IsFormed (Functions f) = IsSomeFn f
IsFormed (Action f s a) = IsSomeFn f × IsSomeSet s

-- its functions are lists of codes that rise
abbrev pub HasRisingCodes : SlotValue → Type 0
HasRisingCodes (Number a) = Unit {0}
HasRisingCodes (Signals s) = Unit {0}
HasRisingCodes (Functions f) = HasCodes f
HasRisingCodes (Action f s a) = HasCodes f

-- what slots keep: something is known of it
pub record IsKept (v : SlotValue) : Type 0 where
  pub known : is_unknown v ≡ false
  pub codes : HasRisingCodes v
