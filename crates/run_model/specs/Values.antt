-- Values.
use Rattle.std.specs.Prelude.{◌≡◌, ℕ, ℤ, pos, negsuc, List, [], Bool, true, false, cond, nat_eq}
use Rattle.c_arithmetic.specs.Types.{int, long}
use Rattle.run_model.specs.Signals.{Mask}
use Rattle.run_model.specs.Kinds.{Kind, Void, Number, Pointer, FnPointer, SetKind, ActionKind, ArrayKind, PartsKind, InRange, Part}

-- what a scalar object holds: an integer, a pointer to an object, a function. A null pointer is 0, SIG_DFL 0, SIG_IGN 1, SIG_ERR -1
pub data Word : Type 0 where
  Int : (i : ℤ) → Word
  Ptr : (o : ℕ) → Word
  Fn : (f : ℕ) → Word

-- what is stored in an object with parts
pub data Item : Type 0 where
  AWord : (w : Word) → Item
  ASet : (m : Mask) → Item

-- the value of an expression. That of a place that isn't read is the object that it designates, or errno
pub data Value : Type 0 where
  Scalar : (w : Word) → Value
  Signals : (m : Mask) → Value
  -- a struct sigaction
  Action : (handler : Word) (mask : Mask) (flags : ℤ) → Value
  -- another structure
  Items : (items : List Item) → Value
  At : (o : ℕ) (part : Part) → Value
  AtErrno : Value
  -- of a node that isn't pending, and of an expression of type void
  NoValue : Value

-- not a place that isn't read
abbrev pub is_value : Value → Bool
is_value (At o part) = false
is_value AtErrno = false
is_value _ = true

-- the values of nodes
abbrev pub Values : Type 0
Values = ℕ → Value

abbrev pub update : {A : Type 0} → (ℕ → A) → ℕ → A → ℕ → A
update f k v = λ j. cond (nat_eq j k) v (f j)

abbrev pub same_int : ℤ → ℤ → Bool
same_int (pos m) (pos n) = nat_eq m n
same_int (negsuc m) (negsuc n) = nat_eq m n
same_int _ _ = false

-- 1 for true and 0 for false (C11 6.5.8p6)
abbrev pub truth : Bool → Value
truth b = Scalar (Int (cond b (pos 1) (pos 0)))

abbrev pub is_zero : Value → Bool
is_zero (Scalar (Int i)) = same_int i (pos 0)
is_zero _ = false

abbrev pub zero_word : Word
zero_word = Int (pos 0)

-- any value of the kind, without what objects hold: an integer, a set of signals. In place of a pointer or a function stands an integer
abbrev pub AnyOf : Kind → Value → Type 0
AnyOf Void v = v ≡ NoValue
AnyOf (Number t) v = (i : ℤ) × InRange t i × (v ≡ Scalar (Int i))
AnyOf Pointer v = (i : ℤ) × InRange long i × (v ≡ Scalar (Int i))
AnyOf FnPointer v = (i : ℤ) × InRange long i × (v ≡ Scalar (Int i))
AnyOf ArrayKind v = (i : ℤ) × InRange long i × (v ≡ Scalar (Int i))
AnyOf SetKind v = (m : Mask) × (v ≡ Signals m)
AnyOf ActionKind v = (i : ℤ) × (m : Mask) × (g : ℤ) × InRange long i × InRange int g × (v ≡ Action (Int i) m g)
AnyOf PartsKind v = v ≡ Items []
