-- Objects, and how a place of one is read and written (C11 6.3.2.1, 6.5p6, p7).
use Rattle.std.specs.Prelude.{◌≡◌, ◌⊎◌, ℕ, ℤ, List, [], ◌∷◌, ◌++◌, Option, Bool, true, Contains}
use Rattle.c_arithmetic.specs.declared.types.IntType.{IntType}
use Rattle.c_arithmetic.specs.Types.{int, long}
use Rattle.run_model.specs.Signals.{Mask}
use Rattle.run_model.specs.Kinds.{Kind, Void, Number, FnPointer, SetKind, ActionKind, ArrayKind, PartsKind, InRange, is_word, Part, Whole, HandlerPart, MaskPart, FlagsPart}
use Rattle.run_model.specs.Values.{Word, Int, Ptr, Fn, Item, AWord, ASet, Value, Scalar, Signals, Action, Items, NoValue, AnyOf}
use Rattle.run_model.specs.Conversions.{wrapped}
use Rattle.run_model.specs.Code.{Origin}

-- a scalar holds one value, a sigset_t a set, a struct sigaction its three parts, and any other object the list of the values stored into it
pub data Content : Type 0 where
  OfWord : (w : Word) → Content
  OfSet : (m : Mask) → Content
  OfAction : (handler : Word) (mask : Mask) (flags : ℤ) → Content
  OfItems : (items : List Item) → Content

pub record Object : Type 0 where
  pub origin : Origin
  -- made while its thread ran a handler
  pub inside : Bool
  -- an automatic one whose frame has left (C11 6.2.4p2)
  pub gone : Bool
  pub kind : Kind
  pub content : Content

abbrev pub Objects : Type 0
Objects = ℕ → Option Object

-- a word as a value of a kind: an integer is brought into an integer type
abbrev pub read_as : Kind → Word → Value
read_as (Number t) w = wrapped t (Scalar w)
read_as _ w = Scalar w

-- a read of a place of an object through a kind
pub data Reads : Content → Part → Kind → Value → Type 0 where
  word : {w : Word} {part : Part} {k : Kind} → is_word k ≡ true → Reads (OfWord w) part k (read_as k w)
  set : {m : Mask} {part : Part} → Reads (OfSet m) part SetKind (Signals m)
  handler : {h : Word} {m : Mask} {g : ℤ} → Reads (OfAction h m g) HandlerPart FnPointer (Scalar h)
  mask : {h : Word} {m : Mask} {g : ℤ} → Reads (OfAction h m g) MaskPart SetKind (Signals m)
  flags : {h : Word} {m : Mask} {g : ℤ} {t : IntType} → Reads (OfAction h m g) FlagsPart (Number t) (wrapped t (Scalar (Int g)))
  action : {h : Word} {m : Mask} {g : ℤ} → Reads (OfAction h m g) Whole ActionKind (Action h m g)
  -- through an integer type any integer
  set_bytes : {m : Mask} {part : Part} {t : IntType} {v : Value} → AnyOf (Number t) v → Reads (OfSet m) part (Number t) v
  action_bytes : {h : Word} {m : Mask} {g : ℤ} {t : IntType} {v : Value} → AnyOf (Number t) v → Reads (OfAction h m g) Whole (Number t) v
  -- of a list one of its items, or any integer or set
  item : {xs : List Item} {part : Part} {k : Kind} {w : Word} → is_word k ≡ true → Contains xs (AWord w) → Reads (OfItems xs) part k (read_as k w)
  item_any : {xs : List Item} {part : Part} {k : Kind} {v : Value} → is_word k ≡ true → AnyOf k v → Reads (OfItems xs) part k v
  item_set : {xs : List Item} {part : Part} {m : Mask} → Contains xs (ASet m) → Reads (OfItems xs) part SetKind (Signals m)
  item_any_set : {xs : List Item} {part : Part} {m : Mask} → Reads (OfItems xs) part SetKind (Signals m)
  item_action : {xs : List Item} {part : Part} {h : Word} {m : Mask} {g : ℤ} → Contains xs (AWord h) ⊎ ((i : ℤ) × InRange long i × (h ≡ Int i)) → InRange int g → Reads (OfItems xs) part ActionKind (Action h m g)
  items : {xs : List Item} {part : Part} → Reads (OfItems xs) part PartsKind (Items xs)
  -- `p[0]` of a pointer to void reads no value
  void : {x : Content} {part : Part} → Reads x part Void NoValue

-- what a value adds to a list
abbrev pub items_of : Value → List Item
items_of (Scalar w) = AWord w ∷ []
items_of (Signals m) = ASet m ∷ []
items_of (Action h m g) = AWord h ∷ AWord (Int g) ∷ ASet m ∷ []
items_of (Items xs) = xs
items_of _ = []

-- a write of a value through a kind
pub data Stores : Content → Part → Kind → Value → Content → Type 0 where
  word : {w w' : Word} {part : Part} {k : Kind} → is_word k ≡ true → Stores (OfWord w) part k (Scalar w') (OfWord w')
  set : {m m' : Mask} {part : Part} → Stores (OfSet m) part SetKind (Signals m') (OfSet m')
  handler : {h h' : Word} {m : Mask} {g : ℤ} → Stores (OfAction h m g) HandlerPart FnPointer (Scalar h') (OfAction h' m g)
  mask : {h : Word} {m m' : Mask} {g : ℤ} → Stores (OfAction h m g) MaskPart SetKind (Signals m') (OfAction h m' g)
  flags : {h : Word} {m : Mask} {g g' : ℤ} {t : IntType} → Stores (OfAction h m g) FlagsPart (Number t) (Scalar (Int g')) (OfAction h m g')
  -- of a pointer or a function in an int any integer
  flags_pointer : {h : Word} {m : Mask} {g g' : ℤ} {t : IntType} {o : ℕ} → InRange int g' → Stores (OfAction h m g) FlagsPart (Number t) (Scalar (Ptr o)) (OfAction h m g')
  flags_function : {h : Word} {m : Mask} {g g' : ℤ} {t : IntType} {f : ℕ} → InRange int g' → Stores (OfAction h m g) FlagsPart (Number t) (Scalar (Fn f)) (OfAction h m g')
  action : {h h' : Word} {m m' : Mask} {g g' : ℤ} → Stores (OfAction h m g) Whole ActionKind (Action h' m' g') (OfAction h' m' g')
  -- through an integer type: any set, any action that holds no function
  set_bytes : {m m' : Mask} {part : Part} {t : IntType} {v : Value} → Stores (OfSet m) part (Number t) v (OfSet m')
  action_bytes : {h : Word} {m m' : Mask} {g g' i : ℤ} {t : IntType} {v : Value} → InRange long i → InRange int g' → Stores (OfAction h m g) Whole (Number t) v (OfAction (Int i) m' g')
  -- a list keeps what was stored before
  items : {xs : List Item} {part : Part} {k : Kind} {v : Value} → Stores (OfItems xs) part k v (OfItems (items_of v ++ xs))

-- what a fresh automatic object of the kind may hold: its value is indeterminate (C11 6.7.9p10)
pub data Fresh : Kind → Content → Type 0 where
  word : {k : Kind} {w : Word} → is_word k ≡ true → AnyOf k (Scalar w) → Fresh k (OfWord w)
  set : {m : Mask} → Fresh SetKind (OfSet m)
  action : {m : Mask} {g i : ℤ} → InRange long i → InRange int g → Fresh ActionKind (OfAction (Int i) m g)
  array : Fresh ArrayKind (OfItems [])
  parts : Fresh PartsKind (OfItems [])
