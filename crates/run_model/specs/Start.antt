-- The worlds that runs start from (C11 5.1.2, 6.7.9p4, p10; POSIX.1-2017 XSH 2.4.3).
use Rattle.std.specs.Prelude.{◌≡◌, ℕ, ℤ, pos, List, [], ◌∷◌, Option, Some, None, true, false, slice_get}
use Rattle.c_arithmetic.specs.Types.{int}
use Rattle.run_model.specs.Signals.{Mask}
use Rattle.run_model.specs.Kinds.{Kind, SetKind, ActionKind, ArrayKind, PartsKind, InRange, is_word}
use Rattle.run_model.specs.Values.{Word, Int, Ptr, Fn, Item, AWord, Value, Scalar, AnyOf, zero_word}
use Rattle.run_model.specs.Objects.{Content, OfWord, OfSet, OfAction, OfItems, Object, Objects}
use Rattle.run_model.specs.Code.{Code, Origin, OfArguments, StaticValue, ConstantInt, ConstantAny, ConstantAddress, ConstantFunction, Initial, ZeroInitial, InitialWord, InitialAction, InitialItems, Static, static, function}
use Rattle.run_model.specs.World.{Base, default, Process, World}
use Rattle.run_model.specs.Frames.{FrameObjects, give_all, begin}

-- the word of a constant initialiser
pub data IsConstant (code : Code) : StaticValue → Word → Type 0 where
  integer : {i : ℤ} → IsConstant code (ConstantInt i) (Int i)
  any : {k : Kind} {w : Word} → AnyOf k (Scalar w) → IsConstant code (ConstantAny k) w
  address : {origin : Origin} {o : ℕ} → static code origin ≡ Some o → IsConstant code (ConstantAddress origin) (Ptr o)
  function_name : {f : ℕ} → IsConstant code (ConstantFunction f) (Fn f)

pub data AreConstants (code : Code) : List StaticValue → List Item → Type 0 where
  none : AreConstants code [] []
  one : {c : StaticValue} {cs : List StaticValue} {w : Word} {xs : List Item} → IsConstant code c w → AreConstants code cs xs → AreConstants code (c ∷ cs) (AWord w ∷ xs)

-- what a static object begins with; a set is any set
pub data Begins (code : Code) : Initial → Kind → Content → Type 0 where
  zero_scalar : {k : Kind} → is_word k ≡ true → Begins code ZeroInitial k (OfWord zero_word)
  zero_set : {m : Mask} → Begins code ZeroInitial SetKind (OfSet m)
  zero_action : {m : Mask} → Begins code ZeroInitial ActionKind (OfAction zero_word m (pos 0))
  zero_array : Begins code ZeroInitial ArrayKind (OfItems [])
  zero_parts : Begins code ZeroInitial PartsKind (OfItems [])
  word : {k : Kind} {c : StaticValue} {w : Word} → is_word k ≡ true → IsConstant code c w → Begins code (InitialWord c) k (OfWord w)
  action : {h g : StaticValue} {w : Word} {m : Mask} {i : ℤ} → IsConstant code h w → IsConstant code g (Int i) → Begins code (InitialAction h g) ActionKind (OfAction w m i)
  items : {k : Kind} {cs : List StaticValue} {xs : List Item} → AreConstants code cs xs → Begins code (InitialItems cs) k (OfItems xs)

-- what the object of main's arguments holds: a pointer to itself, else integers
abbrev pub ByOrigin : Code → Origin → Static → Content → Type 0
ByOrigin code OfArguments s x = (o : ℕ) × (static code OfArguments ≡ Some o) × (x ≡ OfItems (AWord (Ptr o) ∷ []))
ByOrigin code origin s x = Begins code s.initial s.kind x

abbrev pub BeginsAs : Code → Static → Content → Type 0
BeginsAs code s x = ByOrigin code s.origin s x

-- the contents of the static objects, one after the other
pub data AllBegin (code : Code) : List Static → List Content → Type 0 where
  none : AllBegin code [] []
  one : {s : Static} {ss : List Static} {x : Content} {xs : List Content} → BeginsAs code s x → AllBegin code ss xs → AllBegin code (s ∷ ss) (x ∷ xs)

abbrev pub static_object : Option Static → Option Content → Option Object
static_object (Some s) (Some x) = Some (record { origin = s.origin; inside = false; gone = false; kind = s.kind; content = x })
static_object _ _ = None

-- the static objects, each under its number
abbrev pub static_objects : Code → List Content → Objects
static_objects code xs = λ o. static_object (slice_get code.statics o) (slice_get xs o)

-- main's parameters: any integer, and pointers to the object of its arguments
abbrev pub main_values : ℤ → ℕ → List Value
main_values i o = Scalar (Int i) ∷ Scalar (Ptr o) ∷ Scalar (Ptr o) ∷ []

abbrev pub number_or_zero : Option ℕ → ℕ
number_or_zero None = 0
number_or_zero (Some o) = o

-- one process with one thread at main's Enter, with any mask and any errno; each signal has its default action, and no fork handler is registered
abbrev pub start_process : Code → Mask → ℤ → ℤ → (ℕ → Option ℕ) → Objects → Process
start_process code mask errno argc locals objects = record {
  shared = record {
    objects = give_all locals (function code code.main).parameters (main_values argc (number_or_zero (static code OfArguments))) objects;
    disp = λ s. default;
    forks = [];
    handled = false;
    stirred = λ o. false;
  };
  confined = false;
  threads = record { mask = mask; errno = errno; stack = begin code code.main Base locals ∷ [] } ∷ [];
}

pub record IsStart (code : Code) (w : World) : Type 0 where
  pub mask : Mask
  pub errno : ℤ
  pub argc : ℤ
  pub contents : List Content
  pub locals : ℕ → Option ℕ
  pub objects : Objects
  pub errno_range : InRange int errno
  pub argc_range : InRange int argc
  pub begins : AllBegin code code.statics contents
  pub fresh : FrameObjects code code.main false (static_objects code contents) locals objects
  pub is : w ≡ start_process code mask errno argc locals objects ∷ []
