-- What a step of the frame that runs may look at and change, and the object that a place designates (C11 6.3.2.1p1, 6.5.2.1, 6.5.2.3, 6.5.3.2).
use Rattle.std.specs.Prelude.{◌≡◌, ℕ, ℤ, List, ◌∷◌, Option, Some, None, Bool, true, false, ◌||◌, ◌&&◌, nat_eq}
use Rattle.run_model.specs.Signals.{Mask}
use Rattle.run_model.specs.Kinds.{Kind, Part, Whole, part_of, is_array, Member}
use Rattle.run_model.specs.Values.{Word, Ptr, Value, Scalar, At, AtErrno, Values, update}
use Rattle.run_model.specs.Objects.{Content, Object, Objects}
use Rattle.run_model.specs.Code.{Code, OfVariable, OfText, Place, Variable, Text, ErrnoPlace, MemberOf, Behind, static}
use Rattle.run_model.specs.World.{Disposition, Frame, Shared, in_handler}

-- what a step doesn't change of the frame that makes it
pub record Env : Type 0 where
  pub fn : ℕ
  pub locals : ℕ → Option ℕ
  -- the thread runs a handler
  pub inside : Bool

-- and what it may change
pub record Local : Type 0 where
  pub mask : Mask
  pub errno : ℤ
  pub vals : Values
  pub to_run : List Word
  pub old : Option Disposition
  pub shared : Shared

abbrev pub env_of : Frame → List Frame → Env
env_of f fs = record { fn = f.fn; locals = f.locals; inside = in_handler (f ∷ fs) }

abbrev pub local_of : Shared → Mask → ℤ → Frame → Local
local_of s mask errno f = record { mask = mask; errno = errno; vals = f.vals; to_run = f.to_run; old = f.old; shared = s }

-- the node takes a value
abbrev pub takes : Local → ℕ → Value → Local
takes l n v = record l { vals = update l.vals n v }

-- an object is written: it is stirred where the process is handled
abbrev pub wrote : Shared → ℕ → Object → Content → Shared
wrote s o x y = record s { objects = update s.objects o (Some (record x { content = y })); stirred = λ j. s.stirred j || (s.handled && nat_eq j o) }

abbrev pub writes : Local → ℕ → Object → Content → Local
writes l o x y = record l { shared = wrote l.shared o x y }

-- an object that a pointer may be followed to
pub record IsThere (s : Shared) (o : ℕ) (x : Object) : Type 0 where
  pub found : s.objects o ≡ Some x
  pub alive : x.gone ≡ false

-- ---- the object, or errno, that a place stands for

abbrev pub whole : Option ℕ → Option Value
whole None = None
whole (Some o) = Some (At o Whole)

abbrev pub variable_place : Option ℕ → Option ℕ → Option Value
variable_place (Some o) other = Some (At o Whole)
variable_place None other = whole other

abbrev pub member_place : Option Object → ℕ → Part → Member → Option Value
member_place None o part m = None
member_place (Some x) o part m = Some (At o (part_of x.kind part m))

abbrev pub member_of : Objects → Value → Member → Option Value
member_of objects (At o part) m = member_place (objects o) o part m
member_of objects v m = None

abbrev pub unless : Bool → Value → Option Value
unless true v = None
unless false v = Some v

-- nothing where the object is gone
abbrev pub if_alive : Option Object → ℕ → Member → Option Value
if_alive None o m = None
if_alive (Some x) o m = unless x.gone (At o (part_of x.kind Whole m))

abbrev pub behind : Objects → Value → Member → Option Value
behind objects (Scalar (Ptr o)) m = if_alive (objects o) o m
behind objects v m = None

abbrev pub stands_for : Code → Env → Local → Place → Option Value
stands_for code env l (Variable v) = variable_place (env.locals v) (static code (OfVariable v))
stands_for code env l (Text n) = whole (static code (OfText n))
stands_for code env l ErrnoPlace = Some AtErrno
stands_for code env l (MemberOf a m) = member_of l.shared.objects (l.vals a) m
stands_for code env l (Behind a m) = behind l.shared.objects (l.vals a) m

abbrev pub of_place : Code → Env → Local → Option Place → Option Value
of_place code env l None = None
of_place code env l (Some p) = stands_for code env l p

-- the node designates this object or errno
abbrev pub designated : Code → Env → Local → ℕ → Option Value
designated code env l n = of_place code env l (code.place n)

-- an array stands as a pointer to its first element (6.3.2.1p3)
abbrev pub as_pointer : Bool → Value → Value
as_pointer true (At o part) = Scalar (Ptr o)
as_pointer _ v = v

abbrev pub stands_as : Kind → Value → Value
stands_as k v = as_pointer (is_array k) v
