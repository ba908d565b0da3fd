-- The arguments of a call of a library function, and what their letters say of the objects behind them.
use Rattle.std.specs.Prelude.{◌≡◌, ℕ, zero, suc, ℤ, pos, List, [], ◌∷◌, Option, Some, None, Bool, true, false, cond, slice_get}
use Rattle.posix_table.specs.declared.kind.Param.{Param}
use Rattle.posix_table.specs.declared.kind.Param.TheVariants as letter
use Rattle.posix_table.specs.declared.kind.ResultKind.{ResultKind}
use Rattle.posix_table.specs.declared.kind.ResultKind.TheVariants as result
use Rattle.posix_table.specs.declared.kind.Effect.{Effect}
use Rattle.posix_table.specs.declared.kind.Effect.TheVariants as effect
use Rattle.run_model.specs.Signals.{Mask, is_signal}
use Rattle.run_model.specs.Values.{Word, Int, Ptr, Item, AWord, ASet, Value, Scalar, NoValue, Values}
use Rattle.run_model.specs.Objects.{Content, OfWord, OfSet, OfAction, OfItems, Object, Objects}
use Rattle.run_model.specs.Code.{LibraryCall}
use Rattle.run_model.specs.World.{Shared}
use Rattle.run_model.specs.Places.{IsThere}

abbrev pub value_at : Values → Option ℕ → Value
value_at vals None = NoValue
value_at vals (Some n) = vals n

-- the value of the k-th argument
abbrev pub argument : LibraryCall → Values → ℕ → Value
argument call vals k = value_at vals (slice_get call.args k)

-- the signal of a number from 1 to 28
abbrev pub signal_of : Value → Option ℕ
signal_of (Scalar (Int (pos n))) = cond (is_signal n) (Some n) None
signal_of _ = None

-- an argument with its letter
pub record Given : Type 0 where
  pub place : ℕ
  pub letter : Param
  pub value : Value

abbrev pub given_from : Values → ℕ → List Param → List ℕ → List Given
given_from vals k [] ns = []
given_from vals k (l ∷ ls) [] = []
given_from vals k (l ∷ ls) (n ∷ ns) = record { place = k; letter = l; value = vals n } ∷ given_from vals (suc k) ls ns

abbrev pub givens : LibraryCall → Values → List Given
givens call vals = given_from vals 0 call.letters call.args

-- the place of a letter among the letters
abbrev pub copied_at : List Param → ℕ
copied_at [] = 0
copied_at (letter.Copied ∷ ls) = 0
copied_at (_ ∷ ls) = suc (copied_at ls)

abbrev pub set_at : List Param → ℕ
set_at [] = 0
set_at (letter.SetIn ∷ ls) = 0
set_at (_ ∷ ls) = suc (set_at ls)

abbrev pub has_copied : List Param → Bool
has_copied [] = false
has_copied (letter.Copied ∷ ls) = true
has_copied (_ ∷ ls) = has_copied ls

-- a pointer that the function follows
abbrev pub is_followed : Param → Bool
is_followed letter.Int = false
is_followed letter.Kernel = false
is_followed letter.Kept = false
is_followed letter.Null = false
is_followed letter.HandlerFn = false
is_followed letter.ThreadFn = false
is_followed letter.ForkFn = false
is_followed _ = true

-- each pointer that is followed leads to an object that is there
abbrev pub AreThere : Shared → List Given → Type 0
AreThere s [] = Unit {0}
AreThere s (g ∷ gs) = (is_followed g.letter ≡ true → (o : ℕ) → g.value ≡ Scalar (Ptr o) → (x : Object) × IsThere s o x) × AreThere s gs

-- how the object behind an argument is written
pub data Write : Type 0 where
  NoWrite : Write
  Integers : Write
  ZeroFill : Write
  CopiesInto : Write
  EndPointer : Write
  ChangesSet : Write
  OldMask : Write
  OldAction : Write

abbrev pub plain_write : Effect → ResultKind → Bool → ℕ → Write
plain_write effect.Fill r c zero = ZeroFill
plain_write effect.Endp r c (suc zero) = EndPointer
plain_write e result.First true zero = CopiesInto
plain_write e r c k = Integers

abbrev pub set_write : Effect → Write
set_write effect.Mask = OldMask
set_write _ = ChangesSet

abbrev pub write_of : LibraryCall → ℕ → Param → Write
write_of call k letter.Write = plain_write call.row.effect call.row.result (has_copied call.letters) k
write_of call k letter.Both = plain_write call.row.effect call.row.result (has_copied call.letters) k
write_of call k letter.SetOut = set_write call.row.effect
write_of call k letter.ActionOut = OldAction
write_of call k _ = NoWrite

-- ---- what is read behind an argument

-- the words and sets that an object holds
abbrev pub items_in : Content → List Item
items_in (OfWord w) = AWord w ∷ []
items_in (OfSet m) = ASet m ∷ []
items_in (OfAction h m g) = AWord h ∷ AWord (Int g) ∷ ASet m ∷ []
items_in (OfItems xs) = xs

abbrev pub held : Option Object → Content
held None = OfItems []
held (Some x) = x.content

-- nothing where the argument is no pointer
abbrev pub content_behind : Objects → Value → Content
content_behind objects (Scalar (Ptr o)) = held (objects o)
content_behind objects _ = OfItems []

-- the set of an object: of a struct sigaction its mask, of an object of another type any set
abbrev pub SetOf : Content → Mask → Type 0
SetOf (OfSet m) s = s ≡ m
SetOf (OfAction h m g) s = s ≡ m
SetOf _ s = Unit {0}

-- the set behind an argument; none where it is no pointer
pub data SetBehind (s : Shared) : Value → Option Mask → Type 0 where
  null : {i : ℤ} → SetBehind s (Scalar (Int i)) None
  function : {f : ℕ} → SetBehind s (Scalar (Word.Fn f)) None
  behind : {o : ℕ} {x : Object} {m : Mask} → IsThere s o x → SetOf x.content m → SetBehind s (Scalar (Ptr o)) (Some m)
