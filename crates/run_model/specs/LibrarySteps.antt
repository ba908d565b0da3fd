-- The steps of a call of a library function: into In0, where its arguments are known, and from there to Leave.
use Rattle.std.specs.Prelude.{◌≡◌, ◌≢◌, ℕ, ℤ, pos, negsuc, List, [], Option, Some, None, false, cond, ◌||◌, ◌&&◌, nat_eq}
use Rattle.posix_table.specs.declared.kind.ResultKind.{ResultKind}
use Rattle.posix_table.specs.declared.kind.ResultKind.TheVariants as result
use Rattle.posix_table.specs.declared.kind.Effect.{Effect}
use Rattle.posix_table.specs.declared.kind.Effect.TheVariants as effect
use Rattle.c_arithmetic.specs.Types.{int, long}
use Rattle.run_model.specs.Signals.{Mask}
use Rattle.run_model.specs.Kinds.{PartsKind, InRange}
use Rattle.run_model.specs.Values.{Int, Ptr, Item, Value, Scalar, Signals, NoValue, update}
use Rattle.run_model.specs.Objects.{OfItems, Object}
use Rattle.run_model.specs.Code.{Code, LibraryCall, Library, Allocated, OfLibrary, Action, Into, Out, Forked, static}
use Rattle.run_model.specs.World.{Registered, Shared}
use Rattle.run_model.specs.Places.{Env, Local}
use Rattle.run_model.specs.Arguments.{argument, signal_of, givens, copied_at, set_at, has_copied, AreThere, items_in, content_behind, SetBehind}
use Rattle.run_model.specs.LibraryWrites.{Writes, old_of}
use Rattle.run_model.specs.Masks.{MaskAfter, waited}
use Rattle.run_model.specs.Installs.{Installs, disposition_of}
use Rattle.run_model.specs.Forks.{prepares, present, copies_process, ForksAfter}

-- ---- into In0

-- a disposition is set, the mask of a wait begins, fork comes to its prepare handlers; the start of a thread is a step of the process
pub data Enters (n : ℕ) (call : LibraryCall) (l : Local) : Effect → Local → Type 0 where
  installs : {s : Shared} → Installs call l s → Enters n call l effect.Install (record l { shared = s; old = Some (disposition_of l.shared (signal_of (argument call l.vals 0))) })
  waits : {s : Option Mask} → SetBehind l.shared (argument call l.vals (set_at call.letters)) s → Enters n call l effect.Wait (record l { mask = waited s l.mask; vals = update l.vals n (Signals l.mask) })
  forks : Enters n call l effect.Fork (record l { to_run = present (prepares l.shared.forks []) })
  other : {e : Effect} → e ≢ effect.Install → e ≢ effect.Wait → e ≢ effect.Fork → Enters n call l e l

-- ---- from In0 to Leave

-- errno after the call: any value, since a function may change it (C11 7.5p3), except of those that leave it alone
abbrev pub ErrnoAfter : Effect → ℤ → ℤ → Type 0
ErrnoAfter effect.Pure e e' = e' ≡ e
ErrnoAfter _ e e' = InRange int e'

abbrev pub fresh_items : LibraryCall → Local → List Item
fresh_items call l = cond (has_copied call.letters) (items_in (content_behind l.shared.objects (argument call l.vals (copied_at call.letters)))) []

-- the object that a call makes (C11 7.22.3)
abbrev pub allocated : Env → LibraryCall → Local → ℕ → Object
allocated env call l n = record { origin = Allocated n; inside = env.inside; gone = false; kind = PartsKind; content = OfItems (fresh_items call l) }

-- it is written where it is filled
abbrev pub allocate : LibraryCall → Shared → ℕ → Object → Shared
allocate call s o x = record s { objects = update s.objects o (Some x); stirred = λ j. s.stirred j || (has_copied call.letters && s.handled && nat_eq j o) }

-- the value of a call, and what is shared after an object was made for it
pub data Results (code : Code) (env : Env) (n : ℕ) (call : LibraryCall) (l : Local) (s : Shared) : ResultKind → Shared → Value → Type 0 where
  integer : {i : ℤ} → InRange long i → Results code env n call l s result.Int s (Scalar (Int i))
  nothing : Results code env n call l s result.Nothing s NoValue
  no_first : Results code env n call l s result.First s (Scalar (Int (pos 0)))
  first : Results code env n call l s result.First s (argument call l.vals 0)
  no_fresh : Results code env n call l s result.Fresh s (Scalar (Int (pos 0)))
  fresh : (o : ℕ) → s.objects o ≡ None → Results code env n call l s result.Fresh (allocate call s o (allocated env call l n)) (Scalar (Ptr o))
  no_own : Results code env n call l s result.Own s (Scalar (Int (pos 0)))
  own : {o : ℕ} → static code (OfLibrary call.number) ≡ Some o → Results code env n call l s result.Own s (Scalar (Ptr o))
  -- SIG_ERR
  failed : Results code env n call l s result.OldHandler s (Scalar (Int (negsuc 0)))
  old : Results code env n call l s result.OldHandler s (Scalar (old_of l.old).handler)

pub record CallReturns (code : Code) (env : Env) (n : ℕ) (call : LibraryCall) (l m : Local) : Type 0 where
  pub written : Shared
  pub shared : Shared
  pub mask : Mask
  pub errno : ℤ
  pub forks : List Registered
  pub v : Value
  pub writes : Writes call l (givens call l.vals) l.shared written
  pub results : Results code env n call l written call.row.result shared v
  pub masks : MaskAfter n call l call.row.effect mask
  pub errors : ErrnoAfter call.row.effect l.errno errno
  pub registers : ForksAfter call l call.row.effect forks
  pub is : m ≡ record l { mask = mask; errno = errno; vals = update l.vals n v; old = None; shared = record shared { forks = forks } }

pub data LibraryDoes (code : Code) (env : Env) : Action → Local → Local → Type 0 where
  enters : {n : ℕ} {call : LibraryCall} {l m : Local} → code.call n ≡ Library call → AreThere l.shared (givens call l.vals) → Enters n call l call.row.effect m → LibraryDoes code env (Into n) l m
  leaves : {n : ℕ} {call : LibraryCall} {l m : Local} → code.call n ≡ Library call → copies_process call.row.effect ≡ false → AreThere l.shared (givens call l.vals) → CallReturns code env n call l m → LibraryDoes code env (Out n) l m
  -- from In1 of fork, when its handlers have run
  forked : {n : ℕ} {l : Local} {e : ℤ} → l.to_run ≡ [] → InRange int e → LibraryDoes code env (Forked n) l (record l { errno = e })
