-- Steps of a flat program, and its runs.
use Rattle.std.specs.Prelude.{◌≡◌, ℕ, ℤ, List, [], ◌∷◌, Some, Bool, false, if◌then◌else◌, nat_eq, slice_get}
use Rattle.base_core.specs.declared.id.Phase.{Phase}
use Rattle.base_core.specs.declared.id.Phase.TheVariants.{Enter, In0, Leave, Finish}
use Rattle.base_core.specs.Signal.{CanBeCaught}
use Rattle.flat_programs.specs.declared.flat.LibraryFunction.TheVariants.{Abort}
use Rattle.flat_programs.specs.declared.flat.Statement.TheVariants.{Call, Install}
use Rattle.flat_programs.specs.FlatTree.{HandlerTree, FlatTree}
use Rattle.flat_programs.specs.Positions.{Function, Main, Handler, statement, Whole, CallAt, Position, at, next}
use Rattle.flat_programs.specs.World.{IsInt, Mask, none_blocked, union, with_signal, Beginning, Arrived, Frame, frame, Thread, thread}
use Rattle.flat_programs.specs.World.{Disposition, Default, Caught, Dispositions, process, World}

-- what a move from a phase does to errno: a library function that returns may have changed it (C11 7.5), here to any value
-- of int, and nothing else changes it
abbrev pub ErrnoAfter : Phase → ℤ → ℤ → Type 0
ErrnoAfter In0 errno errno' = IsInt errno'
ErrnoAfter phase errno errno' = errno' ≡ errno

-- the dispositions with that of one signal replaced
abbrev pub with_disposition : Dispositions → ℕ → Disposition → Dispositions
with_disposition a signal d = λ s. if nat_eq s signal then d else a s

-- the handler at that place has the name
pub record IsNamed (t : FlatTree) (place name : ℕ) : Type 0 where
  pub handler : HandlerTree
  pub found : slice_get t.handlers place ≡ Some handler
  pub name_is : handler.name ≡ name

-- what a move of a function to a position does to the dispositions: where it comes into a call of signal, the call sets the
-- handler, with no further signal to block (C11 7.14.1.1), or it fails; all else keeps them
pub data DispositionsAfter (t : FlatTree) (f : Function) : Position → Dispositions → Dispositions → Type 0 where
  keeps : {p : Position} {a : Dispositions} → DispositionsAfter t f p a a
  installs : {place signal name handler : ℕ} {a : Dispositions}
      → statement t f place ≡ Some (Install signal name) → CanBeCaught signal → IsNamed t handler name
      → DispositionsAfter t f (at (CallAt place) In0) a (with_disposition a signal (Caught (Handler handler) none_blocked))

pub data Kind : Type 0 where
  Moves : Kind
  Arrives : Kind
  Returns : Kind
  Ends : Kind

-- a step of a thread, with the dispositions before and behind it
pub data ThreadStep (t : FlatTree) : Dispositions → Thread → Kind → Dispositions → Thread → Type 0 where
  -- the function that runs goes on
  moves : {a b : Dispositions} {mask : Mask} {errno errno' : ℤ}
      {f : Function} {from to : Position} {began : Beginning} {rest : List Frame}
      → next t f from ≡ Some to → ErrnoAfter from.phase errno errno' → DispositionsAfter t f to a b
      → ThreadStep t a (thread mask errno (frame f from began ∷ rest)) Moves b (thread mask errno' (frame f to began ∷ rest))
  -- a signal that isn't blocked arrives, and its handler is called; where signal() set it, it is open whether the signal is
  -- blocked in the handler and whether its disposition is reset (C11 7.14.1.1, POSIX.1-2017 XSH 2.4.3)
  arrives : (blocks resets : Bool) {a : Dispositions} {mask blocked : Mask} {errno : ℤ}
      {signal : ℕ} {handler : Function} {top : Frame} {rest : List Frame}
      → mask signal ≡ false → a signal ≡ Caught handler blocked
      → ThreadStep t a (thread mask errno (top ∷ rest)) Arrives (if resets then with_disposition a signal Default else a)
      (thread (if blocks then with_signal (union mask blocked) signal else union mask blocked) errno
      (frame handler (at Whole Enter) (Arrived signal mask errno) ∷ top ∷ rest))
  -- a handler returns: the mask is again that of the arrival, and errno stays as it is (POSIX.1-2017 XSH sigaction)
  returns : {a : Dispositions} {mask before : Mask} {errno earlier : ℤ}
      {signal : ℕ} {f : Function} {below : Frame} {rest : List Frame}
      → ThreadStep t a (thread mask errno (frame f (at Whole Leave) (Arrived signal before earlier) ∷ below ∷ rest))
      Returns a (thread before errno (below ∷ rest))

-- the process may end: in abort (C11 7.22.4.1), and in the exit processing behind main's return (C11 5.1.2.2.3)
pub data MayEnd (t : FlatTree) : Frame → Type 0 where
  aborts : {f : Function} {place : ℕ} {began : Beginning}
      → statement t f place ≡ Some (Call Abort) → MayEnd t (frame f (at (CallAt place) In0) began)
  exits : {began : Beginning} → MayEnd t (frame Main (at Whole Finish) began)

-- what kind of step it is, and the thread that makes it, before and after
pub record Label : Type 0 where
  pub kind : Kind
  pub before : Thread
  pub after : Thread

abbrev pub label : Kind → Thread → Thread → Label
label kind before after = record { kind = kind; before = before; after = after }

pub data Step (t : FlatTree) : World → Label → World → Type 0 where
  steps : {a b : Dispositions} {kind : Kind} {before after : Thread}
      → ThreadStep t a before kind b after
      → Step t (process a before ∷ []) (label kind before after) (process b after ∷ [])
  ends : {a : Dispositions} {mask : Mask} {errno : ℤ} {top : Frame} {rest : List Frame}
      → MayEnd t top
      → Step t (process a (thread mask errno (top ∷ rest)) ∷ [])
      (label Ends (thread mask errno (top ∷ rest)) (thread mask errno [])) []

-- a run from a world: steps, each with the world that it leads to; it may stop anywhere
abbrev pub Run : Type 0
Run = List (Label × World)

abbrev pub GoesOn : FlatTree → World → Run → Type 0
GoesOn t w [] = Unit {0}
GoesOn t w (s ∷ ss) = Step t w s.0 s.1 × GoesOn t s.1 ss
