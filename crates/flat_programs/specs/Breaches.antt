-- Which steps break a rule, and that no run of an accepted program breaks one.
use Rattle.std.specs.Prelude.{◌≡◌, ◌≢◌, ℕ, ℤ, List, [], ◌∷◌, Some}
use Rattle.base_core.specs.declared.id.Phase.TheVariants.{In0, Finish}
use Rattle.flat_programs.specs.declared.flat.LibraryFunction.TheVariants.{Rand}
use Rattle.flat_programs.specs.declared.flat.Statement.TheVariants.{Call}
use Rattle.flat_programs.specs.FlatTree.{FlatTree}
use Rattle.flat_programs.specs.FlatCondition.{IsAccepted}
use Rattle.flat_programs.specs.Positions.{Function, statement, Whole, CallAt, Position, at}
use Rattle.flat_programs.specs.World.{Mask, Beginning, Arrived, Frame, frame, Thread, thread, World, IsStart}
use Rattle.flat_programs.specs.Steps.{Moves, Returns, Label, label, Run, GoesOn}

-- the frame is in a function that doesn't count as async-signal-safe: of those that a flat program calls that is rand, and
-- abort, getpid, pause and signal do count (after the list of POSIX.1-2017 XSH 2.4.3)
pub data IsInUnsafe (t : FlatTree) : Frame → Type 0 where
  in_rand : {f : Function} {place : ℕ} {began : Beginning}
      → statement t f place ≡ Some (Call Rand) → IsInUnsafe t (frame f (at (CallAt place) In0) began)

-- somewhere in the stack a handler lies directly on what it interrupted, an unsafe function or the exit processing
pub data HasInterrupted (t : FlatTree) : List Frame → Type 0 where
  an_unsafe : {f : Function} {p : Position} {signal : ℕ} {mask : Mask} {errno : ℤ} {below : Frame} {rest : List Frame}
      → IsInUnsafe t below → HasInterrupted t (frame f p (Arrived signal mask errno) ∷ below ∷ rest)
  an_exit : {f main : Function} {p : Position} {signal : ℕ} {mask : Mask} {errno : ℤ} {began : Beginning} {rest : List Frame}
      → HasInterrupted t (frame f p (Arrived signal mask errno) ∷ frame main (at Whole Finish) began ∷ rest)
  further_down : {top : Frame} {rest : List Frame} → HasInterrupted t rest → HasInterrupted t (top ∷ rest)

-- a step breaks a rule (POSIX.1-2017 XSH 2.4.3)
pub data Breaks (t : FlatTree) : Label → Type 0 where
  -- an unsafe function is entered while a handler has interrupted an unsafe function or the exit processing
  UnsafeInHandler : {before : Thread} {mask : Mask} {errno : ℤ} {top : Frame} {rest : List Frame}
      → IsInUnsafe t top → HasInterrupted t (top ∷ rest)
      → Breaks t (label Moves before (thread mask errno (top ∷ rest)))
  -- a handler returns with another errno than at its arrival
  ErrnoChanged : {mask saved : Mask} {errno earlier : ℤ} {f : Function} {p : Position} {signal : ℕ} {rest : List Frame} {after : Thread}
      → errno ≢ earlier
      → Breaks t (label Returns (thread mask errno (frame f p (Arrived signal saved earlier) ∷ rest)) after)

abbrev pub BreaksNone : FlatTree → Run → Type 0
BreaksNone t [] = Unit {0}
BreaksNone t (s ∷ ss) = ¬ Breaks t s.0 × BreaksNone t ss

-- where the condition on the handlers holds, no run from any start breaks a rule
abbrev pub NoRunBreaksARule : Type 0
NoRunBreaksARule = (t : FlatTree) → IsAccepted t → (w : World) (run : Run) → IsStart w → GoesOn t w run → BreaksNone t run
