-- What holds of all runs.
use Rattle.std.specs.Prelude.{◌≡◌, ℕ, ℤ, List, [], ◌∷◌, ◌++◌, Option, None, Bool, true, false}
use Rattle.std.specs.List.{AllByRecursion}
use Rattle.c_arithmetic.specs.declared.types.IntType.{IntType}
use Rattle.c_arithmetic.specs.Types.{int}
use Rattle.run_model.specs.Signals.{Mask}
use Rattle.run_model.specs.Kinds.{Number, InRange}
use Rattle.run_model.specs.Values.{Int, Scalar}
use Rattle.run_model.specs.Code.{Code}
use Rattle.run_model.specs.World.{How, Arrived, Frame, Thread, Shared, Process, World}
use Rattle.run_model.specs.Start.{IsStart}
use Rattle.run_model.specs.ThreadSteps.{Begins, Leaves}
use Rattle.run_model.specs.ProcessSteps.{Label, process, ProcessStep}
use Rattle.run_model.specs.Runs.{Step, Run, GoesOn, IsRun}
use Rattle.run_model.specs.Owed.{IsCode}

-- in each world of a run
abbrev pub InEachWorld : (World → Type 0) → World → Run → Type 0
InEachWorld P w [] = P w
InEachWorld P w (s ∷ ss) = P w × InEachWorld P s.1 ss

abbrev pub ForEachThread : (Thread → Type 0) → World → Type 0
ForEachThread P w = AllByRecursion (λ (q : Process). AllByRecursion P q.threads) w

-- every program has a world that its runs start from
abbrev pub HasStart : Type 0
HasStart = (code : Code) → IsCode code → (w : World) × IsStart code w

-- each frame of a world of a run stands at a position of its function
abbrev pub Stands : Code → Frame → Type 0
Stands code f = code.has f.fn f.pos ≡ true

abbrev pub FramesStand : Type 0
FramesStand = (code : Code) (w : World) (run : Run) → IsCode code → IsRun code w run → InEachWorld (ForEachThread (λ (t : Thread). AllByRecursion (Stands code) t.stack)) w run

-- each integer that a node has as its value lies in the node's type, and errno in int, also that which a handler is to give back
abbrev pub HasErrno : How → Type 0
HasErrno (Arrived sig saved errno) = InRange int errno
HasErrno _ = Unit {0}

pub record HasIntegers (code : Code) (f : Frame) : Type 0 where
  pub values : (n : ℕ) (t : IntType) (i : ℤ) → code.kind n ≡ Number t → f.vals n ≡ Scalar (Int i) → InRange t i
  pub saved : HasErrno f.how

pub record IntegersFit (code : Code) (t : Thread) : Type 0 where
  pub errno : InRange int t.errno
  pub frames : AllByRecursion (HasIntegers code) t.stack

abbrev pub IntegersLieInTheirTypes : Type 0
IntegersLieInTheirTypes = (code : Code) (w : World) (run : Run) → IsCode code → IsRun code w run → InEachWorld (ForEachThread (IntegersFit code)) w run

-- when a handler returns, its thread has the mask from before the arrival and goes on where it was, and errno is what the handler leaves
abbrev pub MaskComesBack : Type 0
MaskComesBack = (code : Code) (w w' : World) (l : Label) (top : Frame) (rest : List Frame) (sig : ℕ) (saved : Mask) (errno : ℤ) → Step code w l w' → l.kind ≡ Leaves
    → l.before.stack ≡ top ∷ rest → top.how ≡ Arrived sig saved errno → (l.after.mask ≡ saved) × (l.after.errno ≡ l.before.errno) × (l.after.stack ≡ rest)

-- the mask and errno that the frame of an arrival keeps are those of its thread before it, and the signal wasn't blocked
abbrev pub ArrivalsKeepMask : Type 0
ArrivalsKeepMask = (code : Code) (w w' : World) (l : Label) (top : Frame) (rest : List Frame) (sig : ℕ) (saved : Mask) (errno : ℤ) → Step code w l w' → l.kind ≡ Begins
    → l.after.stack ≡ top ∷ rest → top.how ≡ Arrived sig saved errno → (saved ≡ l.before.mask) × (errno ≡ l.before.errno) × (rest ≡ l.before.stack) × (saved sig ≡ false)

-- what comes before a place in a run is a run
abbrev pub PrefixesAreRuns : Type 0
PrefixesAreRuns = (code : Code) (w : World) (run more : Run) → IsRun code w (run ++ more) → IsRun code w run

-- a process that ends leaves nothing behind, and nothing happens in one whose threads have ended or where there is no process
pub record EndIsEnd : Type 0 where
  pub leaves_nothing : (code : Code) (q : Process) (l : Label) (new : List Process) → ProcessStep code q l None new → (new ≡ []) × (l.after.stack ≡ [])
  pub no_thread : (code : Code) (s : Shared) (confined : Bool) (l : Label) (r : Option Process) (new : List Process) → ProcessStep code (process s confined []) l r new → ⊥
  pub no_process : (code : Code) (run : Run) → GoesOn code [] run → run ≡ []
