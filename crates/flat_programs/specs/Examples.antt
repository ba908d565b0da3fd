-- Programs with runs that break a rule, and an accepted one with handlers that interrupt each other and themselves.
use Rattle.std.specs.Prelude.{◌≡◌, ℕ, List, [], ◌∷◌, ◌++◌, map}
use Rattle.base_core.specs.declared.id.Phase.TheVariants.{Finish}
use Rattle.flat_programs.specs.declared.flat.LibraryFunction.{LibraryFunction}
use Rattle.flat_programs.specs.declared.flat.LibraryFunction.TheVariants.{Getpid, Pause, Rand}
use Rattle.flat_programs.specs.declared.flat.Statement.TheVariants.{Call, Install}
use Rattle.flat_programs.specs.FlatTree.{HandlerTree, FlatTree}
use Rattle.flat_programs.specs.FlatCondition.{IsAccepted}
use Rattle.flat_programs.specs.Positions.{Function, Main, Handler, Whole, at}
use Rattle.flat_programs.specs.World.{Frame, World, IsStart}
use Rattle.flat_programs.specs.Steps.{Returns, Label, Run, GoesOn}
use Rattle.flat_programs.specs.Breaches.{IsInUnsafe, Breaks}
use Rattle.flat_programs.specs.Laws.{last_world}

-- SIGINT and SIGTERM, and the letters h, k and s
abbrev pub sigint : ℕ
sigint = 9

abbrev pub sigterm : ℕ
sigterm = 18

abbrev pub letter_h : ℕ
letter_h = 104

abbrev pub letter_k : ℕ
letter_k = 107

abbrev pub handler : ℕ → List LibraryFunction → HandlerTree
handler name calls = record { name = name; parameter = 115; calls = calls }

-- void h(int s) { calls } int main(void) { signal(SIGINT, h); pause(); return 0; }
abbrev pub one_handler : List LibraryFunction → FlatTree
one_handler calls = record { handlers = handler letter_h calls ∷ []; statements = Install sigint letter_h ∷ Call Pause ∷ [] }

-- void h(int s) { calls } void k(int s) { } int main(void) { signal(SIGINT, h); signal(SIGTERM, k); pause(); return 0; }
abbrev pub two_handlers : List LibraryFunction → FlatTree
two_handlers calls = record {
  handlers = handler letter_h calls ∷ handler letter_k [] ∷ [];
  statements = Install sigint letter_h ∷ Install sigterm letter_k ∷ Call Pause ∷ [];
}

-- a run from a start whose last step is so
pub record HasRun (t : FlatTree) (IsLast : Label → Type 0) : Type 0 where
  pub first : World
  pub start : IsStart first
  pub run : Run
  pub label : Label
  pub last : World
  pub goes : GoesOn t first (run ++ (label, last) ∷ [])
  pub is : IsLast label

-- a handler interrupted itself in an unsafe function, and the step breaks a rule
pub record BreaksOverItself (t : FlatTree) (l : Label) : Type 0 where
  pub top : Frame
  pub below : Frame
  pub rest : List Frame
  pub stack : l.after.stack ≡ top ∷ below ∷ rest
  pub itself : top.function ≡ below.function
  pub interrupted : IsInUnsafe t below
  pub breaks : Breaks t l

-- a handler interrupted the exit processing behind main's return, and the step breaks a rule
pub record BreaksInExit (t : FlatTree) (l : Label) : Type 0 where
  pub top : Frame
  pub main : Frame
  pub stack : l.after.stack ≡ top ∷ main ∷ []
  pub exit : main.position ≡ at Whole Finish
  pub breaks : Breaks t l

-- a handler interrupted another one, which interrupted the exit processing, and the step breaks a rule
pub record BreaksAboveHandler (t : FlatTree) (l : Label) : Type 0 where
  pub top : Frame
  pub between : Frame
  pub main : Frame
  pub stack : l.after.stack ≡ top ∷ between ∷ main ∷ []
  pub exit : main.position ≡ at Whole Finish
  pub breaks : Breaks t l

-- a handler returns with the errno that it leaves, and the step breaks a rule
pub record BreaksAtReturn (t : FlatTree) (l : Label) : Type 0 where
  pub kind : l.kind ≡ Returns
  pub errno : l.after.errno ≡ l.before.errno
  pub breaks : Breaks t l

-- with rand() in the handler
abbrev pub RandOverRand : Type 0
RandOverRand = HasRun (one_handler (Rand ∷ [])) (BreaksOverItself (one_handler (Rand ∷ [])))

abbrev pub RandInExit : Type 0
RandInExit = HasRun (one_handler (Rand ∷ [])) (BreaksInExit (one_handler (Rand ∷ [])))

abbrev pub RandAboveHandler : Type 0
RandAboveHandler = HasRun (two_handlers (Rand ∷ [])) (BreaksAboveHandler (two_handlers (Rand ∷ [])))

-- with getpid() in the handler
abbrev pub GetpidChangesErrno : Type 0
GetpidChangesErrno = HasRun (one_handler (Getpid ∷ [])) (BreaksAtReturn (one_handler (Getpid ∷ [])))

-- the functions that run in a world, that which runs first first
abbrev pub running : World → List Function
running [] = []
running (p ∷ ps) = map (λ (f : Frame). f.function) p.thread.stack ++ running ps

-- an accepted program where h interrupts main, h interrupts itself, and k interrupts that; all three return, and then k
-- interrupts main
pub record NestsAndReturns : Type 0 where
  pub accepted : IsAccepted (two_handlers [])
  pub first : World
  pub start : IsStart first
  pub up : Run
  pub goes_up : GoesOn (two_handlers []) first up
  pub nested : running (last_world first up) ≡ Handler 1 ∷ Handler 0 ∷ Handler 0 ∷ Main ∷ []
  pub down : Run
  pub goes_down : GoesOn (two_handlers []) (last_world first up) down
  pub alone : running (last_world (last_world first up) down) ≡ Main ∷ []
  pub again : Run
  pub goes_again : GoesOn (two_handlers []) (last_world (last_world first up) down) again
  pub once_more : running (last_world (last_world (last_world first up) down) again) ≡ Handler 1 ∷ Main ∷ []
