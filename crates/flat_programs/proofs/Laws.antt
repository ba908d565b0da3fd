-- The laws of every run.
use Rattle.std.proofs.Common.{◌≡◌, ℤ, List, [], ◌∷◌, refl, sym, subst}
use Rattle.std.specs.List.{AllByRecursion}
use Rattle.base_core.specs.declared.id.Phase.{Phase}
use Rattle.base_core.specs.declared.id.Phase.TheVariants.{In0}
use Rattle.flat_programs.specs.FlatTree.{FlatTree}
use Rattle.flat_programs.specs.World.{IsInt, Mask, Beginning, Base, Arrived, Frame, Thread, Dispositions, Process, World, IsStart}
use Rattle.flat_programs.specs.Steps.{ErrnoAfter, Kind, ThreadStep, Label, Step, Run, GoesOn}
use Rattle.flat_programs.specs.Laws.{last_world, MaskComesBack, ErrnoIsInt}

-- at the bottom of the stack, when all handlers have returned, the mask is the start's
abbrev pub FrameMask : Mask → Beginning → Mask → List Frame → Type 0
FrameMask start Base mask [] = mask ≡ start
FrameMask start Base mask (g ∷ gs) = ⊥
FrameMask start (Arrived signal saved errno) mask [] = ⊥
FrameMask start (Arrived signal saved errno) mask (g ∷ gs) = FrameMask start g.began saved gs

abbrev pub StackMask : Mask → Mask → List Frame → Type 0
StackMask start mask [] = Unit {0}
StackMask start mask (f ∷ fs) = FrameMask start f.began mask fs

pub record HasLaws (start : Mask) (p : Process) : Type 0 where
  pub mask : StackMask start p.thread.mask p.thread.stack
  pub int : IsInt p.thread.errno

errno_int : (phase : Phase) (errno errno' : ℤ) → ErrnoAfter phase errno errno' → IsInt errno → IsInt errno'
errno_int In0 errno errno' after int = after
errno_int phase errno errno' after int = subst IsInt (sym after) int

thread_laws : (t : FlatTree) (start : Mask) (a : Dispositions) (before : Thread) (k : Kind) (b : Dispositions) (after : Thread) → ThreadStep t a before k b after
    → HasLaws start (record { dispositions = a; thread = before }) → HasLaws start (record { dispositions = b; thread = after })
thread_laws t start a before k b after (ThreadStep.moves {errno = errno} {errno' = errno'} {from = from} goes sets disp) laws =
    record { mask = laws.mask; int = errno_int from.phase errno errno' sets laws.int }
thread_laws t start a before k b after (ThreadStep.arrives blocks resets free is) laws = record { mask = laws.mask; int = laws.int }
thread_laws t start a before k b after ThreadStep.returns laws = record { mask = laws.mask; int = laws.int }

step_laws : (t : FlatTree) (start : Mask) (w : World) (l : Label) (v : World) → Step t w l v → AllByRecursion (HasLaws start) w → AllByRecursion (HasLaws start) v
step_laws t start w l v (Step.steps {a = a} {b = b} {kind = k} {before = before} {after = after} st) laws = (thread_laws t start a before k b after st laws.0, tt)
step_laws t start w l v (Step.ends may) laws = tt

run_laws : (t : FlatTree) (start : Mask) (w : World) (run : Run) → GoesOn t w run → AllByRecursion (HasLaws start) w → AllByRecursion (HasLaws start) (last_world w run)
run_laws t start w [] goes laws = laws
run_laws t start w (s ∷ ss) goes laws = run_laws t start s.1 ss goes.1 (step_laws t start w s.0 s.1 goes.0 laws)

at_last : (t : FlatTree) (w : World) (run : Run) (start : IsStart w) → GoesOn t w run → (p : Process) → last_world w run ≡ p ∷ [] → HasLaws start.mask p
at_last t w run start goes p is =
    let first = subst (AllByRecursion (HasLaws start.mask)) (sym start.is) (record { mask = refl; int = start.int }, tt) in
    (subst (AllByRecursion (HasLaws start.mask)) is (run_laws t start.mask w run goes first)).0

alone : (start mask : Mask) (main : Frame) (began : Beginning) → FrameMask start began mask [] → mask ≡ start
alone start mask main Base h = h
alone start mask main (Arrived signal saved errno) h = absurd h

pub mask_comes_back : MaskComesBack
mask_comes_back t w run start goes p main is stack =
    alone start.mask p.thread.mask main main.began (subst (StackMask start.mask p.thread.mask) stack (at_last t w run start goes p is).mask)

pub errno_is_int : ErrnoIsInt
errno_is_int t w run start goes p is = (at_last t w run start goes p is).int
