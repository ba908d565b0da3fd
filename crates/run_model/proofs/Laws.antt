-- Prefixes, ends, and what the frame of an arrival keeps.
use Rattle.std.proofs.Common.{◌≡◌, ℕ, List, [], ◌∷◌, ◌++◌, refl, sym, subst, arith, false}
use Rattle.std.specs.Prelude.{Option, None, ℤ, Contains}
use Rattle.run_model.specs.Signals.{Mask}
use Rattle.run_model.specs.Code.{Code}
use Rattle.run_model.specs.World.{Arrived, Frame, Thread, Shared, Process, World}
use Rattle.run_model.specs.World.{Called, Handles}
use Rattle.run_model.specs.Frames.{begin}
use Rattle.run_model.specs.ThreadSteps.{StepKind, Begins, Leaves, ThreadStep}
use Rattle.run_model.specs.ProcessSteps.{Label, ProcessStep}
use Rattle.run_model.specs.Runs.{Step, Run, GoesOn}
use Rattle.run_model.specs.Laws.{MaskComesBack, ArrivalsKeepMask, PrefixesAreRuns, EndIsEnd}

prefix : (code : Code) (w : World) (run more : Run) → GoesOn code w (run ++ more) → GoesOn code w run
prefix code w [] more g = tt
prefix code w (s ∷ ss) more g = (g.0, prefix code s.1 ss more g.1)

pub prefixes : PrefixesAreRuns
prefixes code w run more r = record { start = r.start; goes = prefix code w run more r.goes }

no_middle : {A : Type 0} (xs : List A) (y : A) (ys : List A) → xs ++ y ∷ ys ≡ [] → ⊥
no_middle [] y ys e = absurd cc
no_middle (x ∷ xs) y ys e = absurd cc

nothing_left : {code : Code} {q : Process} {l : Label} {r : Option Process} {new : List Process} → ProcessStep code q l r new → r ≡ None → (new ≡ []) × (l.after.stack ≡ [])
nothing_left (ProcessStep.steps left right s) e = absurd cc
nothing_left (ProcessStep.starts left right errno' g a c e there is fits arg range made) n = absurd cc
nothing_left (ProcessStep.forks left right is at none out) e = absurd cc
nothing_left (ProcessStep.thread_ends before after is at none) e = absurd cc
nothing_left (ProcessStep.ends has is may) e = (refl, refl)

none_in : {A : Type 0} (xs : List A) (x : A) → xs ≡ [] → Contains xs x → ⊥
none_in [] x e c = omega (arith, c.1)
none_in (y ∷ ys) x e c = absurd cc

no_step : {code : Code} {q : Process} {l : Label} {r : Option Process} {new : List Process} → ProcessStep code q l r new → q.threads ≡ [] → ⊥
no_step (ProcessStep.steps left right {t = t} s) e = no_middle left t right e
no_step (ProcessStep.starts left right errno' g a c f there is fits arg range made) e = no_middle left _ right e
no_step (ProcessStep.forks left right is at none out) e = no_middle left _ right e
no_step (ProcessStep.thread_ends before after is at none) e = no_middle before _ after e
no_step (ProcessStep.ends {q} {t} has is may) e = none_in q.threads t e has

no_world : {code : Code} {w w' : World} {l : Label} → Step code w l w' → w ≡ [] → ⊥
no_world (Step.step left right {q = q} s) e = no_middle left q right e

no_run : (code : Code) (run : Run) → GoesOn code [] run → run ≡ []
no_run code [] g = refl
no_run code (s ∷ ss) g = absurd (no_world g.0 refl)

pub end_is_end : EndIsEnd
end_is_end = record {
  leaves_nothing = λ code q l new s. nothing_left s refl;
  no_thread = λ code s confined l r new h. no_step h refl;
  no_process = no_run;
}

-- ---- the frame of an arrival

thread_mask : {code : Code} {a b : Shared} {t u : Thread} {k : StepKind} → ThreadStep code a t k b u → k ≡ Leaves → (top : Frame) (rest : List Frame) (sig : ℕ) (saved : Mask) (errno : ℤ)
    → t.stack ≡ top ∷ rest → top.how ≡ Arrived sig saved errno → (u.mask ≡ saved) × (u.errno ≡ t.errno) × (u.stack ≡ rest)
thread_mask (ThreadStep.moves g a) e top rest sig saved errno is how = absurd cc
thread_mask (ThreadStep.calls phase call calls made passes) e top rest sig saved errno is how = absurd cc
thread_mask (ThreadStep.returns v {top = f} how' leaves converts) e top rest sig saved errno is how = let p : f ≡ top = cc in absurd cc
thread_mask (ThreadStep.arrives o p unblocked handler takes defers free free' made) e top rest sig saved errno is how = absurd cc
thread_mask (ThreadStep.resumes {saved = m} {top = f} {below = g} {rest = fs} how' leaves) e top rest sig saved errno is how =
    let p : f ≡ top = cc in let q : g ∷ fs ≡ rest = cc in let r : m ≡ saved = cc in (r, refl, q)
thread_mask (ThreadStep.handles fork runs next fits made) e top rest sig saved errno is how = absurd cc
thread_mask (ThreadStep.handled {top = f} how' leaves) e top rest sig saved errno is how = let p : f ≡ top = cc in absurd cc

process_mask : {code : Code} {q : Process} {l : Label} {r : Option Process} {new : List Process} → ProcessStep code q l r new → l.kind ≡ Leaves → (top : Frame) (rest : List Frame) (sig : ℕ) (saved : Mask) (errno : ℤ)
    → l.before.stack ≡ top ∷ rest → top.how ≡ Arrived sig saved errno → (l.after.mask ≡ saved) × (l.after.errno ≡ l.before.errno) × (l.after.stack ≡ rest)
process_mask (ProcessStep.steps left right s) e top rest sig saved errno is how = thread_mask s e top rest sig saved errno is how
process_mask (ProcessStep.starts left right errno' g a c f there is fits arg range made) e top rest sig saved errno on how = absurd cc
process_mask (ProcessStep.forks left right is at none out) e top rest sig saved errno on how = absurd cc
process_mask (ProcessStep.thread_ends before after is at none) e top rest sig saved errno on how = absurd cc
process_mask (ProcessStep.ends has is may) e top rest sig saved errno on how = absurd cc

pub mask_comes_back : MaskComesBack
mask_comes_back code w w' l top rest sig saved errno (Step.step left right s) e is how = process_mask s e top rest sig saved errno is how

thread_arrival : {code : Code} {a b : Shared} {t u : Thread} {k : StepKind} → ThreadStep code a t k b u → k ≡ Begins → (top : Frame) (rest : List Frame) (sig : ℕ) (saved : Mask) (errno : ℤ)
    → u.stack ≡ top ∷ rest → top.how ≡ Arrived sig saved errno → (saved ≡ t.mask) × (errno ≡ t.errno) × (rest ≡ t.stack) × (saved sig ≡ false)
thread_arrival (ThreadStep.moves g a) e top rest sig saved errno is how = absurd cc
thread_arrival {code} (ThreadStep.calls {f = f} {locals = locals} phase call calls made passes) e top rest sig saved errno is how = let p : begin code f Called locals ≡ top = cc in absurd cc
thread_arrival (ThreadStep.returns v how' leaves converts) e top rest sig saved errno is how = absurd cc
thread_arrival {code} (ThreadStep.arrives o p {mask = m} {errno = i} {sig = s} {f = f} {locals = locals} {top = g} {rest = gs} unblocked handler takes defers free free' made) e top rest sig saved errno is how =
    let q : begin code f (Arrived s m i) locals ≡ top = cc in let r : Arrived s m i ≡ Arrived sig saved errno = cc in let a : m ≡ saved = cc in let b : i ≡ errno = cc in let c : g ∷ gs ≡ rest = cc in let d : s ≡ sig = cc in
    (sym a, sym b, sym c, subst (λ (n : ℕ). saved n ≡ false) d (subst (λ (x : Mask). x s ≡ false) a unblocked))
thread_arrival (ThreadStep.resumes how' leaves) e top rest sig saved errno is how = absurd cc
thread_arrival {code} (ThreadStep.handles {f = f} {r = r} {locals = locals} fork runs next fits made) e top rest sig saved errno is how = let p : begin code f (Handles r) locals ≡ top = cc in absurd cc
thread_arrival (ThreadStep.handled how' leaves) e top rest sig saved errno is how = absurd cc

process_arrival : {code : Code} {q : Process} {l : Label} {r : Option Process} {new : List Process} → ProcessStep code q l r new → l.kind ≡ Begins → (top : Frame) (rest : List Frame) (sig : ℕ) (saved : Mask) (errno : ℤ)
    → l.after.stack ≡ top ∷ rest → top.how ≡ Arrived sig saved errno → (saved ≡ l.before.mask) × (errno ≡ l.before.errno) × (rest ≡ l.before.stack) × (saved sig ≡ false)
process_arrival (ProcessStep.steps left right s) e top rest sig saved errno is how = thread_arrival s e top rest sig saved errno is how
process_arrival (ProcessStep.starts left right errno' g a c f there is fits arg range made) e top rest sig saved errno on how = absurd cc
process_arrival (ProcessStep.forks left right is at none out) e top rest sig saved errno on how = absurd cc
process_arrival (ProcessStep.thread_ends before after is at none) e top rest sig saved errno on how = absurd cc
process_arrival (ProcessStep.ends has is may) e top rest sig saved errno on how = absurd cc

pub arrivals_keep_mask : ArrivalsKeepMask
arrivals_keep_mask code w w' l top rest sig saved errno (Step.step left right s) e is how = process_arrival s e top rest sig saved errno is how
