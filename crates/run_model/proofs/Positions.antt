-- Each frame stands at a position of its function, and one that another one was called from in its call.
use Rattle.std.proofs.Common.{◌≡◌, ℕ, List, [], ◌∷◌, refl, sym, subst, Bool, true, false}
use Rattle.std.specs.Prelude.{◌&&◌}
use Rattle.std.specs.List.{AllByRecursion}
use Rattle.std.proofs.lemmas.Bool.{and_parts}
use Rattle.base_core.specs.declared.id.Pos.{Pos}
use Rattle.base_core.specs.declared.id.Phase.{Phase}
use Rattle.base_core.specs.declared.id.Phase.TheVariants.{In0, In1}
use Rattle.posix_table.specs.declared.kind.Effect.{Effect}
use Rattle.run_model.specs.Values.{Values}
use Rattle.run_model.specs.Code.{Code, Callee, Named, Through, User, at, is_function}
use Rattle.run_model.specs.Signatures.{takes_signal}
use Rattle.run_model.specs.World.{How, Called, Frame, Thread, Shared, Process, World}
use Rattle.run_model.specs.Forks.{IsCopying}
use Rattle.run_model.specs.Start.{IsStart}
use Rattle.run_model.specs.ThreadSteps.{Goes, Calls, StepKind, ThreadStep}
use Rattle.run_model.specs.Runs.{Run}
use Rattle.run_model.specs.Owed.{IsCode}
use Rattle.run_model.specs.Laws.{InEachWorld, ForEachThread, Stands, FramesStand}
use Rattle.run_model.proofs.Kept.{IsKept, run_keeps}

module _ (code : Code) where
  -- what a frame that began by a call lies on
  abbrev pub LiesOn : How → List Frame → Type 0
  LiesOn Called (f ∷ fs) = (callee : Callee) × (args : List ℕ) × (code.call f.pos.node.0 ≡ User callee args) × (f.pos.phase ≡ In0)
  LiesOn _ _ = Unit {0}

  abbrev pub StackStands : List Frame → Type 0
  StackStands [] = Unit {0}
  StackStands (f ∷ fs) = Stands code f × (LiesOn f.how fs × StackStands fs)

  abbrev pub ThreadStands : Thread → Type 0
  ThreadStands t = StackStands t.stack

first_of_three : (a b c : Bool) → (a && b && c) ≡ true → a ≡ true
first_of_three true b c e = refl
first_of_three false b c e = absurd cc

module _ (code : Code) (is : IsCode code) where
  goes_there : (f : ℕ) (from to : Pos) (vals : Values) → code.has f from ≡ true → Goes code from vals to → code.has f to ≡ true
  goes_there f from to vals h g = subst (λ (p : Pos). code.has f p ≡ true) g.leads (is.edges f from g.edge h g.next)

  called_is_there : (callee : Callee) (n : ℕ) (args : List ℕ) (vals : Values) (f : ℕ) → code.call n ≡ User callee args → Calls code callee vals f → is_function code f ≡ true
  called_is_there (Named g) n args vals f e c = subst (λ (k : ℕ). is_function code k ≡ true) c (is.named n g args e)
  called_is_there (Through m) n args vals f e c = c.2

  -- a position in this phase
  in_phase : (f : ℕ) (p : Pos) (h : Phase) → p.phase ≡ h → code.has f p ≡ true → code.has f (at p.node.0 h) ≡ true
  in_phase f p h e g = subst (λ (k : Phase). code.has f (at p.node.0 k) ≡ true) e g

  takes_there : (f : ℕ) → takes_signal code f ≡ true → is_function code f ≡ true
  takes_there f e = (and_parts (is_function code f) _ e).0

  step_stands : {a b : Shared} {t u : Thread} {k : StepKind} → ThreadStep code a t k b u → ThreadStands code t → ThreadStands code u
  step_stands (ThreadStep.moves {to = to} {top = top} g a) h = (goes_there top.fn top.pos to top.vals h.0 g, h.1)
  step_stands (ThreadStep.calls {f = f} {callee = callee} {args = args} {top = top} phase call calls made passes) h =
      (is.enters f (called_is_there callee top.pos.node.0 args top.vals f call calls), ((callee, args, call, phase), h))
  step_stands (ThreadStep.returns v {caller = caller} {rest = rest} how leaves converts) h =
      let l = subst (λ (w : How). LiesOn code w (caller ∷ rest)) how h.1.0 in
      (is.calls caller.fn caller.pos.node.0 l.0 l.1 l.2 (in_phase caller.fn caller.pos In0 l.3 h.1.1.0), h.1.1.1)
  step_stands (ThreadStep.arrives o p {f = f} unblocked handler takes defers free free' made) h = (is.enters f (takes_there f takes), (tt, h))
  step_stands (ThreadStep.resumes how leaves) h = h.1.1
  step_stands (ThreadStep.handles {f = f} fork runs next fits made) h = (is.enters f (first_of_three (is_function code f) _ _ fits), (tt, (h.0, h.1)))
  step_stands (ThreadStep.handled how leaves) h = h.1.1

  copy_stands : (f : ℕ) (p : Pos) {e : Effect} → IsCopying code p e → p.phase ≡ In0 → code.has f p ≡ true → code.has f (at p.node.0 In1) ≡ true
  copy_stands f p c e h = is.copies f p.node.0 c.call c.is (subst (λ (k : Effect). Rattle.run_model.specs.Forks.copies_process k ≡ true) (sym c.effect) c.copies) (in_phase f p In0 e h)

  stands_is_kept : IsKept code (ThreadStands code)
  stands_is_kept = record {
    steps = λ s h. step_stands s h;
    comes = λ to g h. (goes_there _ _ to _ h.0 g, h.1);
    starts = λ mask errno f locals fits range. (is.enters f (first_of_three (is_function code f) _ _ fits), (tt, tt));
    copies = λ i ws c e range h. (copy_stands _ _ c e h.0, h.1);
  }

  start_stands : (w : World) → IsStart code w → ForEachThread (ThreadStands code) w
  start_stands w s = subst (ForEachThread (ThreadStands code)) (sym s.is) (((is.enters code.main is.main, (tt, tt)), tt), tt)

all_stand : (code : Code) (fs : List Frame) → StackStands code fs → AllByRecursion (Stands code) fs
all_stand code [] h = tt
all_stand code (f ∷ fs) h = (h.0, all_stand code fs h.1.1)

all_maps : {A : Type 0} (P Q : A → Type 0) → ((x : A) → P x → Q x) → (xs : List A) → AllByRecursion P xs → AllByRecursion Q xs
all_maps P Q f [] h = tt
all_maps P Q f (x ∷ xs) h = (f x h.0, all_maps P Q f xs h.1)

world_maps : (P Q : World → Type 0) → ((w : World) → P w → Q w) → (w : World) (run : Run) → InEachWorld P w run → InEachWorld Q w run
world_maps P Q f w [] h = f w h
world_maps P Q f w (s ∷ ss) h = (f w h.0, world_maps P Q f s.1 ss h.1)

threads_map : (P Q : Thread → Type 0) → ((t : Thread) → P t → Q t) → (w : World) → ForEachThread P w → ForEachThread Q w
threads_map P Q f w h = all_maps (λ (q : Process). AllByRecursion P q.threads) (λ (q : Process). AllByRecursion Q q.threads) (λ q. all_maps P Q f q.threads) w h

pub frames_stand : FramesStand
frames_stand code w run is r =
    let standing : Thread → Type 0 = λ t. AllByRecursion (Stands code) t.stack in
    world_maps (ForEachThread (ThreadStands code)) (ForEachThread standing)
    (threads_map (ThreadStands code) standing (λ t h. all_stand code t.stack h)) w run
    (run_keeps code (ThreadStands code) (stands_is_kept code is) w run r.goes (start_stands code is w r.start))
