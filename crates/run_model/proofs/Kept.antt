-- What each step of a thread keeps holds in each world of a run, of each thread.
use Rattle.std.proofs.Common.{◌≡◌, ℕ, List, [], ◌∷◌, ◌++◌, refl, sym, subst, true}
use Rattle.std.specs.Prelude.{Option, Some, None, ℤ, pos, negsuc}
use Rattle.std.specs.List.{AllByRecursion}
use Rattle.base_core.specs.declared.id.Pos.{Pos}
use Rattle.base_core.specs.declared.id.Phase.TheVariants.{In0}
use Rattle.posix_table.specs.declared.kind.Effect.{Effect}
use Rattle.c_arithmetic.specs.Types.{int}
use Rattle.run_model.specs.Signals.{Mask}
use Rattle.run_model.specs.Kinds.{InRange}
use Rattle.run_model.specs.Values.{Word, Int, Value, Scalar}
use Rattle.run_model.specs.Code.{Code}
use Rattle.run_model.specs.Signatures.{starts_thread}
use Rattle.run_model.specs.World.{Base, Frame, Thread, Shared, Process, World}
use Rattle.run_model.specs.Frames.{begin}
use Rattle.run_model.specs.Forks.{IsCopying, behind_copy, run_after}
use Rattle.run_model.specs.ThreadSteps.{Goes, StepKind, thread, ThreadStep}
use Rattle.run_model.specs.ProcessSteps.{Outcome, copy, process, arrived_at, Label, ProcessStep}
use Rattle.run_model.specs.Runs.{list_of, Step, Run, GoesOn}
use Rattle.run_model.specs.Laws.{ForEachThread, InEachWorld}
use Rattle.run_model.proofs.Lists.{all_append, all_front, all_back}

pub record IsKept (code : Code) (P : Thread → Type 0) : Type 0 where
  pub steps : {a b : Shared} {t u : Thread} {k : StepKind} → ThreadStep code a t k b u → P t → P u
  pub comes : {mask : Mask} {errno : ℤ} {top : Frame} {rest : List Frame} (to : Pos) → Goes code top.pos top.vals to → P (thread mask errno (top ∷ rest)) → P (thread mask errno (arrived_at code top to ∷ rest))
  pub starts : (mask : Mask) (errno : ℤ) (f : ℕ) (locals : ℕ → Option ℕ) → starts_thread code f ≡ true → InRange int errno → P (thread mask errno (begin code f Base locals ∷ []))
  pub copies : {mask : Mask} {errno : ℤ} {top : Frame} {rest : List Frame} {e : Effect} (i : ℤ) (ws : List Word) → IsCopying code top.pos e → top.pos.phase ≡ In0 → InRange int i
      → P (thread mask errno (top ∷ rest)) → P (thread mask errno (behind_copy code top (Scalar (Int i)) ws ∷ rest))

module _ (code : Code) (P : Thread → Type 0) (kept : IsKept code P) where
  -- a thread in the middle goes on
  stepped : (left right : List Thread) (t u : Thread) → (P t → P u) → AllByRecursion P (left ++ t ∷ right) → AllByRecursion P (left ++ u ∷ right)
  stepped left right t u step h =
      let b = all_back P left (t ∷ right) h in all_append P left (u ∷ right) (all_front P left (t ∷ right) h) (step b.0, b.1)

  -- and another one comes behind it
  joined : (left right : List Thread) (t u v : Thread) → (P t → P u) → P v → AllByRecursion P (left ++ t ∷ right) → AllByRecursion P (left ++ u ∷ v ∷ right)
  joined left right t u v step new h =
      let b = all_back P left (t ∷ right) h in all_append P left (u ∷ v ∷ right) (all_front P left (t ∷ right) h) (step b.0, (new, b.1))

  lost : (before after : List Thread) (t : Thread) → AllByRecursion P (before ++ t ∷ after) → AllByRecursion P (before ++ after)
  lost before after t h = all_append P before after (all_front P before (t ∷ after) h) (all_back P before (t ∷ after) h).1

  middle : (left right : List Thread) (t : Thread) → AllByRecursion P (left ++ t ∷ right) → P t
  middle left right t h = (all_back P left (t ∷ right) h).0

  abbrev pub OfOption : Option Process → Type 0
  OfOption None = Unit {0}
  OfOption (Some q) = AllByRecursion P q.threads

  abbrev pub OfProcess : Process → Type 0
  OfProcess q = AllByRecursion P q.threads

  of_outcome : {s : Shared} {v : Value} {ws : List Word} {child : Option (List Word)} → Outcome s v ws child → (i : ℤ) × InRange int i × (v ≡ Scalar (Int i))
  of_outcome (Outcome.copied {id} p q) = (id, q, refl)
  of_outcome Outcome.failed = (negsuc 0, refl, refl)
  of_outcome Outcome.failed_early = (negsuc 0, refl, refl)

  copied_frame : (mask : Mask) (errno : ℤ) (top : Frame) (rest : List Frame) {e : Effect} (ws : List Word) (v : Value) → IsCopying code top.pos e → top.pos.phase ≡ In0 → ((i : ℤ) × InRange int i × (v ≡ Scalar (Int i)))
      → P (thread mask errno (top ∷ rest)) → P (thread mask errno (behind_copy code top v ws ∷ rest))
  copied_frame mask errno top rest ws v is at g h = subst (λ (w : Value). P (thread mask errno (behind_copy code top w ws ∷ rest))) (sym g.2) (kept.copies g.0 ws is at g.1 h)

  the_copy : (e : Effect) (q : Process) (mask : Mask) (errno : ℤ) (top : Frame) (rest : List Frame) (child : Option (List Word)) → IsCopying code top.pos e → top.pos.phase ≡ In0
      → P (thread mask errno (top ∷ rest)) → AllByRecursion OfProcess (copy code e q (thread mask errno (top ∷ rest)) top rest child)
  the_copy e q mask errno top rest None is at h = tt
  the_copy e q mask errno top rest (Some ws) is at h = ((kept.copies (pos 0) (run_after e ws) is at refl h, tt), tt)

  pub process_keeps : {q : Process} {l : Label} {r : Option Process} {new : List Process} → ProcessStep code q l r new → AllByRecursion P q.threads → OfOption r × AllByRecursion OfProcess new
  process_keeps (ProcessStep.steps left right {t = t} {u = u} s) h = (stepped left right t u (kept.steps s) h, tt)
  process_keeps (ProcessStep.starts left right errno' {mask = mask} {errno = errno} {f = f} {to = to} {locals = locals} {top = top} {rest = rest} g a c e there is fits arg range made) h =
      (joined left right (thread mask errno (top ∷ rest)) (thread mask errno (arrived_at code top to ∷ rest)) (thread mask errno' (begin code f Base locals ∷ [])) (kept.comes to g) (kept.starts mask errno' f locals fits range) h, tt)
  process_keeps (ProcessStep.forks left right {a = a} {confined = confined} {mask = mask} {errno = errno} {e = e} {v = v} {ws = ws} {child = child} {top = top} {rest = rest} is at none out) h = (
    stepped left right (thread mask errno (top ∷ rest)) (thread mask errno (behind_copy code top v (run_after e ws) ∷ rest)) (copied_frame mask errno top rest (run_after e ws) v is at (of_outcome out)) h,
    the_copy e (process a confined (left ++ thread mask errno (top ∷ rest) ∷ right)) mask errno top rest child is at (middle left right (thread mask errno (top ∷ rest)) h),
  )
  process_keeps (ProcessStep.thread_ends before after {mask = mask} {errno = errno} {top = top} is at none) h = (lost before after (thread mask errno (top ∷ [])) h, tt)
  process_keeps (ProcessStep.ends has is may) h = (tt, tt)

  of_list : (r : Option Process) → OfOption r → AllByRecursion OfProcess (list_of r)
  of_list None h = tt
  of_list (Some q) h = (h, tt)

  pub step_keeps : {w w' : World} {l : Label} → Step code w l w' → ForEachThread P w → ForEachThread P w'
  step_keeps (Step.step left right {new} {q} {r} s) h =
      let b = all_back OfProcess left (q ∷ right) h in
      let k = process_keeps s b.0 in
      all_append OfProcess left (list_of r ++ (new ++ right)) (all_front OfProcess left (q ∷ right) h)
      (all_append OfProcess (list_of r) (new ++ right) (of_list r k.0) (all_append OfProcess new right k.1 b.1))

  pub run_keeps : (w : World) (run : Run) → GoesOn code w run → ForEachThread P w → InEachWorld (ForEachThread P) w run
  run_keeps w [] g h = h
  run_keeps w (s ∷ ss) g h = (h, run_keeps s.1 ss g.1 (step_keeps g.0 h))
