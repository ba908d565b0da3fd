-- Masks, dispositions, fork handlers, copies and ends.
use Rattle.std.proofs.Common.{◌≡◌, ℕ, List, [], ◌∷◌, ◌++◌, refl, sym, subst, ap, Bool, true, false, nat_eq, length, eq-eqb, inl, inr}
use Rattle.std.proofs.lemmas.Bool.{eqb-true}
use Rattle.std.specs.Prelude.{◌⊎◌, ℤ, Option, Some, None, ◌||◌, not}
use Rattle.std.specs.List.{AllByRecursion}
use Rattle.base_core.specs.Signal.{sigkill, sigstop}
use Rattle.posix_table.specs.declared.kind.Effect.{Effect}
use Rattle.run_model.specs.Signals.{Mask, can_be_caught}
use Rattle.run_model.specs.Values.{Word}
use Rattle.run_model.specs.Code.{Code, at}
use Rattle.run_model.specs.World.{Setter, Disposition, Called, Arrived, Handles, Frame, Thread, Shared, Process, Registered}
use Rattle.run_model.specs.Arguments.{argument, signal_of}
use Rattle.run_model.specs.Frames.{begin}
use Rattle.run_model.specs.Arrivals.{Defers, mask_in_handler}
use Rattle.run_model.specs.Installs.{Installs, installed_at, has_flag, sa_nodefer, sa_resethand}
use Rattle.run_model.specs.Forks.{prepares, parents, children}
use Rattle.run_model.specs.ThreadSteps.{StepKind, Begins, thread, ThreadStep}
use Rattle.run_model.specs.ProcessSteps.{Label, labelled, copy, MayEnd, ProcessStep}
use Rattle.run_model.specs.Runs.{Step}
use Rattle.run_model.specs.StepLaws.{IsToBlock, HandlersAreMasked, KillIsNotCaught, OrderOfForkHandlers, IsChild, ChildrenAreAlone, ExitEnds}

-- ---- masks

in_union : (a b : Bool) → (a ≡ true) ⊎ (b ≡ true) → (a || b) ≡ true
in_union a b (inl e) = rw e refl
in_union true b (inr e) = refl
in_union false b (inr e) = e

in_mask : (mask : Mask) (d : Disposition) (sig k : ℕ) (blocks : Bool) → (mask k ≡ true) ⊎ (d.mask k ≡ true) → mask_in_handler mask d sig blocks k ≡ true
in_mask mask d sig k true h = in_union (nat_eq k sig) (mask k || d.mask k) (inr (in_union (mask k) (d.mask k) h))
in_mask mask d sig k false h = in_union (mask k) (d.mask k) h

same_number : (k : ℕ) → nat_eq k k ≡ true
same_number k = eq-eqb k k refl

own_signal : (mask : Mask) (d : Disposition) (sig k : ℕ) {blocks resets : Bool} → Defers sig d blocks resets → k ≡ sig → d.by ≡ Setter.BySigaction → has_flag d.flags sa_nodefer ≡ false → has_flag d.flags sa_resethand ≡ false
    → mask_in_handler mask d sig blocks k ≡ true
own_signal mask d sig k (Defers.signal e) q by n r = absurd cc
own_signal mask d sig k (Defers.plain e f) q by n r =
    let b : not (has_flag d.flags sa_nodefer) ≡ true = ap not n in
    subst (λ (x : Bool). mask_in_handler mask d sig x k ≡ true) (sym b) (in_union (nat_eq k sig) (mask k || d.mask k) (inl (subst (λ (j : ℕ). nat_eq k j ≡ true) q (same_number k))))
own_signal mask d sig k (Defers.resetting e f g) q by n r = absurd (differ _ f r)
  where
    differ : (b : Bool) → b ≡ true → b ≡ false → ⊥
    differ true e f = absurd cc
    differ false e f = absurd cc

thread_masked : {code : Code} {a b : Shared} {t u : Thread} {k : StepKind} → ThreadStep code a t k b u → k ≡ Begins → (top : Frame) (rest : List Frame) (sig : ℕ) (saved : Mask) (errno : ℤ)
    → u.stack ≡ top ∷ rest → top.how ≡ Arrived sig saved errno → (k : ℕ) → IsToBlock t.mask (a.disp sig) sig k → u.mask k ≡ true
thread_masked (ThreadStep.moves g a) e top rest sig saved errno on how k h = absurd cc
thread_masked {code} (ThreadStep.calls {f = f} {locals = locals} phase call calls made passes) e top rest sig saved errno on how k h = let p : begin code f Called locals ≡ top = cc in absurd cc
thread_masked (ThreadStep.returns v how' leaves converts) e top rest sig saved errno on how k h = absurd cc
thread_masked {code} (ThreadStep.arrives o p {a = a} {mask = m} {errno = i} {sig = s} {f = f} {blocks = blocks} {locals = locals} {top = g} {rest = gs} unblocked handler takes defers free free' made) e top rest sig saved errno on how k h =
    let q : begin code f (Arrived s m i) locals ≡ top = cc in let r : Arrived s m i ≡ Arrived sig saved errno = cc in let d : s ≡ sig = cc in
    subst (λ (n : ℕ). IsToBlock m (a.disp n) n k → mask_in_handler m (a.disp s) s blocks k ≡ true) d
    (λ x. elim x [
      | inl y ↦ in_mask m (a.disp s) s k blocks (inl y)
      | inr y ↦ elim y [ inl z ↦ in_mask m (a.disp s) s k blocks (inr z) | inr z ↦ own_signal m (a.disp s) s k defers z.0 z.1 z.2 z.3 ]
    ]) h
thread_masked (ThreadStep.resumes how' leaves) e top rest sig saved errno on how k h = absurd cc
thread_masked {code} (ThreadStep.handles {f = f} {r = r} {locals = locals} fork runs next fits made) e top rest sig saved errno on how k h = let p : begin code f (Handles r) locals ≡ top = cc in absurd cc
thread_masked (ThreadStep.handled how' leaves) e top rest sig saved errno on how k h = absurd cc

process_masked : {code : Code} {q : Process} {l : Label} {r : Option Process} {new : List Process} → ProcessStep code q l r new → l.kind ≡ Begins → (top : Frame) (rest : List Frame) (sig : ℕ) (saved : Mask) (errno : ℤ)
    → l.after.stack ≡ top ∷ rest → top.how ≡ Arrived sig saved errno → (k : ℕ) → IsToBlock l.before.mask (l.shared.disp sig) sig k → l.after.mask k ≡ true
process_masked (ProcessStep.steps left right s) e top rest sig saved errno on how k h = thread_masked s e top rest sig saved errno on how k h
process_masked (ProcessStep.starts left right errno' g a c f there is fits arg range made) e top rest sig saved errno on how k h = absurd cc
process_masked (ProcessStep.forks left right is at none out) e top rest sig saved errno on how k h = absurd cc
process_masked (ProcessStep.thread_ends before after is at none) e top rest sig saved errno on how k h = absurd cc
process_masked (ProcessStep.ends has is may) e top rest sig saved errno on how k h = absurd cc

pub handlers_are_masked : HandlersAreMasked
handlers_are_masked code w w' l top rest sig saved errno (Step.step left right s) e on how k h = process_masked s e top rest sig saved errno on how k h

-- ---- dispositions

set_at : (s : Shared) (k sig : ℕ) (d : Disposition) (b c : Bool) → can_be_caught k ≡ b → nat_eq sig k ≡ c → can_be_caught sig ≡ false → (installed_at s (Some k) d).disp sig ≡ s.disp sig
set_at s k sig d true true e f g = let p : sig ≡ k = eqb-true sig k f in absurd (differ (can_be_caught k) e (subst (λ (n : ℕ). can_be_caught n ≡ false) p g))
  where
    differ : (b : Bool) → b ≡ true → b ≡ false → ⊥
    differ true e f = absurd cc
    differ false e f = absurd cc
set_at s k sig d true false e f g = rw (e, f) refl
set_at s k sig d false c e f g = rw e refl

not_set : (s : Shared) (k : Option ℕ) (sig : ℕ) (d : Disposition) → can_be_caught sig ≡ false → (installed_at s k d).disp sig ≡ s.disp sig
not_set s None sig d g = refl
not_set s (Some k) sig d g = set_at s k sig d (can_be_caught k) (nat_eq sig k) refl refl g

pub kill_is_not_caught : KillIsNotCaught
kill_is_not_caught call l s Installs.nothing = (refl, refl)
kill_is_not_caught call l s (Installs.sets {d} h) =
    (not_set l.shared (signal_of (argument call l.vals 0)) sigkill d refl, not_set l.shared (signal_of (argument call l.vals 0)) sigstop d refl)

-- ---- fork handlers

prepares_onto : (rs : List Registered) (r : Registered) (ws : List Word) → prepares (rs ++ r ∷ []) ws ≡ r.prepare ∷ prepares rs ws
prepares_onto [] r ws = refl
prepares_onto (q ∷ rs) r ws = prepares_onto rs r (q.prepare ∷ ws)

parents_onto : (rs : List Registered) (r : Registered) → parents (rs ++ r ∷ []) ≡ parents rs ++ r.parent ∷ []
parents_onto [] r = refl
parents_onto (q ∷ rs) r = ap (λ (ws : List Word). q.parent ∷ ws) (parents_onto rs r)

children_onto : (rs : List Registered) (r : Registered) → children (rs ++ r ∷ []) ≡ children rs ++ r.child ∷ []
children_onto [] r = refl
children_onto (q ∷ rs) r = ap (λ (ws : List Word). q.child ∷ ws) (children_onto rs r)

pub order_of_fork_handlers : OrderOfForkHandlers
order_of_fork_handlers = record { prepares_last_first = λ rs r. prepares_onto rs r []; parents_in_order = parents_onto; children_in_order = children_onto }

-- ---- copies

the_child : (code : Code) (e : Effect) (q : Process) (t : Thread) (top : Frame) (rest : List Frame) (child : Option (List Word)) (l : Label) → l.shared ≡ q.shared → l.confined ≡ q.confined → l.count ≡ length q.threads
    → AllByRecursion (IsChild l) (copy code e q t top rest child)
the_child code e q t top rest None l s c n = tt
the_child code e q t top rest (Some ws) l s c n = (record { alone = refl; shared = sym s; confined = rw (c, n) refl }, tt)

pub children_are_alone : ChildrenAreAlone
children_are_alone code q l r new (ProcessStep.steps left right s) = tt
children_are_alone code q l r new (ProcessStep.starts left right errno' g a c f there is fits arg range made) = tt
children_are_alone code q l r new (ProcessStep.forks left right {mask = mask} {errno = errno} {e = e} {child = child} {top = top} {rest = rest} is at none out) = the_child code e q (thread mask errno (top ∷ rest)) top rest child l refl refl refl
children_are_alone code q l r new (ProcessStep.thread_ends before after is at none) = tt
children_are_alone code q l r new (ProcessStep.ends has is may) = tt

-- ---- ends

pub exit_ends : ExitEnds
exit_ends code q t top rest n call has on pos is never = record {
  label = labelled StepKind.Ends q.shared q.confined q.threads t (record t { stack = [] });
  ends = refl;
  who = refl;
  step = ProcessStep.ends has on (subst (MayEnd code) (sym pos) (MayEnd.never is never));
}
