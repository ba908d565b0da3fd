-- No run of an accepted program breaks a rule.
use Rattle.std.proofs.Common.{[], ◌∷◌, refl, sym, subst}
use Rattle.std.specs.List.{AllByRecursion}
use Rattle.flat_programs.specs.FlatTree.{FlatTree}
use Rattle.flat_programs.specs.FlatCondition.{IsAccepted}
use Rattle.flat_programs.specs.Positions.{body, Main}
use Rattle.flat_programs.specs.World.{Process, World, IsStart}
use Rattle.flat_programs.specs.Steps.{Label, Step, Run, GoesOn}
use Rattle.flat_programs.specs.Breaches.{Breaks, BreaksNone, NoRunBreaksARule}
use Rattle.flat_programs.proofs.Reached.{reaches_first}
use Rattle.flat_programs.proofs.Stacks.{StackOk, DispositionsOk, thread_kept, none_breaks}

pub record ProcessOk (t : FlatTree) (p : Process) : Type 0 where
  pub dispositions : DispositionsOk t p.dispositions
  pub stack : StackOk t p.thread.errno p.thread.stack

abbrev pub WorldOk : FlatTree → World → Type 0
WorldOk t w = AllByRecursion (ProcessOk t) w

pub start_ok : (t : FlatTree) (w : World) → IsStart w → WorldOk t w
start_ok t w start =
    subst (WorldOk t) (sym start.is) (record { dispositions = λ signal f blocked is. absurd cc; stack = (reaches_first (body t Main), refl) }, tt)

pub step_kept : (t : FlatTree) → IsAccepted t → (w : World) (l : Label) (v : World) → Step t w l v → WorldOk t w → WorldOk t v × ¬ Breaks t l
step_kept t accepted w l v (Step.steps {a = a} {b = b} {kind = k} {before = before} {after = after} st) ok =
    let kept = thread_kept t accepted a before k b after st ok.0.dispositions ok.0.stack in
    ((record { dispositions = kept.0; stack = kept.1 }, tt), none_breaks t accepted a before k b after st ok.0.stack kept.1)
step_kept t accepted w l v (Step.ends may) ok = (tt, λ breaks. elim breaks [ ])

goes_on : (t : FlatTree) → IsAccepted t → (w : World) (run : Run) → WorldOk t w → GoesOn t w run → BreaksNone t run
goes_on t accepted w [] ok run = tt
goes_on t accepted w (s ∷ ss) ok run =
    let kept = step_kept t accepted w s.0 s.1 run.0 ok in
    (kept.1, goes_on t accepted s.1 ss kept.0 run.1)

pub sound : NoRunBreaksARule
sound t accepted w run start goes = goes_on t accepted w run (start_ok t w start) goes
