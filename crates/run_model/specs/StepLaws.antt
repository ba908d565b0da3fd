-- What holds of single steps: of masks, dispositions, fork handlers, copies and ends.
use Rattle.std.specs.Prelude.{◌≡◌, ◌⊎◌, ℕ, ℤ, List, [], ◌∷◌, ◌++◌, length, Option, None, true, false, ◌||◌, nat_lt, Contains}
use Rattle.std.specs.List.{AllByRecursion}
use Rattle.base_core.specs.Signal.{sigkill, sigstop}
use Rattle.base_core.specs.declared.id.Phase.TheVariants.{In0}
use Rattle.posix_table.specs.declared.kind.ResultKind.TheVariants as result
use Rattle.run_model.specs.Signals.{Mask}
use Rattle.run_model.specs.Code.{Code, LibraryCall, Library, at}
use Rattle.run_model.specs.World.{Arrived, Setter, Disposition, Frame, Thread, Shared, Process, World, Registered}
use Rattle.run_model.specs.Places.{Local}
use Rattle.run_model.specs.Installs.{Installs, has_flag, sa_nodefer, sa_resethand}
use Rattle.run_model.specs.Forks.{prepares, parents, children}
use Rattle.run_model.specs.ThreadSteps.{Begins, Ends}
use Rattle.run_model.specs.ProcessSteps.{Label, ProcessStep}
use Rattle.run_model.specs.Runs.{Step}

-- while a handler runs, what was blocked in its thread is blocked, and what is in sa_mask; and where sigaction set it without SA_NODEFER and
-- SA_RESETHAND, the signal
abbrev pub IsToBlock : Mask → Disposition → (sig k : ℕ) → Type 0
IsToBlock mask d sig k = (mask k ≡ true) ⊎ ((d.mask k ≡ true) ⊎ ((k ≡ sig) × (d.by ≡ Setter.BySigaction) × (has_flag d.flags sa_nodefer ≡ false) × (has_flag d.flags sa_resethand ≡ false)))

abbrev pub HandlersAreMasked : Type 0
HandlersAreMasked = (code : Code) (w w' : World) (l : Label) (top : Frame) (rest : List Frame) (sig : ℕ) (saved : Mask) (errno : ℤ) → Step code w l w' → l.kind ≡ Begins
    → l.after.stack ≡ top ∷ rest → top.how ≡ Arrived sig saved errno → (k : ℕ) → IsToBlock l.before.mask (l.shared.disp sig) sig k → l.after.mask k ≡ true

-- no call sets a disposition of SIGKILL or SIGSTOP
abbrev pub KillIsNotCaught : Type 0
KillIsNotCaught = (call : LibraryCall) (l : Local) (s : Shared) → Installs call l s → (s.disp sigkill ≡ l.shared.disp sigkill) × (s.disp sigstop ≡ l.shared.disp sigstop)

-- the prepare handlers run in the opposite order of their registration, the others in that order
pub record OrderOfForkHandlers : Type 0 where
  pub prepares_last_first : (rs : List Registered) (r : Registered) → prepares (rs ++ r ∷ []) [] ≡ r.prepare ∷ prepares rs []
  pub parents_in_order : (rs : List Registered) (r : Registered) → parents (rs ++ r ∷ []) ≡ parents rs ++ r.parent ∷ []
  pub children_in_order : (rs : List Registered) (r : Registered) → children (rs ++ r ∷ []) ≡ children rs ++ r.child ∷ []

-- a process that is made has one thread, all that its parent shares, and is confined where the parent is or has several threads
pub record IsChild (l : Label) (q : Process) : Type 0 where
  pub alone : length q.threads ≡ 1
  pub shared : q.shared ≡ l.shared
  pub confined : q.confined ≡ (l.confined || nat_lt 1 l.count)

abbrev pub ChildrenAreAlone : Type 0
ChildrenAreAlone = (code : Code) (q : Process) (l : Label) (r : Option Process) (new : List Process) → ProcessStep code q l r new → AllByRecursion (IsChild l) new

-- where a thread is in a function that never returns, as _exit, its process may end there and then: nothing else runs before
pub record HasEnd (code : Code) (q : Process) (t : Thread) : Type 0 where
  pub label : Label
  pub ends : label.kind ≡ Ends
  pub who : label.before ≡ t
  pub step : ProcessStep code q label None []

abbrev pub ExitEnds : Type 0
ExitEnds = (code : Code) (q : Process) (t : Thread) (top : Frame) (rest : List Frame) (n : ℕ) (call : LibraryCall) → Contains q.threads t → t.stack ≡ top ∷ rest → top.pos ≡ at n In0
    → code.call n ≡ Library call → call.row.result ≡ result.Never → HasEnd code q t
