-- Fork and its handlers (POSIX.1-2017 XSH fork, pthread_atfork).
use Rattle.std.specs.Prelude.{◌≡◌, ◌≢◌, pos, List, [], ◌∷◌, ◌++◌, Bool, true, false, cond}
use Rattle.base_core.specs.declared.id.Pos.{Pos}
use Rattle.base_core.specs.declared.id.Phase.TheVariants.{In0, In1}
use Rattle.posix_table.specs.declared.kind.Effect.{Effect}
use Rattle.posix_table.specs.declared.kind.Effect.TheVariants as effect
use Rattle.run_model.specs.Values.{Word, Int, Value, Scalar, Values, update, same_int}
use Rattle.run_model.specs.Code.{Code, LibraryCall, Library, at}
use Rattle.run_model.specs.World.{Role, NoRole, Prepare, Parent, Child, Frame, Registered, keep}
use Rattle.run_model.specs.Places.{Local}
use Rattle.run_model.specs.Arguments.{argument}

-- ---- the handlers that run

-- the prepare handlers, the last registered first
abbrev pub prepares : List Registered → List Word → List Word
prepares [] ws = ws
prepares (r ∷ rs) ws = prepares rs (r.prepare ∷ ws)

-- those of the parent and of the child, in the order of their registration
abbrev pub parents : List Registered → List Word
parents [] = []
parents (r ∷ rs) = r.parent ∷ parents rs

abbrev pub children : List Registered → List Word
children [] = []
children (r ∷ rs) = r.child ∷ children rs

abbrev pub is_null : Word → Bool
is_null (Int i) = same_int i (pos 0)
is_null _ = false

-- those that aren't 0
abbrev pub present : List Word → List Word
present [] = []
present (w ∷ ws) = cond (is_null w) (present ws) (w ∷ present ws)

-- a process is copied by fork, and by `split`, which runs no fork handlers
abbrev pub copies_process : Effect → Bool
copies_process effect.Fork = true
copies_process effect.Split = true
copies_process _ = false

abbrev pub run_after : Effect → List Word → List Word
run_after effect.Split ws = []
run_after _ ws = ws

-- pthread_atfork registers three handlers, or fails
pub data ForksAfter (call : LibraryCall) (l : Local) : Effect → List Registered → Type 0 where
  registers : {a b c : Word} → argument call l.vals 0 ≡ Scalar a → argument call l.vals 1 ≡ Scalar b → argument call l.vals 2 ≡ Scalar c
      → ForksAfter call l effect.Atfork (l.shared.forks ++ record { prepare = a; parent = b; child = c } ∷ [])
  keeps : {e : Effect} → ForksAfter call l e l.shared.forks

-- ---- where a thread stands in fork

-- the frame is in a call that copies the process, with this effect
pub record IsCopying (code : Code) (p : Pos) (e : Effect) : Type 0 where
  pub call : LibraryCall
  pub is : code.call p.node.0 ≡ Library call
  pub effect : call.row.effect ≡ e
  pub copies : copies_process e ≡ true

-- the handlers for this role run here: before the copy, behind it where the result is 0, and where it isn't
abbrev pub RunsAs : Pos → Values → Role → Type 0
RunsAs p vals Prepare = p.phase ≡ In0
RunsAs p vals Child = (p.phase ≡ In1) × (vals p.node.0 ≡ Scalar (Int (pos 0)))
RunsAs p vals Parent = (p.phase ≡ In1) × (vals p.node.0 ≢ Scalar (Int (pos 0)))
RunsAs p vals NoRole = ⊥

-- the frame behind the copy or the failure, with its result and the handlers that are to run
abbrev pub behind_copy : Code → Frame → Value → List Word → Frame
behind_copy code f v ws = record f { pos = at f.pos.node.0 In1; vals = keep code (at f.pos.node.0 In1) (update f.vals f.pos.node.0 v); to_run = present ws }
