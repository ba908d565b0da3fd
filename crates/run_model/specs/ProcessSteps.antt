-- The steps of a process: one of its threads steps, a thread starts or ends, the process is copied or ends (POSIX.1-2017 XSH pthread_create,
-- fork, exec, exit; C11 5.1.2.2.3, 7.22.4).
use Rattle.std.specs.Prelude.{◌≡◌, ◌≢◌, ◌⊎◌, ℕ, ℤ, pos, negsuc, ◌≤ℤ◌, List, [], ◌∷◌, ◌++◌, length, Option, Some, None, Bool, true, false, ◌||◌, nat_lt, Contains}
use Rattle.base_core.specs.declared.id.Pos.{Pos}
use Rattle.base_core.specs.declared.id.Phase.TheVariants.{In0, Finish}
use Rattle.posix_table.specs.declared.kind.Effect.{Effect}
use Rattle.posix_table.specs.declared.kind.Effect.TheVariants as effect
use Rattle.posix_table.specs.declared.kind.ResultKind.TheVariants as result
use Rattle.c_arithmetic.specs.Types.{int}
use Rattle.run_model.specs.Signals.{Mask}
use Rattle.run_model.specs.Kinds.{InRange}
use Rattle.run_model.specs.Values.{Word, Int, Fn, Value, Scalar}
use Rattle.run_model.specs.Objects.{Objects}
use Rattle.run_model.specs.Code.{Code, at, Into, LibraryCall, Library, function, leave_of}
use Rattle.run_model.specs.Signatures.{starts_thread}
use Rattle.run_model.specs.World.{Base, Frame, Thread, Shared, Process, keep}
use Rattle.run_model.specs.Frames.{FrameObjects, give_all, begin, left}
use Rattle.run_model.specs.Arguments.{argument, givens, AreThere}
use Rattle.run_model.specs.Forks.{parents, children, run_after, IsCopying, behind_copy}
use Rattle.run_model.specs.ThreadSteps.{Goes, StepKind, Moves, Ends, thread, with_objects, ThreadStep}

-- who makes a step, and in what surroundings: the process is confined, and has so many live threads
pub record Label : Type 0 where
  pub kind : StepKind
  pub confined : Bool
  pub count : ℕ
  pub shared : Shared
  pub before : Thread
  pub after : Thread

abbrev pub process : Shared → Bool → List Thread → Process
process s confined threads = record { shared = s; confined = confined; threads = threads }

abbrev pub labelled : StepKind → Shared → Bool → List Thread → Thread → Thread → Label
labelled k s confined threads t u = record { kind = k; confined = confined; count = length threads; shared = s; before = t; after = u }

-- the frame comes to In0, with nothing done there
abbrev pub arrived_at : Code → Frame → Pos → Frame
arrived_at code f to = record f { pos = to; vals = keep code to f.vals }

-- the process may end: in exit and its kin and by a successful exec, and in main's exit processing
pub data MayEnd (code : Code) : Pos → Type 0 where
  never : {n : ℕ} {call : LibraryCall} → code.call n ≡ Library call → call.row.result ≡ result.Never → MayEnd code (at n In0)
  exec : {n : ℕ} {call : LibraryCall} → code.call n ≡ Library call → call.row.effect ≡ effect.Exec → MayEnd code (at n In0)
  finish : {n : ℕ} → MayEnd code (at n Finish)

-- the results of fork in the parent and in the child, or of its failure; and the fork handlers that run then
pub data Outcome (forks : Shared) : Value → List Word → Option (List Word) → Type 0 where
  copied : {id : ℤ} → pos 1 ≤ℤ id → InRange int id → Outcome forks (Scalar (Int id)) (parents forks.forks) (Some (children forks.forks))
  failed : Outcome forks (Scalar (Int (negsuc 0))) (parents forks.forks) None
  failed_early : Outcome forks (Scalar (Int (negsuc 0))) [] None

-- a copy has the calling thread alone, and is confined where the parent is or had more than one live thread
abbrev pub copy : Code → Effect → Process → Thread → Frame → List Frame → Option (List Word) → List Process
copy code e q t top rest None = []
copy code e q t top rest (Some ws) =
    process q.shared (q.confined || nat_lt 1 (length q.threads)) (thread t.mask t.errno (behind_copy code top (Scalar (Int (pos 0))) (run_after e ws) ∷ rest) ∷ []) ∷ []

-- a process's step, with the process afterwards (None where it ends) and those that it makes
pub data ProcessStep (code : Code) : Process → Label → Option Process → List Process → Type 0 where
  steps : (left right : List Thread) {a b : Shared} {confined : Bool} {t u : Thread} {k : StepKind}
      → ThreadStep code a t k b u
      → ProcessStep code (process a confined (left ++ t ∷ right)) (labelled k a confined (left ++ t ∷ right) t u) (Some (process b confined (left ++ u ∷ right))) []
  -- into In0 of pthread_create: a thread starts, with its creator's mask and any errno; where none does, the creator goes on by `steps`
  starts : (left right : List Thread) (errno' : ℤ) {a : Shared} {confined : Bool} {mask : Mask} {errno : ℤ} {f : ℕ} {w : Word} {to : Pos} {call : LibraryCall} {locals : ℕ → Option ℕ} {objects : Objects} {top : Frame} {rest : List Frame}
      → Goes code top.pos top.vals to → code.action top.pos to ≡ Into to.node.0
      → code.call to.node.0 ≡ Library call → call.row.effect ≡ effect.Thread → AreThere a (givens call top.vals)
      → argument call top.vals 2 ≡ Scalar (Fn f) → starts_thread code f ≡ true → argument call top.vals 3 ≡ Scalar w → InRange int errno'
      → FrameObjects code f false a.objects locals objects
      → ProcessStep code (process a confined (left ++ thread mask errno (top ∷ rest) ∷ right))
      (labelled Moves a confined (left ++ thread mask errno (top ∷ rest) ∷ right) (thread mask errno (top ∷ rest)) (thread mask errno (arrived_at code top to ∷ rest)))
      (Some (process (with_objects a (give_all locals (function code f).parameters (Scalar w ∷ []) objects)) confined
      (left ++ thread mask errno (arrived_at code top to ∷ rest) ∷ thread mask errno' (begin code f Base locals ∷ []) ∷ right))) []
  -- from In0 to In1 of fork, when the prepare handlers have run
  forks : (left right : List Thread) {a : Shared} {confined : Bool} {mask : Mask} {errno : ℤ} {e : Effect} {v : Value} {ws : List Word} {child : Option (List Word)} {top : Frame} {rest : List Frame}
      → IsCopying code top.pos e → top.pos.phase ≡ In0 → top.to_run ≡ [] → Outcome a v ws child
      → ProcessStep code (process a confined (left ++ thread mask errno (top ∷ rest) ∷ right))
      (labelled Moves a confined (left ++ thread mask errno (top ∷ rest) ∷ right) (thread mask errno (top ∷ rest)) (thread mask errno (behind_copy code top v (run_after e ws) ∷ rest)))
      (Some (process a confined (left ++ thread mask errno (behind_copy code top v (run_after e ws) ∷ rest) ∷ right)))
      (copy code e (process a confined (left ++ thread mask errno (top ∷ rest) ∷ right)) (thread mask errno (top ∷ rest)) top rest child)
  -- the first frame of a thread leaves, and the thread ends; from main's Leave an edge leads on
  thread_ends : (before after : List Thread) {a : Shared} {confined : Bool} {mask : Mask} {errno : ℤ} {top : Frame}
      → top.how ≡ Base → top.pos ≡ leave_of code top.fn → (top.fn ≢ code.main) ⊎ (code.next top.pos ≡ [])
      → ProcessStep code (process a confined (before ++ thread mask errno (top ∷ []) ∷ after))
      (labelled Ends a confined (before ++ thread mask errno (top ∷ []) ∷ after) (thread mask errno (top ∷ [])) (thread mask errno []))
      (Some (process (left code top a) confined (before ++ after))) []
  ends : {q : Process} {t : Thread} {f : Frame} {fs : List Frame} → Contains q.threads t → t.stack ≡ f ∷ fs → MayEnd code f.pos
      → ProcessStep code q (labelled Ends q.shared q.confined q.threads t (record t { stack = [] })) None []
