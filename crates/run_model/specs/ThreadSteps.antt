-- The steps of one thread: its top frame goes along an edge, a frame begins (a call, an arrival, a fork handler), or the top frame leaves.
use Rattle.std.specs.Prelude.{◌≡◌, ◌≢◌, ℕ, ℤ, pos, List, [], ◌∷◌, Option, Some, None, Bool, true, false, Contains}
use Rattle.std.specs.List.{AllByRecursion}
use Rattle.base_core.specs.declared.id.Pos.{Pos}
use Rattle.base_core.specs.declared.id.Phase.TheVariants.{In0, Leave}
use Rattle.posix_table.specs.declared.kind.Effect.TheVariants as effect
use Rattle.run_model.specs.Signals.{Mask}
use Rattle.run_model.specs.Values.{Word, Int, Fn, Value, Scalar, Values, update}
use Rattle.run_model.specs.Conversions.{Converts}
use Rattle.run_model.specs.Objects.{Objects}
use Rattle.run_model.specs.Code.{Code, at, Guard, Always, Nonzero, Zero, Equal, NoneOf, Edge, Action, Callee, Named, Through, User, Parameter, function, is_function, leave_of}
use Rattle.run_model.specs.Signatures.{takes_signal, handles_fork}
use Rattle.run_model.specs.World.{Role, Called, Arrived, Handles, Frame, Thread, Shared, in_handler, keep}
use Rattle.run_model.specs.Frames.{FrameObjects, give_all, begin, left}
use Rattle.run_model.specs.Places.{Env, Local, env_of, local_of}
use Rattle.run_model.specs.Acts.{Does}
use Rattle.run_model.specs.Arrivals.{Defers, mask_in_handler, after_arrival, arrival_object, with_arrival, values_of_arrival}
use Rattle.run_model.specs.Forks.{IsCopying, RunsAs}
use Rattle.run_model.specs.LibrarySteps.{LibraryDoes}

-- ---- along an edge

abbrev pub IsMet : Guard → Values → Type 0
IsMet Always vals = Unit {0}
IsMet (Nonzero n) vals = vals n ≢ Scalar (Int (pos 0))
IsMet (Zero n) vals = vals n ≡ Scalar (Int (pos 0))
IsMet (Equal n i) vals = vals n ≡ Scalar (Int i)
IsMet (NoneOf n cases) vals = AllByRecursion (λ (i : ℤ). vals n ≢ Scalar (Int i)) cases

-- an edge leads there whose guard the values meet
pub record Goes (code : Code) (from : Pos) (vals : Values) (to : Pos) : Type 0 where
  pub edge : Edge
  pub next : Contains (code.next from) edge
  pub guard : IsMet edge.guard vals
  pub leads : edge.to ≡ to

-- what is done there, within the program or by a library function
pub data Acts (code : Code) (env : Env) : Action → Local → Local → Type 0 where
  program : {a : Action} {l m : Local} → Does code env a l m → Acts code env a l m
  library : {a : Action} {l m : Local} → LibraryDoes code env a l m → Acts code env a l m

abbrev pub goes_on : Code → Local → Frame → Pos → Frame
goes_on code m f to = record f { pos = to; vals = keep code to m.vals; to_run = m.to_run; old = m.old }

-- ---- calls (C11 6.5.2.2)

-- the function that a call calls: one whose type matches
abbrev pub Calls : Code → Callee → Values → ℕ → Type 0
Calls code (Named f) vals g = f ≡ g
Calls code (Through n) vals g = (vals n ≡ Scalar (Fn g)) × (code.matches n g ≡ true) × (is_function code g ≡ true)

-- the arguments' values, converted to the types of the parameters; each parameter is a scalar
pub data Passes (code : Code) (vals : Values) : List ℕ → List Parameter → List Value → Type 0 where
  no_argument : {ps : List Parameter} → Passes code vals [] ps []
  no_parameter : {n : ℕ} {ns : List ℕ} → Passes code vals (n ∷ ns) [] []
  one : {n : ℕ} {ns : List ℕ} {p : Parameter} {ps : List Parameter} {w : Word} {vs : List Value}
      → Converts (code.kind n) p.kind (vals n) (Scalar w) → Passes code vals ns ps vs → Passes code vals (n ∷ ns) (p ∷ ps) (Scalar w ∷ vs)

-- the caller goes to the call's Leave with the result, which is converted to the type of the call
abbrev pub takes_result : Code → Frame → Value → Frame
takes_result code f v = record f { pos = at f.pos.node.0 Leave; vals = keep code (at f.pos.node.0 Leave) (update f.vals f.pos.node.0 v) }

-- ---- steps

-- what kind of step it is
pub data StepKind : Type 0 where
  Moves Begins Leaves Ends : StepKind

abbrev pub thread : Mask → ℤ → List Frame → Thread
thread mask errno stack = record { mask = mask; errno = errno; stack = stack }

abbrev pub with_objects : Shared → Objects → Shared
with_objects s objects = record s { objects = objects }

-- one thread's step, with what is shared before and after it
pub data ThreadStep (code : Code) : Shared → Thread → StepKind → Shared → Thread → Type 0 where
  moves : {a : Shared} {mask : Mask} {errno : ℤ} {to : Pos} {m : Local} {top : Frame} {rest : List Frame}
      → Goes code top.pos top.vals to
      → Acts code (env_of top rest) (code.action top.pos to) (local_of a mask errno top) m
      → ThreadStep code a (thread mask errno (top ∷ rest)) Moves m.shared (thread m.mask m.errno (goes_on code m top to ∷ rest))
  -- a user function is called
  calls : {a : Shared} {mask : Mask} {errno : ℤ} {f : ℕ} {callee : Callee} {args : List ℕ} {vs : List Value} {locals : ℕ → Option ℕ} {objects : Objects} {top : Frame} {rest : List Frame}
      → top.pos.phase ≡ In0 → code.call top.pos.node.0 ≡ User callee args → Calls code callee top.vals f
      → FrameObjects code f (in_handler (top ∷ rest)) a.objects locals objects
      → Passes code top.vals args (function code f).parameters vs
      → ThreadStep code a (thread mask errno (top ∷ rest)) Begins (with_objects a (give_all locals (function code f).parameters vs objects)) (thread mask errno (begin code f Called locals ∷ top ∷ rest))
  -- it returns
  returns : (v : Value) {a : Shared} {mask : Mask} {errno : ℤ} {top caller : Frame} {rest : List Frame}
      → top.how ≡ Called → top.pos ≡ leave_of code top.fn
      → Converts (function code top.fn).result (code.kind caller.pos.node.0) (top.vals (function code top.fn).node) v
      → ThreadStep code a (thread mask errno (top ∷ caller ∷ rest)) Leaves (left code top a) (thread mask errno (takes_result code caller v ∷ rest))
  -- a signal that isn't blocked arrives, at any position
  arrives : (o p : ℕ) {a : Shared} {mask : Mask} {errno : ℤ} {sig f : ℕ} {blocks resets : Bool} {locals : ℕ → Option ℕ} {objects : Objects} {top : Frame} {rest : List Frame}
      → mask sig ≡ false
      → (a.disp sig).handler ≡ Fn f → takes_signal code f ≡ true
      → Defers sig (a.disp sig) blocks resets
      → a.objects o ≡ None → update a.objects o (Some (arrival_object f)) p ≡ None
      → FrameObjects code f true (with_arrival f o p a.objects) locals objects
      → ThreadStep code a (thread mask errno (top ∷ rest)) Begins
      (record a { objects = give_all locals (function code f).parameters (values_of_arrival sig o p) objects; disp = after_arrival a.disp sig resets })
      (thread (mask_in_handler mask (a.disp sig) sig blocks) errno (begin code f (Arrived sig mask errno) locals ∷ top ∷ rest))
  -- the handler returns: the mask is again that from before the arrival, and errno stays as it is
  resumes : {a : Shared} {mask saved : Mask} {errno before : ℤ} {sig : ℕ} {top below : Frame} {rest : List Frame}
      → top.how ≡ Arrived sig saved before → top.pos ≡ leave_of code top.fn
      → ThreadStep code a (thread mask errno (top ∷ below ∷ rest)) Leaves (left code top a) (thread saved errno (below ∷ rest))
  -- the next fork handler begins
  handles : {a : Shared} {mask : Mask} {errno : ℤ} {f : ℕ} {r : Role} {ws : List Word} {locals : ℕ → Option ℕ} {objects : Objects} {top : Frame} {rest : List Frame}
      → IsCopying code top.pos effect.Fork → RunsAs top.pos top.vals r
      → top.to_run ≡ Fn f ∷ ws → handles_fork code f ≡ true
      → FrameObjects code f (in_handler (top ∷ rest)) a.objects locals objects
      → ThreadStep code a (thread mask errno (top ∷ rest)) Begins (with_objects a objects) (thread mask errno (begin code f (Handles r) locals ∷ record top { to_run = ws } ∷ rest))
  -- it returns
  handled : {a : Shared} {mask : Mask} {errno : ℤ} {r : Role} {top below : Frame} {rest : List Frame}
      → top.how ≡ Handles r → top.pos ≡ leave_of code top.fn
      → ThreadStep code a (thread mask errno (top ∷ below ∷ rest)) Leaves (left code top a) (thread mask errno (below ∷ rest))
