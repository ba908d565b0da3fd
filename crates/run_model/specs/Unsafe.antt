-- Where a frame is in a function that isn't async-signal-safe, and what its stack says of handlers and fork handlers (POSIX.1-2017 XSH 2.4.3,
-- fork, pthread_atfork).
use Rattle.std.specs.Prelude.{ℕ, List, [], ◌∷◌, Bool, true, false, ◌||◌, ◌&&◌, not, codes}
use Rattle.std.specs.Str.{bytes_eq}
use Rattle.base_core.specs.declared.id.Pos.{Pos}
use Rattle.base_core.specs.declared.id.Phase.{Phase}
use Rattle.base_core.specs.declared.id.Phase.TheVariants.{In0, In1, Finish}
use Rattle.run_model.specs.Code.{Code, CallOf, Library, LibraryCall}
use Rattle.run_model.specs.World.{Role, NoRole, Child, How, Called, Arrived, Handles, Frame, in_handler}

abbrev pub enters_unsafe : CallOf → Phase → Bool
enters_unsafe (Library call) In0 = not call.row.safe
enters_unsafe _ _ = false

-- an unsafe function is entered here
abbrev pub is_unsafe : Code → Pos → Bool
is_unsafe code p = enters_unsafe (code.call p.node.0) p.phase

abbrev pub is_finish : Phase → Bool
is_finish Finish = true
is_finish _ = false

abbrev pub in_unsafe : CallOf → Phase → Bool
in_unsafe (Library call) In0 = not call.row.safe
in_unsafe (Library call) In1 = not call.row.safe
in_unsafe _ _ = false

-- in an unsafe function, or in the exit processing behind main
abbrev pub is_within : Code → Pos → Bool
is_within code p = in_unsafe (code.call p.node.0) p.phase || is_finish p.phase

-- the role of a frame that began as a fork handler, or of the one that called it. An arrival is no call
abbrev pub role_of : How → List Frame → Role
role_of (Handles r) fs = r
role_of Called (f ∷ fs) = role_of f.how fs
role_of _ _ = NoRole

abbrev pub is_a_role : Role → Bool
is_a_role NoRole = false
is_a_role _ = true

abbrev pub is_child : Role → Bool
is_child Child = true
is_child _ = false

-- a frame is in an unsafe function; where fork is one, so are its handlers and what they called
abbrev pub is_interrupted_inside : Code → Frame → List Frame → Bool
is_interrupted_inside code f fs = is_within code f.pos || (code.fork_unsafe && is_a_role (role_of f.how fs))

abbrev pub lies_within : Code → How → List Frame → Bool
lies_within code (Arrived sig saved errno) (f ∷ fs) = is_interrupted_inside code f fs
lies_within code _ _ = false

-- somewhere in the stack the frame of an arrival lies directly on one in an unsafe function or in the exit processing
abbrev pub is_over : Code → List Frame → Bool
is_over code [] = false
is_over code (f ∷ fs) = lies_within code f.how fs || is_over code fs

-- the frame began as a fork handler, or was called by one, of a fork that was called with an arrival below
abbrev pub forks_over : How → List Frame → Bool
forks_over (Handles r) fs = in_handler fs
forks_over Called (f ∷ fs) = forks_over f.how fs
forks_over _ _ = false

abbrev pub is_named : LibraryCall → List ℕ → Bool
is_named call name = bytes_eq call.row.name name

abbrev pub enters : (LibraryCall → Bool) → CallOf → Phase → Bool
enters test (Library call) In0 = test call
enters test _ _ = false

-- a child fork handler may unlock and initialise mutexes
abbrev pub is_repair : Code → Pos → Bool
is_repair code p = enters (λ call. is_named call (codes "pthread_mutex_unlock") || is_named call (codes "pthread_mutex_init")) (code.call p.node.0) p.phase

abbrev pub is_sigprocmask : Code → Pos → Bool
is_sigprocmask code p = enters (λ call. is_named call (codes "sigprocmask")) (code.call p.node.0) p.phase
