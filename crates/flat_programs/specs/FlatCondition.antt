-- The condition on the handlers of a flat program under which no run breaks a rule.
use Rattle.std.specs.Prelude.{◌≡◌, ℕ, List, [], ◌∷◌, Contains}
use Rattle.base_core.specs.Signal.{CanBeCaught}
use Rattle.flat_programs.specs.declared.flat.LibraryFunction.{LibraryFunction}
use Rattle.flat_programs.specs.declared.flat.LibraryFunction.TheVariants.{Abort, Getpid, Pause, Rand}
use Rattle.flat_programs.specs.declared.flat.Statement.{Statement}
use Rattle.flat_programs.specs.declared.flat.Statement.TheVariants.{Call, Install}
use Rattle.flat_programs.specs.FlatTree.{HandlerTree, FlatTree}

-- the calls of a body that are reached: none stands behind a call of abort, which doesn't return
abbrev pub reached_calls : List LibraryFunction → List LibraryFunction
reached_calls [] = []
reached_calls (Abort ∷ fs) = Abort ∷ []
reached_calls (Getpid ∷ fs) = Getpid ∷ reached_calls fs
reached_calls (Pause ∷ fs) = Pause ∷ reached_calls fs
reached_calls (Rand ∷ fs) = Rand ∷ reached_calls fs

-- the statements of main that are reached
abbrev pub reached_statements : List Statement → List Statement
reached_statements [] = []
reached_statements (Call Abort ∷ ss) = Call Abort ∷ []
reached_statements (Call Getpid ∷ ss) = Call Getpid ∷ reached_statements ss
reached_statements (Call Pause ∷ ss) = Call Pause ∷ reached_statements ss
reached_statements (Call Rand ∷ ss) = Call Rand ∷ reached_statements ss
reached_statements (Install signal handler ∷ ss) = Install signal handler ∷ reached_statements ss

-- a reached statement installs the handler of this name for a signal that can be caught
pub record IsInstalled (t : FlatTree) (handler : ℕ) : Type 0 where
  pub signal : ℕ
  pub caught : CanBeCaught signal
  pub reached : Contains (reached_statements t.statements) (Install signal handler)

-- a handler's calls keep the rules whenever it runs: none that is reached is rand, which is not async-signal-safe, and a
-- handler that returns calls nothing, since a call may change errno (POSIX.1-2017 XSH 2.4.3)
pub record IsSafeHandler (calls : List LibraryFunction) : Type 0 where
  pub no_rand : ¬ Contains (reached_calls calls) Rand
  pub no_call : ¬ Contains calls Abort → calls ≡ []

-- each installed handler is safe
abbrev pub IsAccepted : FlatTree → Type 0
IsAccepted t = (h : HandlerTree) → Contains t.handlers h → IsInstalled t h.name → IsSafeHandler h.calls
