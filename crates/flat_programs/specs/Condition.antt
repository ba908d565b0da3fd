-- The condition on handlers, as tests.
use Rattle.std.specs.Prelude.{ℕ, List, [], ◌∷◌, length, Bool, true, false, not, ◌&&◌, ◌||◌, ◌==◌}
use Rattle.base_core.specs.Signal.{sigkill, sigstop}
use Rattle.flat_programs.specs.declared.flat.LibraryFunction.{LibraryFunction}
use Rattle.flat_programs.specs.declared.flat.LibraryFunction.TheVariants.{Abort, Getpid, Pause, Rand}
use Rattle.flat_programs.specs.declared.flat.Statement.{Statement}
use Rattle.flat_programs.specs.declared.flat.Statement.TheVariants.{Call, Install}
use Rattle.flat_programs.specs.FlatTree.{HandlerTree}

abbrev pub aborts_first : List LibraryFunction → Bool
aborts_first [] = false
aborts_first (Abort ∷ fs) = true
aborts_first (Rand ∷ fs) = false
aborts_first (Getpid ∷ fs) = aborts_first fs
aborts_first (Pause ∷ fs) = aborts_first fs

abbrev pub is_safe : List LibraryFunction → Bool
is_safe calls = (length calls == 0) || aborts_first calls

abbrev pub is_installed : List Statement → ℕ → Bool
is_installed [] name = false
is_installed (Call Abort ∷ ss) name = false
is_installed (Call Getpid ∷ ss) name = is_installed ss name
is_installed (Call Pause ∷ ss) name = is_installed ss name
is_installed (Call Rand ∷ ss) name = is_installed ss name
is_installed (Install signal handler ∷ ss) name = ((handler == name) && (not (signal == sigkill) && not (signal == sigstop))) || is_installed ss name

abbrev pub are_safe : List Statement → List HandlerTree → Bool
are_safe statements [] = true
are_safe statements (h ∷ hs) = not (is_installed statements h.name && not (is_safe h.calls)) && are_safe statements hs
