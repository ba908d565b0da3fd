-- The runs of the examples, step by step.
use Rattle.std.proofs.Common.{◌≡◌, ℕ, List, [], ◌∷◌, refl, sym, subst, Bool, true, false}
use Rattle.std.specs.Prelude.{pos, codes}
use Rattle.base_core.specs.declared.id.Phase.TheVariants.{In0, Leave, Finish}
use Rattle.base_core.specs.declared.rules.Rule.TheVariants.{U, S, E, F, A, M, R}
use Rattle.base_core.specs.declared.rules.Rules.TheVariants.{Usual, Later}
use Rattle.run_model.specs.Signals.{no_signal}
use Rattle.run_model.specs.Values.{Int, Scalar, NoValue, zero_word}
use Rattle.run_model.specs.Code.{Static, at, function, Constant, Take, Read}
use Rattle.run_model.specs.World.{World, Prepare, Child}
use Rattle.run_model.specs.Objects.{OfWord, Stores}
use Rattle.run_model.specs.Frames.{Makes, no_locals}
use Rattle.run_model.specs.Start.{Begins, AllBegin, static_objects, start_process, IsStart}
use Rattle.run_model.specs.Expressions.{Evaluates}
use Rattle.run_model.specs.Acts.{Closes, Does}
use Rattle.run_model.specs.LibraryWrites.{Writes}
use Rattle.run_model.specs.Masks.{MaskAfter}
use Rattle.run_model.specs.Installs.{Sets, Installs}
use Rattle.run_model.specs.Forks.{ForksAfter}
use Rattle.run_model.specs.LibrarySteps.{Enters, Results, LibraryDoes}
use Rattle.run_model.specs.Arrivals.{Defers}
use Rattle.run_model.specs.ThreadSteps.{Passes, Acts, ThreadStep}
use Rattle.run_model.specs.ProcessSteps.{Outcome, ProcessStep}
use Rattle.run_model.specs.Runs.{Step}
use Rattle.run_model.specs.Outlines.{Outline, program, HasRun}
use Rattle.run_model.specs.Examples.{sigint, sigsegv, rand, getpid, close_call, wtermsig, sigprocmask, pthread_sigmask, one_handler, two_handlers, writes_static, with_argument, helper_assigns, forks_and_calls, spawns_and_calls, fork_handler, child_handler, mutex_call, interrupted_fork_handler, fork_later, split, masks, RunsThatBreakARule, RunsThatBreakNone}
use Rattle.run_model.proofs.Paths.{Path, run_of, goes_of, along, false_true, int_pointer, not_zero, is_value, apart}

-- main begins with nothing blocked and with errno 0
abbrev start : Outline → World
start o = start_process (program o) no_signal (pos 0) (pos 1) no_locals (static_objects (program o) []) ∷ []

starts : (o : Outline) → o.statics ≡ [] → (function (program o) 0).locals ≡ [] → IsStart (program o) (start o)
starts o e f = record {
  mask = no_signal;
  errno = pos 0;
  argc = pos 1;
  contents = [];
  locals = no_locals;
  objects = static_objects (program o) [];
  errno_range = refl;
  argc_range = refl;
  begins = subst (λ (ss : List Static). AllBegin (program o) ss []) (sym e) AllBegin.none;
  fresh = subst (λ (vs : List ℕ). Makes (program o) false vs (static_objects (program o) []) no_locals (static_objects (program o) [])) (sym f) Makes.none;
  is = refl;
}

abbrev start_with_zero : Outline → World
start_with_zero o = start_process (program o) no_signal (pos 0) (pos 1) no_locals (static_objects (program o) (OfWord zero_word ∷ [])) ∷ []

starts_with_zero : (flag : Bool) → IsStart (program (writes_static flag)) (start_with_zero (writes_static flag))
starts_with_zero flag = record {
  mask = no_signal;
  errno = pos 0;
  argc = pos 1;
  contents = OfWord zero_word ∷ [];
  locals = no_locals;
  objects = _;
  errno_range = refl;
  argc_range = refl;
  begins = AllBegin.one (Begins.zero_scalar refl) AllBegin.none;
  fresh = Makes.none;
  is = refl;
}

path_rand_in_exit : Path (program (one_handler sigint rand)) (start (one_handler sigint rand))
path_rand_in_exit =
    Path.then (Step.step [] [] (ProcessStep.steps [] [] (ThreadStep.moves (along (at 2 Leave) refl) (Acts.program (Does.takes_value Evaluates.constant))))) (
    Path.then (Step.step [] [] (ProcessStep.steps [] [] (ThreadStep.moves (along (at 3 Leave) refl) (Acts.program (Does.takes_value Evaluates.function))))) (
    Path.then (Step.step [] [] (ProcessStep.steps [] [] (ThreadStep.moves (along (at 4 In0) refl) (Acts.library (LibraryDoes.enters refl ((λ e o f. absurd (false_true e)), ((λ e o f. absurd (false_true e)), tt)) (Enters.installs (Installs.sets (Sets.by_signal refl refl)))))))) (
    Path.then (Step.step [] [] (ProcessStep.steps [] [] (ThreadStep.moves (along (at 4 Leave) refl) (Acts.library (LibraryDoes.leaves refl refl ((λ e o f. absurd (false_true e)), ((λ e o f. absurd (false_true e)), tt)) (record { written = _; shared = _; mask = _; errno = pos 0; forks = _; v = _; writes = (Writes.skips refl (Writes.skips refl Writes.done)); results = Results.old; masks = MaskAfter.other (apart _ _ refl) (apart _ _ refl); errors = refl; registers = ForksAfter.keeps; is = refl })))))) (
    Path.then (Step.step [] [] (ProcessStep.steps [] [] (ThreadStep.moves (along (at 1 Leave) refl) (Acts.program (Does.closes (Closes.main refl)))))) (
    Path.then (Step.step [] [] (ProcessStep.steps [] [] (ThreadStep.moves (along (at 1 Finish) refl) (Acts.program (Does.passes))))) (
    Path.then (Step.step [] [] (ProcessStep.steps [] [] (ThreadStep.arrives 100 101 {sig = 9} {f = 1} {blocks = true} {resets = false} refl refl refl (Defers.signal refl) refl refl Makes.none))) (
    Path.then (Step.step [] [] (ProcessStep.steps [] [] (ThreadStep.moves (along (at 11 In0) refl) (Acts.library (LibraryDoes.enters refl tt (Enters.other (apart _ _ refl) (apart _ _ refl) (apart _ _ refl))))))) (
    Path.stop))))))))

pub rand_in_exit : HasRun (one_handler sigint rand) Usual 8 (U ∷ [])
unfolding path_rand_in_exit
rand_in_exit = record { first = start (one_handler sigint rand); run = run_of path_rand_in_exit; is = record { start = starts (one_handler sigint rand) refl refl; goes = goes_of path_rand_in_exit }; long = refl; breaks = refl }

path_getpid_in_exit : Path (program (one_handler sigint getpid)) (start (one_handler sigint getpid))
path_getpid_in_exit =
    Path.then (Step.step [] [] (ProcessStep.steps [] [] (ThreadStep.moves (along (at 2 Leave) refl) (Acts.program (Does.takes_value Evaluates.constant))))) (
    Path.then (Step.step [] [] (ProcessStep.steps [] [] (ThreadStep.moves (along (at 3 Leave) refl) (Acts.program (Does.takes_value Evaluates.function))))) (
    Path.then (Step.step [] [] (ProcessStep.steps [] [] (ThreadStep.moves (along (at 4 In0) refl) (Acts.library (LibraryDoes.enters refl ((λ e o f. absurd (false_true e)), ((λ e o f. absurd (false_true e)), tt)) (Enters.installs (Installs.sets (Sets.by_signal refl refl)))))))) (
    Path.then (Step.step [] [] (ProcessStep.steps [] [] (ThreadStep.moves (along (at 4 Leave) refl) (Acts.library (LibraryDoes.leaves refl refl ((λ e o f. absurd (false_true e)), ((λ e o f. absurd (false_true e)), tt)) (record { written = _; shared = _; mask = _; errno = pos 0; forks = _; v = _; writes = (Writes.skips refl (Writes.skips refl Writes.done)); results = Results.old; masks = MaskAfter.other (apart _ _ refl) (apart _ _ refl); errors = refl; registers = ForksAfter.keeps; is = refl })))))) (
    Path.then (Step.step [] [] (ProcessStep.steps [] [] (ThreadStep.moves (along (at 1 Leave) refl) (Acts.program (Does.closes (Closes.main refl)))))) (
    Path.then (Step.step [] [] (ProcessStep.steps [] [] (ThreadStep.moves (along (at 1 Finish) refl) (Acts.program (Does.passes))))) (
    Path.then (Step.step [] [] (ProcessStep.steps [] [] (ThreadStep.arrives 100 101 {sig = 9} {f = 1} {blocks = true} {resets = false} refl refl refl (Defers.signal refl) refl refl Makes.none))) (
    Path.then (Step.step [] [] (ProcessStep.steps [] [] (ThreadStep.moves (along (at 11 In0) refl) (Acts.library (LibraryDoes.enters refl tt (Enters.other (apart _ _ refl) (apart _ _ refl) (apart _ _ refl))))))) (
    Path.stop))))))))

pub getpid_in_exit : HasRun (one_handler sigint getpid) Usual 8 []
unfolding path_getpid_in_exit
getpid_in_exit = record { first = start (one_handler sigint getpid); run = run_of path_getpid_in_exit; is = record { start = starts (one_handler sigint getpid) refl refl; goes = goes_of path_getpid_in_exit }; long = refl; breaks = refl }

path_rand_in_helper_of_nested_handler : Path (program (two_handlers rand)) (start (two_handlers rand))
path_rand_in_helper_of_nested_handler =
    Path.then (Step.step [] [] (ProcessStep.steps [] [] (ThreadStep.moves (along (at 2 Leave) refl) (Acts.program (Does.takes_value Evaluates.constant))))) (
    Path.then (Step.step [] [] (ProcessStep.steps [] [] (ThreadStep.moves (along (at 3 Leave) refl) (Acts.program (Does.takes_value Evaluates.function))))) (
    Path.then (Step.step [] [] (ProcessStep.steps [] [] (ThreadStep.moves (along (at 4 In0) refl) (Acts.library (LibraryDoes.enters refl ((λ e o f. absurd (false_true e)), ((λ e o f. absurd (false_true e)), tt)) (Enters.installs (Installs.sets (Sets.by_signal refl refl)))))))) (
    Path.then (Step.step [] [] (ProcessStep.steps [] [] (ThreadStep.moves (along (at 4 Leave) refl) (Acts.library (LibraryDoes.leaves refl refl ((λ e o f. absurd (false_true e)), ((λ e o f. absurd (false_true e)), tt)) (record { written = _; shared = _; mask = _; errno = pos 0; forks = _; v = _; writes = (Writes.skips refl (Writes.skips refl Writes.done)); results = Results.old; masks = MaskAfter.other (apart _ _ refl) (apart _ _ refl); errors = refl; registers = ForksAfter.keeps; is = refl })))))) (
    Path.then (Step.step [] [] (ProcessStep.steps [] [] (ThreadStep.moves (along (at 5 Leave) refl) (Acts.program (Does.takes_value Evaluates.constant))))) (
    Path.then (Step.step [] [] (ProcessStep.steps [] [] (ThreadStep.moves (along (at 6 Leave) refl) (Acts.program (Does.takes_value Evaluates.function))))) (
    Path.then (Step.step [] [] (ProcessStep.steps [] [] (ThreadStep.moves (along (at 7 In0) refl) (Acts.library (LibraryDoes.enters refl ((λ e o f. absurd (false_true e)), ((λ e o f. absurd (false_true e)), tt)) (Enters.installs (Installs.sets (Sets.by_signal refl refl)))))))) (
    Path.then (Step.step [] [] (ProcessStep.steps [] [] (ThreadStep.moves (along (at 7 Leave) refl) (Acts.library (LibraryDoes.leaves refl refl ((λ e o f. absurd (false_true e)), ((λ e o f. absurd (false_true e)), tt)) (record { written = _; shared = _; mask = _; errno = pos 0; forks = _; v = _; writes = (Writes.skips refl (Writes.skips refl Writes.done)); results = Results.old; masks = MaskAfter.other (apart _ _ refl) (apart _ _ refl); errors = refl; registers = ForksAfter.keeps; is = refl })))))) (
    Path.then (Step.step [] [] (ProcessStep.steps [] [] (ThreadStep.moves (along (at 1 Leave) refl) (Acts.program (Does.closes (Closes.main refl)))))) (
    Path.then (Step.step [] [] (ProcessStep.steps [] [] (ThreadStep.moves (along (at 1 Finish) refl) (Acts.program (Does.passes))))) (
    Path.then (Step.step [] [] (ProcessStep.steps [] [] (ThreadStep.arrives 100 101 {sig = 9} {f = 1} {blocks = true} {resets = false} refl refl refl (Defers.signal refl) refl refl Makes.none))) (
    Path.then (Step.step [] [] (ProcessStep.steps [] [] (ThreadStep.arrives 102 103 {sig = 18} {f = 2} {blocks = true} {resets = false} refl refl refl (Defers.signal refl) refl refl Makes.none))) (
    Path.then (Step.step [] [] (ProcessStep.steps [] [] (ThreadStep.moves (along (at 21 In0) refl) (Acts.program (Does.passes))))) (
    Path.then (Step.step [] [] (ProcessStep.steps [] [] (ThreadStep.calls refl refl refl Makes.none Passes.no_argument))) (
    Path.then (Step.step [] [] (ProcessStep.steps [] [] (ThreadStep.moves (along (at 31 In0) refl) (Acts.library (LibraryDoes.enters refl tt (Enters.other (apart _ _ refl) (apart _ _ refl) (apart _ _ refl))))))) (
    Path.stop)))))))))))))))

pub rand_in_helper_of_nested_handler : HasRun (two_handlers rand) Usual 15 (U ∷ [])
unfolding path_rand_in_helper_of_nested_handler
rand_in_helper_of_nested_handler = record { first = start (two_handlers rand); run = run_of path_rand_in_helper_of_nested_handler; is = record { start = starts (two_handlers rand) refl refl; goes = goes_of path_rand_in_helper_of_nested_handler }; long = refl; breaks = refl }

path_getpid_in_helper_of_nested_handler : Path (program (two_handlers getpid)) (start (two_handlers getpid))
path_getpid_in_helper_of_nested_handler =
    Path.then (Step.step [] [] (ProcessStep.steps [] [] (ThreadStep.moves (along (at 2 Leave) refl) (Acts.program (Does.takes_value Evaluates.constant))))) (
    Path.then (Step.step [] [] (ProcessStep.steps [] [] (ThreadStep.moves (along (at 3 Leave) refl) (Acts.program (Does.takes_value Evaluates.function))))) (
    Path.then (Step.step [] [] (ProcessStep.steps [] [] (ThreadStep.moves (along (at 4 In0) refl) (Acts.library (LibraryDoes.enters refl ((λ e o f. absurd (false_true e)), ((λ e o f. absurd (false_true e)), tt)) (Enters.installs (Installs.sets (Sets.by_signal refl refl)))))))) (
    Path.then (Step.step [] [] (ProcessStep.steps [] [] (ThreadStep.moves (along (at 4 Leave) refl) (Acts.library (LibraryDoes.leaves refl refl ((λ e o f. absurd (false_true e)), ((λ e o f. absurd (false_true e)), tt)) (record { written = _; shared = _; mask = _; errno = pos 0; forks = _; v = _; writes = (Writes.skips refl (Writes.skips refl Writes.done)); results = Results.old; masks = MaskAfter.other (apart _ _ refl) (apart _ _ refl); errors = refl; registers = ForksAfter.keeps; is = refl })))))) (
    Path.then (Step.step [] [] (ProcessStep.steps [] [] (ThreadStep.moves (along (at 5 Leave) refl) (Acts.program (Does.takes_value Evaluates.constant))))) (
    Path.then (Step.step [] [] (ProcessStep.steps [] [] (ThreadStep.moves (along (at 6 Leave) refl) (Acts.program (Does.takes_value Evaluates.function))))) (
    Path.then (Step.step [] [] (ProcessStep.steps [] [] (ThreadStep.moves (along (at 7 In0) refl) (Acts.library (LibraryDoes.enters refl ((λ e o f. absurd (false_true e)), ((λ e o f. absurd (false_true e)), tt)) (Enters.installs (Installs.sets (Sets.by_signal refl refl)))))))) (
    Path.then (Step.step [] [] (ProcessStep.steps [] [] (ThreadStep.moves (along (at 7 Leave) refl) (Acts.library (LibraryDoes.leaves refl refl ((λ e o f. absurd (false_true e)), ((λ e o f. absurd (false_true e)), tt)) (record { written = _; shared = _; mask = _; errno = pos 0; forks = _; v = _; writes = (Writes.skips refl (Writes.skips refl Writes.done)); results = Results.old; masks = MaskAfter.other (apart _ _ refl) (apart _ _ refl); errors = refl; registers = ForksAfter.keeps; is = refl })))))) (
    Path.then (Step.step [] [] (ProcessStep.steps [] [] (ThreadStep.moves (along (at 1 Leave) refl) (Acts.program (Does.closes (Closes.main refl)))))) (
    Path.then (Step.step [] [] (ProcessStep.steps [] [] (ThreadStep.moves (along (at 1 Finish) refl) (Acts.program (Does.passes))))) (
    Path.then (Step.step [] [] (ProcessStep.steps [] [] (ThreadStep.arrives 100 101 {sig = 9} {f = 1} {blocks = true} {resets = false} refl refl refl (Defers.signal refl) refl refl Makes.none))) (
    Path.then (Step.step [] [] (ProcessStep.steps [] [] (ThreadStep.arrives 102 103 {sig = 18} {f = 2} {blocks = true} {resets = false} refl refl refl (Defers.signal refl) refl refl Makes.none))) (
    Path.then (Step.step [] [] (ProcessStep.steps [] [] (ThreadStep.moves (along (at 21 In0) refl) (Acts.program (Does.passes))))) (
    Path.then (Step.step [] [] (ProcessStep.steps [] [] (ThreadStep.calls refl refl refl Makes.none Passes.no_argument))) (
    Path.then (Step.step [] [] (ProcessStep.steps [] [] (ThreadStep.moves (along (at 31 In0) refl) (Acts.library (LibraryDoes.enters refl tt (Enters.other (apart _ _ refl) (apart _ _ refl) (apart _ _ refl))))))) (
    Path.stop)))))))))))))))

pub getpid_in_helper_of_nested_handler : HasRun (two_handlers getpid) Usual 15 []
unfolding path_getpid_in_helper_of_nested_handler
getpid_in_helper_of_nested_handler = record { first = start (two_handlers getpid); run = run_of path_getpid_in_helper_of_nested_handler; is = record { start = starts (two_handlers getpid) refl refl; goes = goes_of path_getpid_in_helper_of_nested_handler }; long = refl; breaks = refl }

path_static_assigned : Path (program (writes_static false)) (start_with_zero (writes_static false))
path_static_assigned =
    Path.then (Step.step [] [] (ProcessStep.steps [] [] (ThreadStep.moves (along (at 2 Leave) refl) (Acts.program (Does.takes_value Evaluates.constant))))) (
    Path.then (Step.step [] [] (ProcessStep.steps [] [] (ThreadStep.moves (along (at 3 Leave) refl) (Acts.program (Does.takes_value Evaluates.function))))) (
    Path.then (Step.step [] [] (ProcessStep.steps [] [] (ThreadStep.moves (along (at 4 In0) refl) (Acts.library (LibraryDoes.enters refl ((λ e o f. absurd (false_true e)), ((λ e o f. absurd (false_true e)), tt)) (Enters.installs (Installs.sets (Sets.by_signal refl refl)))))))) (
    Path.then (Step.step [] [] (ProcessStep.steps [] [] (ThreadStep.moves (along (at 4 Leave) refl) (Acts.library (LibraryDoes.leaves refl refl ((λ e o f. absurd (false_true e)), ((λ e o f. absurd (false_true e)), tt)) (record { written = _; shared = _; mask = _; errno = pos 0; forks = _; v = _; writes = (Writes.skips refl (Writes.skips refl Writes.done)); results = Results.old; masks = MaskAfter.other (apart _ _ refl) (apart _ _ refl); errors = refl; registers = ForksAfter.keeps; is = refl })))))) (
    Path.then (Step.step [] [] (ProcessStep.steps [] [] (ThreadStep.arrives 100 101 {sig = 9} {f = 1} {blocks = true} {resets = false} refl refl refl (Defers.signal refl) refl refl Makes.none))) (
    Path.then (Step.step [] [] (ProcessStep.steps [] [] (ThreadStep.moves (along (at 12 Leave) refl) (Acts.program (Does.designates refl))))) (
    Path.then (Step.step [] [] (ProcessStep.steps [] [] (ThreadStep.moves (along (at 13 Leave) refl) (Acts.program (Does.takes_value Evaluates.constant))))) (
    Path.then (Step.step [] [] (ProcessStep.steps [] [] (ThreadStep.moves (along (at 11 Leave) refl) (Acts.program (Does.assigns refl (record { found = refl; alive = refl }) refl refl (Stores.word refl)))))) (
    Path.stop))))))))

pub static_assigned : HasRun (writes_static false) Usual 8 (S ∷ [])
unfolding path_static_assigned
static_assigned = record { first = start_with_zero (writes_static false); run = run_of path_static_assigned; is = record { start = starts_with_zero false; goes = goes_of path_static_assigned }; long = refl; breaks = refl }

path_flag_assigned : Path (program (writes_static true)) (start_with_zero (writes_static true))
path_flag_assigned =
    Path.then (Step.step [] [] (ProcessStep.steps [] [] (ThreadStep.moves (along (at 2 Leave) refl) (Acts.program (Does.takes_value Evaluates.constant))))) (
    Path.then (Step.step [] [] (ProcessStep.steps [] [] (ThreadStep.moves (along (at 3 Leave) refl) (Acts.program (Does.takes_value Evaluates.function))))) (
    Path.then (Step.step [] [] (ProcessStep.steps [] [] (ThreadStep.moves (along (at 4 In0) refl) (Acts.library (LibraryDoes.enters refl ((λ e o f. absurd (false_true e)), ((λ e o f. absurd (false_true e)), tt)) (Enters.installs (Installs.sets (Sets.by_signal refl refl)))))))) (
    Path.then (Step.step [] [] (ProcessStep.steps [] [] (ThreadStep.moves (along (at 4 Leave) refl) (Acts.library (LibraryDoes.leaves refl refl ((λ e o f. absurd (false_true e)), ((λ e o f. absurd (false_true e)), tt)) (record { written = _; shared = _; mask = _; errno = pos 0; forks = _; v = _; writes = (Writes.skips refl (Writes.skips refl Writes.done)); results = Results.old; masks = MaskAfter.other (apart _ _ refl) (apart _ _ refl); errors = refl; registers = ForksAfter.keeps; is = refl })))))) (
    Path.then (Step.step [] [] (ProcessStep.steps [] [] (ThreadStep.arrives 100 101 {sig = 9} {f = 1} {blocks = true} {resets = false} refl refl refl (Defers.signal refl) refl refl Makes.none))) (
    Path.then (Step.step [] [] (ProcessStep.steps [] [] (ThreadStep.moves (along (at 12 Leave) refl) (Acts.program (Does.designates refl))))) (
    Path.then (Step.step [] [] (ProcessStep.steps [] [] (ThreadStep.moves (along (at 13 Leave) refl) (Acts.program (Does.takes_value Evaluates.constant))))) (
    Path.then (Step.step [] [] (ProcessStep.steps [] [] (ThreadStep.moves (along (at 11 Leave) refl) (Acts.program (Does.assigns refl (record { found = refl; alive = refl }) refl refl (Stores.word refl)))))) (
    Path.stop))))))))

pub flag_assigned : HasRun (writes_static true) Usual 8 []
unfolding path_flag_assigned
flag_assigned = record { first = start_with_zero (writes_static true); run = run_of path_flag_assigned; is = record { start = starts_with_zero true; goes = goes_of path_flag_assigned }; long = refl; breaks = refl }

path_errno_changed : Path (program (with_argument sigint close_call)) (start (with_argument sigint close_call))
path_errno_changed =
    Path.then (Step.step [] [] (ProcessStep.steps [] [] (ThreadStep.moves (along (at 2 Leave) refl) (Acts.program (Does.takes_value Evaluates.constant))))) (
    Path.then (Step.step [] [] (ProcessStep.steps [] [] (ThreadStep.moves (along (at 3 Leave) refl) (Acts.program (Does.takes_value Evaluates.function))))) (
    Path.then (Step.step [] [] (ProcessStep.steps [] [] (ThreadStep.moves (along (at 4 In0) refl) (Acts.library (LibraryDoes.enters refl ((λ e o f. absurd (false_true e)), ((λ e o f. absurd (false_true e)), tt)) (Enters.installs (Installs.sets (Sets.by_signal refl refl)))))))) (
    Path.then (Step.step [] [] (ProcessStep.steps [] [] (ThreadStep.moves (along (at 4 Leave) refl) (Acts.library (LibraryDoes.leaves refl refl ((λ e o f. absurd (false_true e)), ((λ e o f. absurd (false_true e)), tt)) (record { written = _; shared = _; mask = _; errno = pos 0; forks = _; v = _; writes = (Writes.skips refl (Writes.skips refl Writes.done)); results = Results.old; masks = MaskAfter.other (apart _ _ refl) (apart _ _ refl); errors = refl; registers = ForksAfter.keeps; is = refl })))))) (
    Path.then (Step.step [] [] (ProcessStep.steps [] [] (ThreadStep.arrives 100 101 {sig = 9} {f = 1} {blocks = true} {resets = false} refl refl refl (Defers.signal refl) refl refl Makes.none))) (
    Path.then (Step.step [] [] (ProcessStep.steps [] [] (ThreadStep.moves (along (at 12 Leave) refl) (Acts.program (Does.takes_value Evaluates.constant))))) (
    Path.then (Step.step [] [] (ProcessStep.steps [] [] (ThreadStep.moves (along (at 11 In0) refl) (Acts.library (LibraryDoes.enters refl ((λ e o f. absurd (false_true e)), tt) (Enters.other (apart _ _ refl) (apart _ _ refl) (apart _ _ refl))))))) (
    Path.then (Step.step [] [] (ProcessStep.steps [] [] (ThreadStep.moves (along (at 11 Leave) refl) (Acts.library (LibraryDoes.leaves refl refl ((λ e o f. absurd (false_true e)), tt) (record { written = _; shared = _; mask = _; errno = pos 1; forks = _; v = _; writes = (Writes.skips refl Writes.done); results = Results.integer {i = pos 0} refl; masks = MaskAfter.other (apart _ _ refl) (apart _ _ refl); errors = refl; registers = ForksAfter.keeps; is = refl })))))) (
    Path.then (Step.step [] [] (ProcessStep.steps [] [] (ThreadStep.moves (along (at 10 Leave) refl) (Acts.program (Does.closes (Closes.other (not_zero 0) refl)))))) (
    Path.then (Step.step [] [] (ProcessStep.steps [] [] (ThreadStep.resumes refl refl))) (
    Path.stop))))))))))

pub errno_changed : HasRun (with_argument sigint close_call) Usual 10 (E ∷ [])
unfolding path_errno_changed
errno_changed = record { first = start (with_argument sigint close_call); run = run_of path_errno_changed; is = record { start = starts (with_argument sigint close_call) refl refl; goes = goes_of path_errno_changed }; long = refl; breaks = refl }

path_errno_left : Path (program (with_argument sigint wtermsig)) (start (with_argument sigint wtermsig))
path_errno_left =
    Path.then (Step.step [] [] (ProcessStep.steps [] [] (ThreadStep.moves (along (at 2 Leave) refl) (Acts.program (Does.takes_value Evaluates.constant))))) (
    Path.then (Step.step [] [] (ProcessStep.steps [] [] (ThreadStep.moves (along (at 3 Leave) refl) (Acts.program (Does.takes_value Evaluates.function))))) (
    Path.then (Step.step [] [] (ProcessStep.steps [] [] (ThreadStep.moves (along (at 4 In0) refl) (Acts.library (LibraryDoes.enters refl ((λ e o f. absurd (false_true e)), ((λ e o f. absurd (false_true e)), tt)) (Enters.installs (Installs.sets (Sets.by_signal refl refl)))))))) (
    Path.then (Step.step [] [] (ProcessStep.steps [] [] (ThreadStep.moves (along (at 4 Leave) refl) (Acts.library (LibraryDoes.leaves refl refl ((λ e o f. absurd (false_true e)), ((λ e o f. absurd (false_true e)), tt)) (record { written = _; shared = _; mask = _; errno = pos 0; forks = _; v = _; writes = (Writes.skips refl (Writes.skips refl Writes.done)); results = Results.old; masks = MaskAfter.other (apart _ _ refl) (apart _ _ refl); errors = refl; registers = ForksAfter.keeps; is = refl })))))) (
    Path.then (Step.step [] [] (ProcessStep.steps [] [] (ThreadStep.arrives 100 101 {sig = 9} {f = 1} {blocks = true} {resets = false} refl refl refl (Defers.signal refl) refl refl Makes.none))) (
    Path.then (Step.step [] [] (ProcessStep.steps [] [] (ThreadStep.moves (along (at 12 Leave) refl) (Acts.program (Does.takes_value Evaluates.constant))))) (
    Path.then (Step.step [] [] (ProcessStep.steps [] [] (ThreadStep.moves (along (at 11 In0) refl) (Acts.library (LibraryDoes.enters refl ((λ e o f. absurd (false_true e)), tt) (Enters.other (apart _ _ refl) (apart _ _ refl) (apart _ _ refl))))))) (
    Path.then (Step.step [] [] (ProcessStep.steps [] [] (ThreadStep.moves (along (at 11 Leave) refl) (Acts.library (LibraryDoes.leaves refl refl ((λ e o f. absurd (false_true e)), tt) (record { written = _; shared = _; mask = _; errno = pos 0; forks = _; v = _; writes = (Writes.skips refl Writes.done); results = Results.integer {i = pos 0} refl; masks = MaskAfter.other (apart _ _ refl) (apart _ _ refl); errors = refl; registers = ForksAfter.keeps; is = refl })))))) (
    Path.then (Step.step [] [] (ProcessStep.steps [] [] (ThreadStep.moves (along (at 10 Leave) refl) (Acts.program (Does.closes (Closes.other (not_zero 0) refl)))))) (
    Path.then (Step.step [] [] (ProcessStep.steps [] [] (ThreadStep.resumes refl refl))) (
    Path.stop))))))))))

pub errno_left : HasRun (with_argument sigint wtermsig) Usual 10 []
unfolding path_errno_left
errno_left = record { first = start (with_argument sigint wtermsig); run = run_of path_errno_left; is = record { start = starts (with_argument sigint wtermsig) refl refl; goes = goes_of path_errno_left }; long = refl; breaks = refl }

path_fault_handler_returns : Path (program (with_argument sigsegv wtermsig)) (start (with_argument sigsegv wtermsig))
path_fault_handler_returns =
    Path.then (Step.step [] [] (ProcessStep.steps [] [] (ThreadStep.moves (along (at 2 Leave) refl) (Acts.program (Does.takes_value Evaluates.constant))))) (
    Path.then (Step.step [] [] (ProcessStep.steps [] [] (ThreadStep.moves (along (at 3 Leave) refl) (Acts.program (Does.takes_value Evaluates.function))))) (
    Path.then (Step.step [] [] (ProcessStep.steps [] [] (ThreadStep.moves (along (at 4 In0) refl) (Acts.library (LibraryDoes.enters refl ((λ e o f. absurd (false_true e)), ((λ e o f. absurd (false_true e)), tt)) (Enters.installs (Installs.sets (Sets.by_signal refl refl)))))))) (
    Path.then (Step.step [] [] (ProcessStep.steps [] [] (ThreadStep.moves (along (at 4 Leave) refl) (Acts.library (LibraryDoes.leaves refl refl ((λ e o f. absurd (false_true e)), ((λ e o f. absurd (false_true e)), tt)) (record { written = _; shared = _; mask = _; errno = pos 0; forks = _; v = _; writes = (Writes.skips refl (Writes.skips refl Writes.done)); results = Results.old; masks = MaskAfter.other (apart _ _ refl) (apart _ _ refl); errors = refl; registers = ForksAfter.keeps; is = refl })))))) (
    Path.then (Step.step [] [] (ProcessStep.steps [] [] (ThreadStep.arrives 100 101 {sig = 15} {f = 1} {blocks = true} {resets = false} refl refl refl (Defers.signal refl) refl refl Makes.none))) (
    Path.then (Step.step [] [] (ProcessStep.steps [] [] (ThreadStep.moves (along (at 12 Leave) refl) (Acts.program (Does.takes_value Evaluates.constant))))) (
    Path.then (Step.step [] [] (ProcessStep.steps [] [] (ThreadStep.moves (along (at 11 In0) refl) (Acts.library (LibraryDoes.enters refl ((λ e o f. absurd (false_true e)), tt) (Enters.other (apart _ _ refl) (apart _ _ refl) (apart _ _ refl))))))) (
    Path.then (Step.step [] [] (ProcessStep.steps [] [] (ThreadStep.moves (along (at 11 Leave) refl) (Acts.library (LibraryDoes.leaves refl refl ((λ e o f. absurd (false_true e)), tt) (record { written = _; shared = _; mask = _; errno = pos 0; forks = _; v = _; writes = (Writes.skips refl Writes.done); results = Results.integer {i = pos 0} refl; masks = MaskAfter.other (apart _ _ refl) (apart _ _ refl); errors = refl; registers = ForksAfter.keeps; is = refl })))))) (
    Path.then (Step.step [] [] (ProcessStep.steps [] [] (ThreadStep.moves (along (at 10 Leave) refl) (Acts.program (Does.closes (Closes.other (not_zero 0) refl)))))) (
    Path.then (Step.step [] [] (ProcessStep.steps [] [] (ThreadStep.resumes refl refl))) (
    Path.stop))))))))))

pub fault_handler_returns : HasRun (with_argument sigsegv wtermsig) Usual 10 (R ∷ [])
unfolding path_fault_handler_returns
fault_handler_returns = record { first = start (with_argument sigsegv wtermsig); run = run_of path_fault_handler_returns; is = record { start = starts (with_argument sigsegv wtermsig) refl refl; goes = goes_of path_fault_handler_returns }; long = refl; breaks = refl }

path_errno_changed_by_helper : Path (program (helper_assigns (Take 33 (Constant (pos 1))))) (start (helper_assigns (Take 33 (Constant (pos 1)))))
path_errno_changed_by_helper =
    Path.then (Step.step [] [] (ProcessStep.steps [] [] (ThreadStep.moves (along (at 2 Leave) refl) (Acts.program (Does.takes_value Evaluates.constant))))) (
    Path.then (Step.step [] [] (ProcessStep.steps [] [] (ThreadStep.moves (along (at 3 Leave) refl) (Acts.program (Does.takes_value Evaluates.function))))) (
    Path.then (Step.step [] [] (ProcessStep.steps [] [] (ThreadStep.moves (along (at 4 In0) refl) (Acts.library (LibraryDoes.enters refl ((λ e o f. absurd (false_true e)), ((λ e o f. absurd (false_true e)), tt)) (Enters.installs (Installs.sets (Sets.by_signal refl refl)))))))) (
    Path.then (Step.step [] [] (ProcessStep.steps [] [] (ThreadStep.moves (along (at 4 Leave) refl) (Acts.library (LibraryDoes.leaves refl refl ((λ e o f. absurd (false_true e)), ((λ e o f. absurd (false_true e)), tt)) (record { written = _; shared = _; mask = _; errno = pos 0; forks = _; v = _; writes = (Writes.skips refl (Writes.skips refl Writes.done)); results = Results.old; masks = MaskAfter.other (apart _ _ refl) (apart _ _ refl); errors = refl; registers = ForksAfter.keeps; is = refl })))))) (
    Path.then (Step.step [] [] (ProcessStep.steps [] [] (ThreadStep.arrives 100 101 {sig = 9} {f = 1} {blocks = true} {resets = false} refl refl refl (Defers.signal refl) refl refl Makes.none))) (
    Path.then (Step.step [] [] (ProcessStep.steps [] [] (ThreadStep.moves (along (at 21 In0) refl) (Acts.program (Does.passes))))) (
    Path.then (Step.step [] [] (ProcessStep.steps [] [] (ThreadStep.calls refl refl refl Makes.none Passes.no_argument))) (
    Path.then (Step.step [] [] (ProcessStep.steps [] [] (ThreadStep.moves (along (at 32 Leave) refl) (Acts.program (Does.designates refl))))) (
    Path.then (Step.step [] [] (ProcessStep.steps [] [] (ThreadStep.moves (along (at 33 Leave) refl) (Acts.program (Does.takes_value Evaluates.constant))))) (
    Path.then (Step.step [] [] (ProcessStep.steps [] [] (ThreadStep.moves (along (at 31 Leave) refl) (Acts.program (Does.assigns_errno _ refl refl refl refl))))) (
    Path.then (Step.step [] [] (ProcessStep.steps [] [] (ThreadStep.moves (along (at 30 Leave) refl) (Acts.program (Does.closes (Closes.other (not_zero 1) refl)))))) (
    Path.then (Step.step [] [] (ProcessStep.steps [] [] (ThreadStep.returns (NoValue) refl refl refl))) (
    Path.then (Step.step [] [] (ProcessStep.steps [] [] (ThreadStep.moves (along (at 10 Leave) refl) (Acts.program (Does.closes (Closes.other (not_zero 0) refl)))))) (
    Path.then (Step.step [] [] (ProcessStep.steps [] [] (ThreadStep.resumes refl refl))) (
    Path.stop))))))))))))))

pub errno_changed_by_helper : HasRun (helper_assigns (Take 33 (Constant (pos 1)))) Usual 14 (E ∷ [])
unfolding path_errno_changed_by_helper
errno_changed_by_helper = record { first = start (helper_assigns (Take 33 (Constant (pos 1)))); run = run_of path_errno_changed_by_helper; is = record { start = starts (helper_assigns (Take 33 (Constant (pos 1)))) refl refl; goes = goes_of path_errno_changed_by_helper }; long = refl; breaks = refl }

path_errno_kept_by_helper : Path (program (helper_assigns (Read 33))) (start (helper_assigns (Read 33)))
path_errno_kept_by_helper =
    Path.then (Step.step [] [] (ProcessStep.steps [] [] (ThreadStep.moves (along (at 2 Leave) refl) (Acts.program (Does.takes_value Evaluates.constant))))) (
    Path.then (Step.step [] [] (ProcessStep.steps [] [] (ThreadStep.moves (along (at 3 Leave) refl) (Acts.program (Does.takes_value Evaluates.function))))) (
    Path.then (Step.step [] [] (ProcessStep.steps [] [] (ThreadStep.moves (along (at 4 In0) refl) (Acts.library (LibraryDoes.enters refl ((λ e o f. absurd (false_true e)), ((λ e o f. absurd (false_true e)), tt)) (Enters.installs (Installs.sets (Sets.by_signal refl refl)))))))) (
    Path.then (Step.step [] [] (ProcessStep.steps [] [] (ThreadStep.moves (along (at 4 Leave) refl) (Acts.library (LibraryDoes.leaves refl refl ((λ e o f. absurd (false_true e)), ((λ e o f. absurd (false_true e)), tt)) (record { written = _; shared = _; mask = _; errno = pos 0; forks = _; v = _; writes = (Writes.skips refl (Writes.skips refl Writes.done)); results = Results.old; masks = MaskAfter.other (apart _ _ refl) (apart _ _ refl); errors = refl; registers = ForksAfter.keeps; is = refl })))))) (
    Path.then (Step.step [] [] (ProcessStep.steps [] [] (ThreadStep.arrives 100 101 {sig = 9} {f = 1} {blocks = true} {resets = false} refl refl refl (Defers.signal refl) refl refl Makes.none))) (
    Path.then (Step.step [] [] (ProcessStep.steps [] [] (ThreadStep.moves (along (at 21 In0) refl) (Acts.program (Does.passes))))) (
    Path.then (Step.step [] [] (ProcessStep.steps [] [] (ThreadStep.calls refl refl refl Makes.none Passes.no_argument))) (
    Path.then (Step.step [] [] (ProcessStep.steps [] [] (ThreadStep.moves (along (at 32 Leave) refl) (Acts.program (Does.designates refl))))) (
    Path.then (Step.step [] [] (ProcessStep.steps [] [] (ThreadStep.moves (along (at 33 Leave) refl) (Acts.program (Does.reads_errno refl))))) (
    Path.then (Step.step [] [] (ProcessStep.steps [] [] (ThreadStep.moves (along (at 31 Leave) refl) (Acts.program (Does.assigns_errno _ refl refl refl refl))))) (
    Path.then (Step.step [] [] (ProcessStep.steps [] [] (ThreadStep.moves (along (at 30 Leave) refl) (Acts.program (Does.closes (Closes.other (not_zero 1) refl)))))) (
    Path.then (Step.step [] [] (ProcessStep.steps [] [] (ThreadStep.returns (NoValue) refl refl refl))) (
    Path.then (Step.step [] [] (ProcessStep.steps [] [] (ThreadStep.moves (along (at 10 Leave) refl) (Acts.program (Does.closes (Closes.other (not_zero 0) refl)))))) (
    Path.then (Step.step [] [] (ProcessStep.steps [] [] (ThreadStep.resumes refl refl))) (
    Path.stop))))))))))))))

pub errno_kept_by_helper : HasRun (helper_assigns (Read 33)) Usual 14 []
unfolding path_errno_kept_by_helper
errno_kept_by_helper = record { first = start (helper_assigns (Read 33)); run = run_of path_errno_kept_by_helper; is = record { start = starts (helper_assigns (Read 33)) refl refl; goes = goes_of path_errno_kept_by_helper }; long = refl; breaks = refl }

path_rand_in_child : Path (program (forks_and_calls rand)) (start (forks_and_calls rand))
path_rand_in_child =
    Path.then (Step.step [] [] (ProcessStep.steps [] [] (ThreadStep.moves (along (at 40 Leave) refl) (Acts.program (Does.takes_value Evaluates.constant))))) (
    Path.then (Step.step [] [] (ProcessStep.steps [] [] (ThreadStep.moves (along (at 41 Leave) refl) (Acts.program (Does.takes_value Evaluates.constant))))) (
    Path.then (Step.step [] [] (ProcessStep.steps [] [] (ThreadStep.moves (along (at 42 Leave) refl) (Acts.program (Does.takes_value Evaluates.function))))) (
    Path.then (Step.step [] [] (ProcessStep.steps [] [] (ThreadStep.moves (along (at 43 Leave) refl) (Acts.program (Does.takes_value Evaluates.constant))))) (
    Path.then (Step.step [] [] (ProcessStep.starts [] [] (pos 0) (along (at 44 In0) refl) refl refl refl ((λ e o f. absurd (int_pointer _ o f)), ((λ e o f. absurd (false_true e)), ((λ e o f. absurd (false_true e)), ((λ e o f. absurd (false_true e)), tt)))) refl refl refl refl Makes.none)) (
    Path.then (Step.step [] [] (ProcessStep.steps [] (_ ∷ []) (ThreadStep.moves (along (at 44 Leave) refl) (Acts.library (LibraryDoes.leaves refl refl ((λ e o f. absurd (int_pointer _ o f)), ((λ e o f. absurd (false_true e)), ((λ e o f. absurd (false_true e)), ((λ e o f. absurd (false_true e)), tt)))) (record { written = _; shared = _; mask = _; errno = pos 0; forks = _; v = _; writes = (Writes.skips refl (Writes.skips refl (Writes.skips refl (Writes.skips refl Writes.done)))); results = Results.integer {i = pos 0} refl; masks = MaskAfter.other (apart _ _ refl) (apart _ _ refl); errors = refl; registers = ForksAfter.keeps; is = refl })))))) (
    Path.then (Step.step [] [] (ProcessStep.steps [] (_ ∷ []) (ThreadStep.moves (along (at 20 In0) refl) (Acts.library (LibraryDoes.enters refl tt Enters.forks))))) (
    Path.then (Step.step [] [] (ProcessStep.forks [] (_ ∷ []) (record { call = _; is = refl; effect = refl; copies = refl }) refl refl (Outcome.copied {id = pos 7} (record { le = tt }) refl))) (
    Path.then (Step.step (_ ∷ []) [] (ProcessStep.steps [] [] (ThreadStep.moves (along (at 20 Leave) refl) (Acts.library (LibraryDoes.forked {e = pos 0} refl refl))))) (
    Path.then (Step.step (_ ∷ []) [] (ProcessStep.steps [] [] (ThreadStep.moves (along (at 21 In0) refl) (Acts.library (LibraryDoes.enters refl tt (Enters.other (apart _ _ refl) (apart _ _ refl) (apart _ _ refl))))))) (
    Path.stop))))))))))

pub rand_in_child : HasRun (forks_and_calls rand) Usual 10 (F ∷ [])
unfolding path_rand_in_child
rand_in_child = record { first = start (forks_and_calls rand); run = run_of path_rand_in_child; is = record { start = starts (forks_and_calls rand) refl refl; goes = goes_of path_rand_in_child }; long = refl; breaks = refl }

path_getpid_in_child : Path (program (forks_and_calls getpid)) (start (forks_and_calls getpid))
path_getpid_in_child =
    Path.then (Step.step [] [] (ProcessStep.steps [] [] (ThreadStep.moves (along (at 40 Leave) refl) (Acts.program (Does.takes_value Evaluates.constant))))) (
    Path.then (Step.step [] [] (ProcessStep.steps [] [] (ThreadStep.moves (along (at 41 Leave) refl) (Acts.program (Does.takes_value Evaluates.constant))))) (
    Path.then (Step.step [] [] (ProcessStep.steps [] [] (ThreadStep.moves (along (at 42 Leave) refl) (Acts.program (Does.takes_value Evaluates.function))))) (
    Path.then (Step.step [] [] (ProcessStep.steps [] [] (ThreadStep.moves (along (at 43 Leave) refl) (Acts.program (Does.takes_value Evaluates.constant))))) (
    Path.then (Step.step [] [] (ProcessStep.starts [] [] (pos 0) (along (at 44 In0) refl) refl refl refl ((λ e o f. absurd (int_pointer _ o f)), ((λ e o f. absurd (false_true e)), ((λ e o f. absurd (false_true e)), ((λ e o f. absurd (false_true e)), tt)))) refl refl refl refl Makes.none)) (
    Path.then (Step.step [] [] (ProcessStep.steps [] (_ ∷ []) (ThreadStep.moves (along (at 44 Leave) refl) (Acts.library (LibraryDoes.leaves refl refl ((λ e o f. absurd (int_pointer _ o f)), ((λ e o f. absurd (false_true e)), ((λ e o f. absurd (false_true e)), ((λ e o f. absurd (false_true e)), tt)))) (record { written = _; shared = _; mask = _; errno = pos 0; forks = _; v = _; writes = (Writes.skips refl (Writes.skips refl (Writes.skips refl (Writes.skips refl Writes.done)))); results = Results.integer {i = pos 0} refl; masks = MaskAfter.other (apart _ _ refl) (apart _ _ refl); errors = refl; registers = ForksAfter.keeps; is = refl })))))) (
    Path.then (Step.step [] [] (ProcessStep.steps [] (_ ∷ []) (ThreadStep.moves (along (at 20 In0) refl) (Acts.library (LibraryDoes.enters refl tt Enters.forks))))) (
    Path.then (Step.step [] [] (ProcessStep.forks [] (_ ∷ []) (record { call = _; is = refl; effect = refl; copies = refl }) refl refl (Outcome.copied {id = pos 7} (record { le = tt }) refl))) (
    Path.then (Step.step (_ ∷ []) [] (ProcessStep.steps [] [] (ThreadStep.moves (along (at 20 Leave) refl) (Acts.library (LibraryDoes.forked {e = pos 0} refl refl))))) (
    Path.then (Step.step (_ ∷ []) [] (ProcessStep.steps [] [] (ThreadStep.moves (along (at 21 In0) refl) (Acts.library (LibraryDoes.enters refl tt (Enters.other (apart _ _ refl) (apart _ _ refl) (apart _ _ refl))))))) (
    Path.stop))))))))))

pub getpid_in_child : HasRun (forks_and_calls getpid) Usual 10 []
unfolding path_getpid_in_child
getpid_in_child = record { first = start (forks_and_calls getpid); run = run_of path_getpid_in_child; is = record { start = starts (forks_and_calls getpid) refl refl; goes = goes_of path_getpid_in_child }; long = refl; breaks = refl }

path_rand_in_child_behind_helper : Path (program (spawns_and_calls rand)) (start (spawns_and_calls rand))
path_rand_in_child_behind_helper =
    Path.then (Step.step [] [] (ProcessStep.steps [] [] (ThreadStep.moves (along (at 40 Leave) refl) (Acts.program (Does.takes_value Evaluates.constant))))) (
    Path.then (Step.step [] [] (ProcessStep.steps [] [] (ThreadStep.moves (along (at 41 Leave) refl) (Acts.program (Does.takes_value Evaluates.constant))))) (
    Path.then (Step.step [] [] (ProcessStep.steps [] [] (ThreadStep.moves (along (at 42 Leave) refl) (Acts.program (Does.takes_value Evaluates.function))))) (
    Path.then (Step.step [] [] (ProcessStep.steps [] [] (ThreadStep.moves (along (at 43 Leave) refl) (Acts.program (Does.takes_value Evaluates.constant))))) (
    Path.then (Step.step [] [] (ProcessStep.starts [] [] (pos 0) (along (at 44 In0) refl) refl refl refl ((λ e o f. absurd (int_pointer _ o f)), ((λ e o f. absurd (false_true e)), ((λ e o f. absurd (false_true e)), ((λ e o f. absurd (false_true e)), tt)))) refl refl refl refl Makes.none)) (
    Path.then (Step.step [] [] (ProcessStep.steps [] (_ ∷ []) (ThreadStep.moves (along (at 44 Leave) refl) (Acts.library (LibraryDoes.leaves refl refl ((λ e o f. absurd (int_pointer _ o f)), ((λ e o f. absurd (false_true e)), ((λ e o f. absurd (false_true e)), ((λ e o f. absurd (false_true e)), tt)))) (record { written = _; shared = _; mask = _; errno = pos 0; forks = _; v = _; writes = (Writes.skips refl (Writes.skips refl (Writes.skips refl (Writes.skips refl Writes.done)))); results = Results.integer {i = pos 0} refl; masks = MaskAfter.other (apart _ _ refl) (apart _ _ refl); errors = refl; registers = ForksAfter.keeps; is = refl })))))) (
    Path.then (Step.step [] [] (ProcessStep.steps [] (_ ∷ []) (ThreadStep.moves (along (at 22 In0) refl) (Acts.program (Does.passes))))) (
    Path.then (Step.step [] [] (ProcessStep.steps [] (_ ∷ []) (ThreadStep.calls refl refl refl Makes.none Passes.no_argument))) (
    Path.then (Step.step [] [] (ProcessStep.steps [] (_ ∷ []) (ThreadStep.moves (along (at 20 In0) refl) (Acts.library (LibraryDoes.enters refl tt Enters.forks))))) (
    Path.then (Step.step [] [] (ProcessStep.forks [] (_ ∷ []) (record { call = _; is = refl; effect = refl; copies = refl }) refl refl (Outcome.copied {id = pos 7} (record { le = tt }) refl))) (
    Path.then (Step.step (_ ∷ []) [] (ProcessStep.steps [] [] (ThreadStep.moves (along (at 20 Leave) refl) (Acts.library (LibraryDoes.forked {e = pos 0} refl refl))))) (
    Path.then (Step.step (_ ∷ []) [] (ProcessStep.steps [] [] (ThreadStep.moves (along (at 24 Leave) refl) (Acts.program (Does.returns _ refl refl))))) (
    Path.then (Step.step (_ ∷ []) [] (ProcessStep.steps [] [] (ThreadStep.moves (along (at 23 Leave) refl) (Acts.program (Does.closes (Closes.returned (is_value _))))))) (
    Path.then (Step.step (_ ∷ []) [] (ProcessStep.steps [] [] (ThreadStep.returns (Scalar (Int (pos 0))) refl refl refl))) (
    Path.then (Step.step (_ ∷ []) [] (ProcessStep.steps [] [] (ThreadStep.moves (along (at 21 In0) refl) (Acts.library (LibraryDoes.enters refl tt (Enters.other (apart _ _ refl) (apart _ _ refl) (apart _ _ refl))))))) (
    Path.stop)))))))))))))))

pub rand_in_child_behind_helper : HasRun (spawns_and_calls rand) Usual 15 (F ∷ [])
unfolding path_rand_in_child_behind_helper
rand_in_child_behind_helper = record { first = start (spawns_and_calls rand); run = run_of path_rand_in_child_behind_helper; is = record { start = starts (spawns_and_calls rand) refl refl; goes = goes_of path_rand_in_child_behind_helper }; long = refl; breaks = refl }

path_getpid_in_child_behind_helper : Path (program (spawns_and_calls getpid)) (start (spawns_and_calls getpid))
path_getpid_in_child_behind_helper =
    Path.then (Step.step [] [] (ProcessStep.steps [] [] (ThreadStep.moves (along (at 40 Leave) refl) (Acts.program (Does.takes_value Evaluates.constant))))) (
    Path.then (Step.step [] [] (ProcessStep.steps [] [] (ThreadStep.moves (along (at 41 Leave) refl) (Acts.program (Does.takes_value Evaluates.constant))))) (
    Path.then (Step.step [] [] (ProcessStep.steps [] [] (ThreadStep.moves (along (at 42 Leave) refl) (Acts.program (Does.takes_value Evaluates.function))))) (
    Path.then (Step.step [] [] (ProcessStep.steps [] [] (ThreadStep.moves (along (at 43 Leave) refl) (Acts.program (Does.takes_value Evaluates.constant))))) (
    Path.then (Step.step [] [] (ProcessStep.starts [] [] (pos 0) (along (at 44 In0) refl) refl refl refl ((λ e o f. absurd (int_pointer _ o f)), ((λ e o f. absurd (false_true e)), ((λ e o f. absurd (false_true e)), ((λ e o f. absurd (false_true e)), tt)))) refl refl refl refl Makes.none)) (
    Path.then (Step.step [] [] (ProcessStep.steps [] (_ ∷ []) (ThreadStep.moves (along (at 44 Leave) refl) (Acts.library (LibraryDoes.leaves refl refl ((λ e o f. absurd (int_pointer _ o f)), ((λ e o f. absurd (false_true e)), ((λ e o f. absurd (false_true e)), ((λ e o f. absurd (false_true e)), tt)))) (record { written = _; shared = _; mask = _; errno = pos 0; forks = _; v = _; writes = (Writes.skips refl (Writes.skips refl (Writes.skips refl (Writes.skips refl Writes.done)))); results = Results.integer {i = pos 0} refl; masks = MaskAfter.other (apart _ _ refl) (apart _ _ refl); errors = refl; registers = ForksAfter.keeps; is = refl })))))) (
    Path.then (Step.step [] [] (ProcessStep.steps [] (_ ∷ []) (ThreadStep.moves (along (at 22 In0) refl) (Acts.program (Does.passes))))) (
    Path.then (Step.step [] [] (ProcessStep.steps [] (_ ∷ []) (ThreadStep.calls refl refl refl Makes.none Passes.no_argument))) (
    Path.then (Step.step [] [] (ProcessStep.steps [] (_ ∷ []) (ThreadStep.moves (along (at 20 In0) refl) (Acts.library (LibraryDoes.enters refl tt Enters.forks))))) (
    Path.then (Step.step [] [] (ProcessStep.forks [] (_ ∷ []) (record { call = _; is = refl; effect = refl; copies = refl }) refl refl (Outcome.copied {id = pos 7} (record { le = tt }) refl))) (
    Path.then (Step.step (_ ∷ []) [] (ProcessStep.steps [] [] (ThreadStep.moves (along (at 20 Leave) refl) (Acts.library (LibraryDoes.forked {e = pos 0} refl refl))))) (
    Path.then (Step.step (_ ∷ []) [] (ProcessStep.steps [] [] (ThreadStep.moves (along (at 24 Leave) refl) (Acts.program (Does.returns _ refl refl))))) (
    Path.then (Step.step (_ ∷ []) [] (ProcessStep.steps [] [] (ThreadStep.moves (along (at 23 Leave) refl) (Acts.program (Does.closes (Closes.returned (is_value _))))))) (
    Path.then (Step.step (_ ∷ []) [] (ProcessStep.steps [] [] (ThreadStep.returns (Scalar (Int (pos 0))) refl refl refl))) (
    Path.then (Step.step (_ ∷ []) [] (ProcessStep.steps [] [] (ThreadStep.moves (along (at 21 In0) refl) (Acts.library (LibraryDoes.enters refl tt (Enters.other (apart _ _ refl) (apart _ _ refl) (apart _ _ refl))))))) (
    Path.stop)))))))))))))))

pub getpid_in_child_behind_helper : HasRun (spawns_and_calls getpid) Usual 15 []
unfolding path_getpid_in_child_behind_helper
getpid_in_child_behind_helper = record { first = start (spawns_and_calls getpid); run = run_of path_getpid_in_child_behind_helper; is = record { start = starts (spawns_and_calls getpid) refl refl; goes = goes_of path_getpid_in_child_behind_helper }; long = refl; breaks = refl }

path_rand_in_prepare_handler : Path (program (fork_handler rand)) (start (fork_handler rand))
path_rand_in_prepare_handler =
    Path.then (Step.step [] [] (ProcessStep.steps [] [] (ThreadStep.moves (along (at 50 Leave) refl) (Acts.program (Does.takes_value Evaluates.function))))) (
    Path.then (Step.step [] [] (ProcessStep.steps [] [] (ThreadStep.moves (along (at 51 Leave) refl) (Acts.program (Does.takes_value Evaluates.constant))))) (
    Path.then (Step.step [] [] (ProcessStep.steps [] [] (ThreadStep.moves (along (at 52 Leave) refl) (Acts.program (Does.takes_value Evaluates.constant))))) (
    Path.then (Step.step [] [] (ProcessStep.steps [] [] (ThreadStep.moves (along (at 53 In0) refl) (Acts.library (LibraryDoes.enters refl ((λ e o f. absurd (false_true e)), ((λ e o f. absurd (false_true e)), ((λ e o f. absurd (false_true e)), tt))) (Enters.other (apart _ _ refl) (apart _ _ refl) (apart _ _ refl))))))) (
    Path.then (Step.step [] [] (ProcessStep.steps [] [] (ThreadStep.moves (along (at 53 Leave) refl) (Acts.library (LibraryDoes.leaves refl refl ((λ e o f. absurd (false_true e)), ((λ e o f. absurd (false_true e)), ((λ e o f. absurd (false_true e)), tt))) (record { written = _; shared = _; mask = _; errno = pos 0; forks = _; v = _; writes = (Writes.skips refl (Writes.skips refl (Writes.skips refl Writes.done))); results = Results.integer {i = pos 0} refl; masks = MaskAfter.other (apart _ _ refl) (apart _ _ refl); errors = refl; registers = ForksAfter.registers refl refl refl; is = refl })))))) (
    Path.then (Step.step [] [] (ProcessStep.steps [] [] (ThreadStep.moves (along (at 2 Leave) refl) (Acts.program (Does.takes_value Evaluates.constant))))) (
    Path.then (Step.step [] [] (ProcessStep.steps [] [] (ThreadStep.moves (along (at 3 Leave) refl) (Acts.program (Does.takes_value Evaluates.function))))) (
    Path.then (Step.step [] [] (ProcessStep.steps [] [] (ThreadStep.moves (along (at 4 In0) refl) (Acts.library (LibraryDoes.enters refl ((λ e o f. absurd (false_true e)), ((λ e o f. absurd (false_true e)), tt)) (Enters.installs (Installs.sets (Sets.by_signal refl refl)))))))) (
    Path.then (Step.step [] [] (ProcessStep.steps [] [] (ThreadStep.moves (along (at 4 Leave) refl) (Acts.library (LibraryDoes.leaves refl refl ((λ e o f. absurd (false_true e)), ((λ e o f. absurd (false_true e)), tt)) (record { written = _; shared = _; mask = _; errno = pos 0; forks = _; v = _; writes = (Writes.skips refl (Writes.skips refl Writes.done)); results = Results.old; masks = MaskAfter.other (apart _ _ refl) (apart _ _ refl); errors = refl; registers = ForksAfter.keeps; is = refl })))))) (
    Path.then (Step.step [] [] (ProcessStep.steps [] [] (ThreadStep.arrives 100 101 {sig = 9} {f = 1} {blocks = true} {resets = false} refl refl refl (Defers.signal refl) refl refl Makes.none))) (
    Path.then (Step.step [] [] (ProcessStep.steps [] [] (ThreadStep.moves (along (at 11 In0) refl) (Acts.library (LibraryDoes.enters refl tt Enters.forks))))) (
    Path.then (Step.step [] [] (ProcessStep.steps [] [] (ThreadStep.handles {r = Prepare} (record { call = _; is = refl; effect = refl; copies = refl }) refl refl refl Makes.none))) (
    Path.then (Step.step [] [] (ProcessStep.steps [] [] (ThreadStep.moves (along (at 61 In0) refl) (Acts.library (LibraryDoes.enters refl tt (Enters.other (apart _ _ refl) (apart _ _ refl) (apart _ _ refl))))))) (
    Path.stop)))))))))))))

pub rand_in_prepare_handler : HasRun (fork_handler rand) Usual 13 (A ∷ [])
unfolding path_rand_in_prepare_handler
rand_in_prepare_handler = record { first = start (fork_handler rand); run = run_of path_rand_in_prepare_handler; is = record { start = starts (fork_handler rand) refl refl; goes = goes_of path_rand_in_prepare_handler }; long = refl; breaks = refl }

path_getpid_in_prepare_handler : Path (program (fork_handler getpid)) (start (fork_handler getpid))
path_getpid_in_prepare_handler =
    Path.then (Step.step [] [] (ProcessStep.steps [] [] (ThreadStep.moves (along (at 50 Leave) refl) (Acts.program (Does.takes_value Evaluates.function))))) (
    Path.then (Step.step [] [] (ProcessStep.steps [] [] (ThreadStep.moves (along (at 51 Leave) refl) (Acts.program (Does.takes_value Evaluates.constant))))) (
    Path.then (Step.step [] [] (ProcessStep.steps [] [] (ThreadStep.moves (along (at 52 Leave) refl) (Acts.program (Does.takes_value Evaluates.constant))))) (
    Path.then (Step.step [] [] (ProcessStep.steps [] [] (ThreadStep.moves (along (at 53 In0) refl) (Acts.library (LibraryDoes.enters refl ((λ e o f. absurd (false_true e)), ((λ e o f. absurd (false_true e)), ((λ e o f. absurd (false_true e)), tt))) (Enters.other (apart _ _ refl) (apart _ _ refl) (apart _ _ refl))))))) (
    Path.then (Step.step [] [] (ProcessStep.steps [] [] (ThreadStep.moves (along (at 53 Leave) refl) (Acts.library (LibraryDoes.leaves refl refl ((λ e o f. absurd (false_true e)), ((λ e o f. absurd (false_true e)), ((λ e o f. absurd (false_true e)), tt))) (record { written = _; shared = _; mask = _; errno = pos 0; forks = _; v = _; writes = (Writes.skips refl (Writes.skips refl (Writes.skips refl Writes.done))); results = Results.integer {i = pos 0} refl; masks = MaskAfter.other (apart _ _ refl) (apart _ _ refl); errors = refl; registers = ForksAfter.registers refl refl refl; is = refl })))))) (
    Path.then (Step.step [] [] (ProcessStep.steps [] [] (ThreadStep.moves (along (at 2 Leave) refl) (Acts.program (Does.takes_value Evaluates.constant))))) (
    Path.then (Step.step [] [] (ProcessStep.steps [] [] (ThreadStep.moves (along (at 3 Leave) refl) (Acts.program (Does.takes_value Evaluates.function))))) (
    Path.then (Step.step [] [] (ProcessStep.steps [] [] (ThreadStep.moves (along (at 4 In0) refl) (Acts.library (LibraryDoes.enters refl ((λ e o f. absurd (false_true e)), ((λ e o f. absurd (false_true e)), tt)) (Enters.installs (Installs.sets (Sets.by_signal refl refl)))))))) (
    Path.then (Step.step [] [] (ProcessStep.steps [] [] (ThreadStep.moves (along (at 4 Leave) refl) (Acts.library (LibraryDoes.leaves refl refl ((λ e o f. absurd (false_true e)), ((λ e o f. absurd (false_true e)), tt)) (record { written = _; shared = _; mask = _; errno = pos 0; forks = _; v = _; writes = (Writes.skips refl (Writes.skips refl Writes.done)); results = Results.old; masks = MaskAfter.other (apart _ _ refl) (apart _ _ refl); errors = refl; registers = ForksAfter.keeps; is = refl })))))) (
    Path.then (Step.step [] [] (ProcessStep.steps [] [] (ThreadStep.arrives 100 101 {sig = 9} {f = 1} {blocks = true} {resets = false} refl refl refl (Defers.signal refl) refl refl Makes.none))) (
    Path.then (Step.step [] [] (ProcessStep.steps [] [] (ThreadStep.moves (along (at 11 In0) refl) (Acts.library (LibraryDoes.enters refl tt Enters.forks))))) (
    Path.then (Step.step [] [] (ProcessStep.steps [] [] (ThreadStep.handles {r = Prepare} (record { call = _; is = refl; effect = refl; copies = refl }) refl refl refl Makes.none))) (
    Path.then (Step.step [] [] (ProcessStep.steps [] [] (ThreadStep.moves (along (at 61 In0) refl) (Acts.library (LibraryDoes.enters refl tt (Enters.other (apart _ _ refl) (apart _ _ refl) (apart _ _ refl))))))) (
    Path.stop)))))))))))))

pub getpid_in_prepare_handler : HasRun (fork_handler getpid) Usual 13 []
unfolding path_getpid_in_prepare_handler
getpid_in_prepare_handler = record { first = start (fork_handler getpid); run = run_of path_getpid_in_prepare_handler; is = record { start = starts (fork_handler getpid) refl refl; goes = goes_of path_getpid_in_prepare_handler }; long = refl; breaks = refl }

path_sigprocmask_among_threads : Path (program (masks sigprocmask)) (start (masks sigprocmask))
path_sigprocmask_among_threads =
    Path.then (Step.step [] [] (ProcessStep.steps [] [] (ThreadStep.moves (along (at 40 Leave) refl) (Acts.program (Does.takes_value Evaluates.constant))))) (
    Path.then (Step.step [] [] (ProcessStep.steps [] [] (ThreadStep.moves (along (at 41 Leave) refl) (Acts.program (Does.takes_value Evaluates.constant))))) (
    Path.then (Step.step [] [] (ProcessStep.steps [] [] (ThreadStep.moves (along (at 42 Leave) refl) (Acts.program (Does.takes_value Evaluates.function))))) (
    Path.then (Step.step [] [] (ProcessStep.steps [] [] (ThreadStep.moves (along (at 43 Leave) refl) (Acts.program (Does.takes_value Evaluates.constant))))) (
    Path.then (Step.step [] [] (ProcessStep.starts [] [] (pos 0) (along (at 44 In0) refl) refl refl refl ((λ e o f. absurd (int_pointer _ o f)), ((λ e o f. absurd (false_true e)), ((λ e o f. absurd (false_true e)), ((λ e o f. absurd (false_true e)), tt)))) refl refl refl refl Makes.none)) (
    Path.then (Step.step [] [] (ProcessStep.steps [] (_ ∷ []) (ThreadStep.moves (along (at 44 Leave) refl) (Acts.library (LibraryDoes.leaves refl refl ((λ e o f. absurd (int_pointer _ o f)), ((λ e o f. absurd (false_true e)), ((λ e o f. absurd (false_true e)), ((λ e o f. absurd (false_true e)), tt)))) (record { written = _; shared = _; mask = _; errno = pos 0; forks = _; v = _; writes = (Writes.skips refl (Writes.skips refl (Writes.skips refl (Writes.skips refl Writes.done)))); results = Results.integer {i = pos 0} refl; masks = MaskAfter.other (apart _ _ refl) (apart _ _ refl); errors = refl; registers = ForksAfter.keeps; is = refl })))))) (
    Path.then (Step.step [] [] (ProcessStep.steps [] (_ ∷ []) (ThreadStep.moves (along (at 45 Leave) refl) (Acts.program (Does.takes_value Evaluates.constant))))) (
    Path.then (Step.step [] [] (ProcessStep.steps [] (_ ∷ []) (ThreadStep.moves (along (at 46 Leave) refl) (Acts.program (Does.takes_value Evaluates.constant))))) (
    Path.then (Step.step [] [] (ProcessStep.steps [] (_ ∷ []) (ThreadStep.moves (along (at 47 Leave) refl) (Acts.program (Does.takes_value Evaluates.constant))))) (
    Path.then (Step.step [] [] (ProcessStep.steps [] (_ ∷ []) (ThreadStep.moves (along (at 48 In0) refl) (Acts.library (LibraryDoes.enters refl ((λ e o f. absurd (false_true e)), ((λ e o f. absurd (int_pointer _ o f)), ((λ e o f. absurd (int_pointer _ o f)), tt))) (Enters.other (apart _ _ refl) (apart _ _ refl) (apart _ _ refl))))))) (
    Path.stop))))))))))

pub sigprocmask_among_threads : HasRun (masks sigprocmask) Usual 10 (M ∷ [])
unfolding path_sigprocmask_among_threads
sigprocmask_among_threads = record { first = start (masks sigprocmask); run = run_of path_sigprocmask_among_threads; is = record { start = starts (masks sigprocmask) refl refl; goes = goes_of path_sigprocmask_among_threads }; long = refl; breaks = refl }

path_pthread_sigmask_among_threads : Path (program (masks pthread_sigmask)) (start (masks pthread_sigmask))
path_pthread_sigmask_among_threads =
    Path.then (Step.step [] [] (ProcessStep.steps [] [] (ThreadStep.moves (along (at 40 Leave) refl) (Acts.program (Does.takes_value Evaluates.constant))))) (
    Path.then (Step.step [] [] (ProcessStep.steps [] [] (ThreadStep.moves (along (at 41 Leave) refl) (Acts.program (Does.takes_value Evaluates.constant))))) (
    Path.then (Step.step [] [] (ProcessStep.steps [] [] (ThreadStep.moves (along (at 42 Leave) refl) (Acts.program (Does.takes_value Evaluates.function))))) (
    Path.then (Step.step [] [] (ProcessStep.steps [] [] (ThreadStep.moves (along (at 43 Leave) refl) (Acts.program (Does.takes_value Evaluates.constant))))) (
    Path.then (Step.step [] [] (ProcessStep.starts [] [] (pos 0) (along (at 44 In0) refl) refl refl refl ((λ e o f. absurd (int_pointer _ o f)), ((λ e o f. absurd (false_true e)), ((λ e o f. absurd (false_true e)), ((λ e o f. absurd (false_true e)), tt)))) refl refl refl refl Makes.none)) (
    Path.then (Step.step [] [] (ProcessStep.steps [] (_ ∷ []) (ThreadStep.moves (along (at 44 Leave) refl) (Acts.library (LibraryDoes.leaves refl refl ((λ e o f. absurd (int_pointer _ o f)), ((λ e o f. absurd (false_true e)), ((λ e o f. absurd (false_true e)), ((λ e o f. absurd (false_true e)), tt)))) (record { written = _; shared = _; mask = _; errno = pos 0; forks = _; v = _; writes = (Writes.skips refl (Writes.skips refl (Writes.skips refl (Writes.skips refl Writes.done)))); results = Results.integer {i = pos 0} refl; masks = MaskAfter.other (apart _ _ refl) (apart _ _ refl); errors = refl; registers = ForksAfter.keeps; is = refl })))))) (
    Path.then (Step.step [] [] (ProcessStep.steps [] (_ ∷ []) (ThreadStep.moves (along (at 45 Leave) refl) (Acts.program (Does.takes_value Evaluates.constant))))) (
    Path.then (Step.step [] [] (ProcessStep.steps [] (_ ∷ []) (ThreadStep.moves (along (at 46 Leave) refl) (Acts.program (Does.takes_value Evaluates.constant))))) (
    Path.then (Step.step [] [] (ProcessStep.steps [] (_ ∷ []) (ThreadStep.moves (along (at 47 Leave) refl) (Acts.program (Does.takes_value Evaluates.constant))))) (
    Path.then (Step.step [] [] (ProcessStep.steps [] (_ ∷ []) (ThreadStep.moves (along (at 48 In0) refl) (Acts.library (LibraryDoes.enters refl ((λ e o f. absurd (false_true e)), ((λ e o f. absurd (int_pointer _ o f)), ((λ e o f. absurd (int_pointer _ o f)), tt))) (Enters.other (apart _ _ refl) (apart _ _ refl) (apart _ _ refl))))))) (
    Path.stop))))))))))

pub pthread_sigmask_among_threads : HasRun (masks pthread_sigmask) Usual 10 []
unfolding path_pthread_sigmask_among_threads
pthread_sigmask_among_threads = record { first = start (masks pthread_sigmask); run = run_of path_pthread_sigmask_among_threads; is = record { start = starts (masks pthread_sigmask) refl refl; goes = goes_of path_pthread_sigmask_among_threads }; long = refl; breaks = refl }

path_lock_in_child_handler : Path (program (child_handler (mutex_call (codes "pthread_mutex_lock")))) (start (child_handler (mutex_call (codes "pthread_mutex_lock"))))
path_lock_in_child_handler =
    Path.then (Step.step [] [] (ProcessStep.steps [] [] (ThreadStep.moves (along (at 40 Leave) refl) (Acts.program (Does.takes_value Evaluates.constant))))) (
    Path.then (Step.step [] [] (ProcessStep.steps [] [] (ThreadStep.moves (along (at 41 Leave) refl) (Acts.program (Does.takes_value Evaluates.constant))))) (
    Path.then (Step.step [] [] (ProcessStep.steps [] [] (ThreadStep.moves (along (at 42 Leave) refl) (Acts.program (Does.takes_value Evaluates.function))))) (
    Path.then (Step.step [] [] (ProcessStep.steps [] [] (ThreadStep.moves (along (at 43 Leave) refl) (Acts.program (Does.takes_value Evaluates.constant))))) (
    Path.then (Step.step [] [] (ProcessStep.starts [] [] (pos 0) (along (at 44 In0) refl) refl refl refl ((λ e o f. absurd (int_pointer _ o f)), ((λ e o f. absurd (false_true e)), ((λ e o f. absurd (false_true e)), ((λ e o f. absurd (false_true e)), tt)))) refl refl refl refl Makes.none)) (
    Path.then (Step.step [] [] (ProcessStep.steps [] (_ ∷ []) (ThreadStep.moves (along (at 44 Leave) refl) (Acts.library (LibraryDoes.leaves refl refl ((λ e o f. absurd (int_pointer _ o f)), ((λ e o f. absurd (false_true e)), ((λ e o f. absurd (false_true e)), ((λ e o f. absurd (false_true e)), tt)))) (record { written = _; shared = _; mask = _; errno = pos 0; forks = _; v = _; writes = (Writes.skips refl (Writes.skips refl (Writes.skips refl (Writes.skips refl Writes.done)))); results = Results.integer {i = pos 0} refl; masks = MaskAfter.other (apart _ _ refl) (apart _ _ refl); errors = refl; registers = ForksAfter.keeps; is = refl })))))) (
    Path.then (Step.step [] [] (ProcessStep.steps [] (_ ∷ []) (ThreadStep.moves (along (at 50 Leave) refl) (Acts.program (Does.takes_value Evaluates.constant))))) (
    Path.then (Step.step [] [] (ProcessStep.steps [] (_ ∷ []) (ThreadStep.moves (along (at 51 Leave) refl) (Acts.program (Does.takes_value Evaluates.constant))))) (
    Path.then (Step.step [] [] (ProcessStep.steps [] (_ ∷ []) (ThreadStep.moves (along (at 52 Leave) refl) (Acts.program (Does.takes_value Evaluates.function))))) (
    Path.then (Step.step [] [] (ProcessStep.steps [] (_ ∷ []) (ThreadStep.moves (along (at 53 In0) refl) (Acts.library (LibraryDoes.enters refl ((λ e o f. absurd (false_true e)), ((λ e o f. absurd (false_true e)), ((λ e o f. absurd (false_true e)), tt))) (Enters.other (apart _ _ refl) (apart _ _ refl) (apart _ _ refl))))))) (
    Path.then (Step.step [] [] (ProcessStep.steps [] (_ ∷ []) (ThreadStep.moves (along (at 53 Leave) refl) (Acts.library (LibraryDoes.leaves refl refl ((λ e o f. absurd (false_true e)), ((λ e o f. absurd (false_true e)), ((λ e o f. absurd (false_true e)), tt))) (record { written = _; shared = _; mask = _; errno = pos 0; forks = _; v = _; writes = (Writes.skips refl (Writes.skips refl (Writes.skips refl Writes.done))); results = Results.integer {i = pos 0} refl; masks = MaskAfter.other (apart _ _ refl) (apart _ _ refl); errors = refl; registers = ForksAfter.registers refl refl refl; is = refl })))))) (
    Path.then (Step.step [] [] (ProcessStep.steps [] (_ ∷ []) (ThreadStep.moves (along (at 20 In0) refl) (Acts.library (LibraryDoes.enters refl tt Enters.forks))))) (
    Path.then (Step.step [] [] (ProcessStep.forks [] (_ ∷ []) (record { call = _; is = refl; effect = refl; copies = refl }) refl refl (Outcome.copied {id = pos 7} (record { le = tt }) refl))) (
    Path.then (Step.step (_ ∷ []) [] (ProcessStep.steps [] [] (ThreadStep.handles {r = Child} (record { call = _; is = refl; effect = refl; copies = refl }) (refl, refl) refl refl Makes.none))) (
    Path.then (Step.step (_ ∷ []) [] (ProcessStep.steps [] [] (ThreadStep.moves (along (at 12 Leave) refl) (Acts.program (Does.takes_value Evaluates.constant))))) (
    Path.then (Step.step (_ ∷ []) [] (ProcessStep.steps [] [] (ThreadStep.moves (along (at 61 In0) refl) (Acts.library (LibraryDoes.enters refl ((λ e o f. absurd (false_true e)), tt) (Enters.other (apart _ _ refl) (apart _ _ refl) (apart _ _ refl))))))) (
    Path.stop))))))))))))))))

pub lock_in_child_handler : HasRun (child_handler (mutex_call (codes "pthread_mutex_lock"))) Usual 16 (F ∷ [])
unfolding path_lock_in_child_handler
lock_in_child_handler = record { first = start (child_handler (mutex_call (codes "pthread_mutex_lock"))); run = run_of path_lock_in_child_handler; is = record { start = starts (child_handler (mutex_call (codes "pthread_mutex_lock"))) refl refl; goes = goes_of path_lock_in_child_handler }; long = refl; breaks = refl }

path_unlock_in_child_handler : Path (program (child_handler (mutex_call (codes "pthread_mutex_unlock")))) (start (child_handler (mutex_call (codes "pthread_mutex_unlock"))))
path_unlock_in_child_handler =
    Path.then (Step.step [] [] (ProcessStep.steps [] [] (ThreadStep.moves (along (at 40 Leave) refl) (Acts.program (Does.takes_value Evaluates.constant))))) (
    Path.then (Step.step [] [] (ProcessStep.steps [] [] (ThreadStep.moves (along (at 41 Leave) refl) (Acts.program (Does.takes_value Evaluates.constant))))) (
    Path.then (Step.step [] [] (ProcessStep.steps [] [] (ThreadStep.moves (along (at 42 Leave) refl) (Acts.program (Does.takes_value Evaluates.function))))) (
    Path.then (Step.step [] [] (ProcessStep.steps [] [] (ThreadStep.moves (along (at 43 Leave) refl) (Acts.program (Does.takes_value Evaluates.constant))))) (
    Path.then (Step.step [] [] (ProcessStep.starts [] [] (pos 0) (along (at 44 In0) refl) refl refl refl ((λ e o f. absurd (int_pointer _ o f)), ((λ e o f. absurd (false_true e)), ((λ e o f. absurd (false_true e)), ((λ e o f. absurd (false_true e)), tt)))) refl refl refl refl Makes.none)) (
    Path.then (Step.step [] [] (ProcessStep.steps [] (_ ∷ []) (ThreadStep.moves (along (at 44 Leave) refl) (Acts.library (LibraryDoes.leaves refl refl ((λ e o f. absurd (int_pointer _ o f)), ((λ e o f. absurd (false_true e)), ((λ e o f. absurd (false_true e)), ((λ e o f. absurd (false_true e)), tt)))) (record { written = _; shared = _; mask = _; errno = pos 0; forks = _; v = _; writes = (Writes.skips refl (Writes.skips refl (Writes.skips refl (Writes.skips refl Writes.done)))); results = Results.integer {i = pos 0} refl; masks = MaskAfter.other (apart _ _ refl) (apart _ _ refl); errors = refl; registers = ForksAfter.keeps; is = refl })))))) (
    Path.then (Step.step [] [] (ProcessStep.steps [] (_ ∷ []) (ThreadStep.moves (along (at 50 Leave) refl) (Acts.program (Does.takes_value Evaluates.constant))))) (
    Path.then (Step.step [] [] (ProcessStep.steps [] (_ ∷ []) (ThreadStep.moves (along (at 51 Leave) refl) (Acts.program (Does.takes_value Evaluates.constant))))) (
    Path.then (Step.step [] [] (ProcessStep.steps [] (_ ∷ []) (ThreadStep.moves (along (at 52 Leave) refl) (Acts.program (Does.takes_value Evaluates.function))))) (
    Path.then (Step.step [] [] (ProcessStep.steps [] (_ ∷ []) (ThreadStep.moves (along (at 53 In0) refl) (Acts.library (LibraryDoes.enters refl ((λ e o f. absurd (false_true e)), ((λ e o f. absurd (false_true e)), ((λ e o f. absurd (false_true e)), tt))) (Enters.other (apart _ _ refl) (apart _ _ refl) (apart _ _ refl))))))) (
    Path.then (Step.step [] [] (ProcessStep.steps [] (_ ∷ []) (ThreadStep.moves (along (at 53 Leave) refl) (Acts.library (LibraryDoes.leaves refl refl ((λ e o f. absurd (false_true e)), ((λ e o f. absurd (false_true e)), ((λ e o f. absurd (false_true e)), tt))) (record { written = _; shared = _; mask = _; errno = pos 0; forks = _; v = _; writes = (Writes.skips refl (Writes.skips refl (Writes.skips refl Writes.done))); results = Results.integer {i = pos 0} refl; masks = MaskAfter.other (apart _ _ refl) (apart _ _ refl); errors = refl; registers = ForksAfter.registers refl refl refl; is = refl })))))) (
    Path.then (Step.step [] [] (ProcessStep.steps [] (_ ∷ []) (ThreadStep.moves (along (at 20 In0) refl) (Acts.library (LibraryDoes.enters refl tt Enters.forks))))) (
    Path.then (Step.step [] [] (ProcessStep.forks [] (_ ∷ []) (record { call = _; is = refl; effect = refl; copies = refl }) refl refl (Outcome.copied {id = pos 7} (record { le = tt }) refl))) (
    Path.then (Step.step (_ ∷ []) [] (ProcessStep.steps [] [] (ThreadStep.handles {r = Child} (record { call = _; is = refl; effect = refl; copies = refl }) (refl, refl) refl refl Makes.none))) (
    Path.then (Step.step (_ ∷ []) [] (ProcessStep.steps [] [] (ThreadStep.moves (along (at 12 Leave) refl) (Acts.program (Does.takes_value Evaluates.constant))))) (
    Path.then (Step.step (_ ∷ []) [] (ProcessStep.steps [] [] (ThreadStep.moves (along (at 61 In0) refl) (Acts.library (LibraryDoes.enters refl ((λ e o f. absurd (false_true e)), tt) (Enters.other (apart _ _ refl) (apart _ _ refl) (apart _ _ refl))))))) (
    Path.stop))))))))))))))))

pub unlock_in_child_handler : HasRun (child_handler (mutex_call (codes "pthread_mutex_unlock"))) Usual 16 []
unfolding path_unlock_in_child_handler
unlock_in_child_handler = record { first = start (child_handler (mutex_call (codes "pthread_mutex_unlock"))); run = run_of path_unlock_in_child_handler; is = record { start = starts (child_handler (mutex_call (codes "pthread_mutex_unlock"))) refl refl; goes = goes_of path_unlock_in_child_handler }; long = refl; breaks = refl }

path_rand_over_fork_handler : Path (program (interrupted_fork_handler false)) (start (interrupted_fork_handler false))
path_rand_over_fork_handler =
    Path.then (Step.step [] [] (ProcessStep.steps [] [] (ThreadStep.moves (along (at 50 Leave) refl) (Acts.program (Does.takes_value Evaluates.function))))) (
    Path.then (Step.step [] [] (ProcessStep.steps [] [] (ThreadStep.moves (along (at 51 Leave) refl) (Acts.program (Does.takes_value Evaluates.constant))))) (
    Path.then (Step.step [] [] (ProcessStep.steps [] [] (ThreadStep.moves (along (at 52 Leave) refl) (Acts.program (Does.takes_value Evaluates.constant))))) (
    Path.then (Step.step [] [] (ProcessStep.steps [] [] (ThreadStep.moves (along (at 53 In0) refl) (Acts.library (LibraryDoes.enters refl ((λ e o f. absurd (false_true e)), ((λ e o f. absurd (false_true e)), ((λ e o f. absurd (false_true e)), tt))) (Enters.other (apart _ _ refl) (apart _ _ refl) (apart _ _ refl))))))) (
    Path.then (Step.step [] [] (ProcessStep.steps [] [] (ThreadStep.moves (along (at 53 Leave) refl) (Acts.library (LibraryDoes.leaves refl refl ((λ e o f. absurd (false_true e)), ((λ e o f. absurd (false_true e)), ((λ e o f. absurd (false_true e)), tt))) (record { written = _; shared = _; mask = _; errno = pos 0; forks = _; v = _; writes = (Writes.skips refl (Writes.skips refl (Writes.skips refl Writes.done))); results = Results.integer {i = pos 0} refl; masks = MaskAfter.other (apart _ _ refl) (apart _ _ refl); errors = refl; registers = ForksAfter.registers refl refl refl; is = refl })))))) (
    Path.then (Step.step [] [] (ProcessStep.steps [] [] (ThreadStep.moves (along (at 2 Leave) refl) (Acts.program (Does.takes_value Evaluates.constant))))) (
    Path.then (Step.step [] [] (ProcessStep.steps [] [] (ThreadStep.moves (along (at 3 Leave) refl) (Acts.program (Does.takes_value Evaluates.function))))) (
    Path.then (Step.step [] [] (ProcessStep.steps [] [] (ThreadStep.moves (along (at 4 In0) refl) (Acts.library (LibraryDoes.enters refl ((λ e o f. absurd (false_true e)), ((λ e o f. absurd (false_true e)), tt)) (Enters.installs (Installs.sets (Sets.by_signal refl refl)))))))) (
    Path.then (Step.step [] [] (ProcessStep.steps [] [] (ThreadStep.moves (along (at 4 Leave) refl) (Acts.library (LibraryDoes.leaves refl refl ((λ e o f. absurd (false_true e)), ((λ e o f. absurd (false_true e)), tt)) (record { written = _; shared = _; mask = _; errno = pos 0; forks = _; v = _; writes = (Writes.skips refl (Writes.skips refl Writes.done)); results = Results.old; masks = MaskAfter.other (apart _ _ refl) (apart _ _ refl); errors = refl; registers = ForksAfter.keeps; is = refl })))))) (
    Path.then (Step.step [] [] (ProcessStep.steps [] [] (ThreadStep.moves (along (at 20 In0) refl) (Acts.library (LibraryDoes.enters refl tt Enters.forks))))) (
    Path.then (Step.step [] [] (ProcessStep.steps [] [] (ThreadStep.handles {r = Prepare} (record { call = _; is = refl; effect = refl; copies = refl }) refl refl refl Makes.none))) (
    Path.then (Step.step [] [] (ProcessStep.steps [] [] (ThreadStep.arrives 100 101 {sig = 9} {f = 1} {blocks = true} {resets = false} refl refl refl (Defers.signal refl) refl refl Makes.none))) (
    Path.then (Step.step [] [] (ProcessStep.steps [] [] (ThreadStep.moves (along (at 11 In0) refl) (Acts.library (LibraryDoes.enters refl tt (Enters.other (apart _ _ refl) (apart _ _ refl) (apart _ _ refl))))))) (
    Path.stop)))))))))))))

pub rand_over_fork_handler : HasRun (interrupted_fork_handler false) Later 13 (U ∷ [])
unfolding path_rand_over_fork_handler
rand_over_fork_handler = record { first = start (interrupted_fork_handler false); run = run_of path_rand_over_fork_handler; is = record { start = starts (interrupted_fork_handler false) refl refl; goes = goes_of path_rand_over_fork_handler }; long = refl; breaks = refl }

path_rand_over_safe_fork_handler : Path (program (interrupted_fork_handler true)) (start (interrupted_fork_handler true))
path_rand_over_safe_fork_handler =
    Path.then (Step.step [] [] (ProcessStep.steps [] [] (ThreadStep.moves (along (at 50 Leave) refl) (Acts.program (Does.takes_value Evaluates.function))))) (
    Path.then (Step.step [] [] (ProcessStep.steps [] [] (ThreadStep.moves (along (at 51 Leave) refl) (Acts.program (Does.takes_value Evaluates.constant))))) (
    Path.then (Step.step [] [] (ProcessStep.steps [] [] (ThreadStep.moves (along (at 52 Leave) refl) (Acts.program (Does.takes_value Evaluates.constant))))) (
    Path.then (Step.step [] [] (ProcessStep.steps [] [] (ThreadStep.moves (along (at 53 In0) refl) (Acts.library (LibraryDoes.enters refl ((λ e o f. absurd (false_true e)), ((λ e o f. absurd (false_true e)), ((λ e o f. absurd (false_true e)), tt))) (Enters.other (apart _ _ refl) (apart _ _ refl) (apart _ _ refl))))))) (
    Path.then (Step.step [] [] (ProcessStep.steps [] [] (ThreadStep.moves (along (at 53 Leave) refl) (Acts.library (LibraryDoes.leaves refl refl ((λ e o f. absurd (false_true e)), ((λ e o f. absurd (false_true e)), ((λ e o f. absurd (false_true e)), tt))) (record { written = _; shared = _; mask = _; errno = pos 0; forks = _; v = _; writes = (Writes.skips refl (Writes.skips refl (Writes.skips refl Writes.done))); results = Results.integer {i = pos 0} refl; masks = MaskAfter.other (apart _ _ refl) (apart _ _ refl); errors = refl; registers = ForksAfter.registers refl refl refl; is = refl })))))) (
    Path.then (Step.step [] [] (ProcessStep.steps [] [] (ThreadStep.moves (along (at 2 Leave) refl) (Acts.program (Does.takes_value Evaluates.constant))))) (
    Path.then (Step.step [] [] (ProcessStep.steps [] [] (ThreadStep.moves (along (at 3 Leave) refl) (Acts.program (Does.takes_value Evaluates.function))))) (
    Path.then (Step.step [] [] (ProcessStep.steps [] [] (ThreadStep.moves (along (at 4 In0) refl) (Acts.library (LibraryDoes.enters refl ((λ e o f. absurd (false_true e)), ((λ e o f. absurd (false_true e)), tt)) (Enters.installs (Installs.sets (Sets.by_signal refl refl)))))))) (
    Path.then (Step.step [] [] (ProcessStep.steps [] [] (ThreadStep.moves (along (at 4 Leave) refl) (Acts.library (LibraryDoes.leaves refl refl ((λ e o f. absurd (false_true e)), ((λ e o f. absurd (false_true e)), tt)) (record { written = _; shared = _; mask = _; errno = pos 0; forks = _; v = _; writes = (Writes.skips refl (Writes.skips refl Writes.done)); results = Results.old; masks = MaskAfter.other (apart _ _ refl) (apart _ _ refl); errors = refl; registers = ForksAfter.keeps; is = refl })))))) (
    Path.then (Step.step [] [] (ProcessStep.steps [] [] (ThreadStep.moves (along (at 20 In0) refl) (Acts.library (LibraryDoes.enters refl tt Enters.forks))))) (
    Path.then (Step.step [] [] (ProcessStep.steps [] [] (ThreadStep.handles {r = Prepare} (record { call = _; is = refl; effect = refl; copies = refl }) refl refl refl Makes.none))) (
    Path.then (Step.step [] [] (ProcessStep.steps [] [] (ThreadStep.arrives 100 101 {sig = 9} {f = 1} {blocks = true} {resets = false} refl refl refl (Defers.signal refl) refl refl Makes.none))) (
    Path.then (Step.step [] [] (ProcessStep.steps [] [] (ThreadStep.moves (along (at 11 In0) refl) (Acts.library (LibraryDoes.enters refl tt (Enters.other (apart _ _ refl) (apart _ _ refl) (apart _ _ refl))))))) (
    Path.stop)))))))))))))

pub rand_over_safe_fork_handler : HasRun (interrupted_fork_handler true) Usual 13 []
unfolding path_rand_over_safe_fork_handler
rand_over_safe_fork_handler = record { first = start (interrupted_fork_handler true); run = run_of path_rand_over_safe_fork_handler; is = record { start = starts (interrupted_fork_handler true) refl refl; goes = goes_of path_rand_over_safe_fork_handler }; long = refl; breaks = refl }

path_fork_in_exit : Path (program (one_handler sigint fork_later)) (start (one_handler sigint fork_later))
path_fork_in_exit =
    Path.then (Step.step [] [] (ProcessStep.steps [] [] (ThreadStep.moves (along (at 2 Leave) refl) (Acts.program (Does.takes_value Evaluates.constant))))) (
    Path.then (Step.step [] [] (ProcessStep.steps [] [] (ThreadStep.moves (along (at 3 Leave) refl) (Acts.program (Does.takes_value Evaluates.function))))) (
    Path.then (Step.step [] [] (ProcessStep.steps [] [] (ThreadStep.moves (along (at 4 In0) refl) (Acts.library (LibraryDoes.enters refl ((λ e o f. absurd (false_true e)), ((λ e o f. absurd (false_true e)), tt)) (Enters.installs (Installs.sets (Sets.by_signal refl refl)))))))) (
    Path.then (Step.step [] [] (ProcessStep.steps [] [] (ThreadStep.moves (along (at 4 Leave) refl) (Acts.library (LibraryDoes.leaves refl refl ((λ e o f. absurd (false_true e)), ((λ e o f. absurd (false_true e)), tt)) (record { written = _; shared = _; mask = _; errno = pos 0; forks = _; v = _; writes = (Writes.skips refl (Writes.skips refl Writes.done)); results = Results.old; masks = MaskAfter.other (apart _ _ refl) (apart _ _ refl); errors = refl; registers = ForksAfter.keeps; is = refl })))))) (
    Path.then (Step.step [] [] (ProcessStep.steps [] [] (ThreadStep.moves (along (at 1 Leave) refl) (Acts.program (Does.closes (Closes.main refl)))))) (
    Path.then (Step.step [] [] (ProcessStep.steps [] [] (ThreadStep.moves (along (at 1 Finish) refl) (Acts.program (Does.passes))))) (
    Path.then (Step.step [] [] (ProcessStep.steps [] [] (ThreadStep.arrives 100 101 {sig = 9} {f = 1} {blocks = true} {resets = false} refl refl refl (Defers.signal refl) refl refl Makes.none))) (
    Path.then (Step.step [] [] (ProcessStep.steps [] [] (ThreadStep.moves (along (at 11 In0) refl) (Acts.library (LibraryDoes.enters refl tt Enters.forks))))) (
    Path.stop))))))))

pub fork_in_exit : HasRun (one_handler sigint fork_later) Later 8 (U ∷ [])
unfolding path_fork_in_exit
fork_in_exit = record { first = start (one_handler sigint fork_later); run = run_of path_fork_in_exit; is = record { start = starts (one_handler sigint fork_later) refl refl; goes = goes_of path_fork_in_exit }; long = refl; breaks = refl }

path_split_in_exit : Path (program (one_handler sigint split)) (start (one_handler sigint split))
path_split_in_exit =
    Path.then (Step.step [] [] (ProcessStep.steps [] [] (ThreadStep.moves (along (at 2 Leave) refl) (Acts.program (Does.takes_value Evaluates.constant))))) (
    Path.then (Step.step [] [] (ProcessStep.steps [] [] (ThreadStep.moves (along (at 3 Leave) refl) (Acts.program (Does.takes_value Evaluates.function))))) (
    Path.then (Step.step [] [] (ProcessStep.steps [] [] (ThreadStep.moves (along (at 4 In0) refl) (Acts.library (LibraryDoes.enters refl ((λ e o f. absurd (false_true e)), ((λ e o f. absurd (false_true e)), tt)) (Enters.installs (Installs.sets (Sets.by_signal refl refl)))))))) (
    Path.then (Step.step [] [] (ProcessStep.steps [] [] (ThreadStep.moves (along (at 4 Leave) refl) (Acts.library (LibraryDoes.leaves refl refl ((λ e o f. absurd (false_true e)), ((λ e o f. absurd (false_true e)), tt)) (record { written = _; shared = _; mask = _; errno = pos 0; forks = _; v = _; writes = (Writes.skips refl (Writes.skips refl Writes.done)); results = Results.old; masks = MaskAfter.other (apart _ _ refl) (apart _ _ refl); errors = refl; registers = ForksAfter.keeps; is = refl })))))) (
    Path.then (Step.step [] [] (ProcessStep.steps [] [] (ThreadStep.moves (along (at 1 Leave) refl) (Acts.program (Does.closes (Closes.main refl)))))) (
    Path.then (Step.step [] [] (ProcessStep.steps [] [] (ThreadStep.moves (along (at 1 Finish) refl) (Acts.program (Does.passes))))) (
    Path.then (Step.step [] [] (ProcessStep.steps [] [] (ThreadStep.arrives 100 101 {sig = 9} {f = 1} {blocks = true} {resets = false} refl refl refl (Defers.signal refl) refl refl Makes.none))) (
    Path.then (Step.step [] [] (ProcessStep.steps [] [] (ThreadStep.moves (along (at 11 In0) refl) (Acts.library (LibraryDoes.enters refl tt (Enters.other (apart _ _ refl) (apart _ _ refl) (apart _ _ refl))))))) (
    Path.stop))))))))

pub split_in_exit : HasRun (one_handler sigint split) Later 8 []
unfolding path_split_in_exit
split_in_exit = record { first = start (one_handler sigint split); run = run_of path_split_in_exit; is = record { start = starts (one_handler sigint split) refl refl; goes = goes_of path_split_in_exit }; long = refl; breaks = refl }

pub breaking : RunsThatBreakARule
breaking = record { rand_in_exit = rand_in_exit; rand_in_helper_of_nested_handler = rand_in_helper_of_nested_handler; static_assigned = static_assigned; errno_changed = errno_changed; errno_changed_by_helper = errno_changed_by_helper; rand_in_child = rand_in_child; rand_in_child_behind_helper = rand_in_child_behind_helper; rand_in_prepare_handler = rand_in_prepare_handler; sigprocmask_among_threads = sigprocmask_among_threads; fault_handler_returns = fault_handler_returns; lock_in_child_handler = lock_in_child_handler; rand_over_fork_handler = rand_over_fork_handler; fork_in_exit = fork_in_exit }

pub mended : RunsThatBreakNone
mended = record { getpid_in_exit = getpid_in_exit; getpid_in_helper_of_nested_handler = getpid_in_helper_of_nested_handler; flag_assigned = flag_assigned; errno_left = errno_left; errno_kept_by_helper = errno_kept_by_helper; getpid_in_child = getpid_in_child; getpid_in_child_behind_helper = getpid_in_child_behind_helper; getpid_in_prepare_handler = getpid_in_prepare_handler; pthread_sigmask_among_threads = pthread_sigmask_among_threads; unlock_in_child_handler = unlock_in_child_handler; rand_over_safe_fork_handler = rand_over_safe_fork_handler; split_in_exit = split_in_exit }
