-- Programs with a run that breaks a rule, and the same mended.
use Rattle.std.specs.Prelude.{not, ℕ, ℤ, pos, List, [], ◌∷◌, ◌++◌, None, Bool, true, false, codes}
use Rattle.base_core.specs.declared.id.Pos.{Pos}
use Rattle.base_core.specs.declared.id.Phase.TheVariants.{Enter, In0, In1, Leave, Finish}
use Rattle.base_core.specs.declared.rules.Rule.TheVariants.{U, S, E, F, A, M, R}
use Rattle.base_core.specs.declared.rules.Rules.TheVariants.{Usual, Later}
use Rattle.posix_table.specs.declared.kind.Param.TheVariants as letter
use Rattle.posix_table.specs.declared.kind.ResultKind.TheVariants as result
use Rattle.posix_table.specs.declared.kind.Effect.TheVariants as effect
use Rattle.c_arithmetic.specs.Types.{int, long}
use Rattle.run_model.specs.Kinds.{Void, Number, Pointer, FnPointer}
use Rattle.run_model.specs.Code.{at, Always, Constant, FunctionName, Action, Pass, Take, Designate, Read, Assign, Return, Into, Out, Forked, Apart, Close, Variable, ErrnoPlace, OfVariable, ZeroInitial, Named, User, Library, LibraryCall, Function}
use Rattle.run_model.specs.Owed.{IsCode}
use Rattle.run_model.specs.Outlines.{program, Way, said, Outline, library, HasRun}

abbrev pub way : Pos → Action → Pos → Way
way p a q = record { from = p; guard = Always; does = a; to = q }

abbrev pub rand : LibraryCall
rand = library (codes "rand") false [] result.Int effect.Plain []

abbrev pub getpid : LibraryCall
getpid = library (codes "getpid") true [] result.Int effect.Plain []

-- signal(SIG, f), with the nodes of both arguments
abbrev pub signal : ℕ → ℕ → LibraryCall
signal a b = library (codes "signal") true (letter.Int ∷ letter.HandlerFn ∷ []) result.OldHandler effect.Install (a ∷ b ∷ [])

-- close(0) and WTERMSIG(0), of which the second leaves errno alone
abbrev pub close_call : LibraryCall
close_call = library (codes "close") true (letter.Int ∷ []) result.Int effect.Plain (12 ∷ [])

abbrev pub wtermsig : LibraryCall
wtermsig = library (codes "WTERMSIG") true (letter.Int ∷ []) result.Int effect.Pure (12 ∷ [])

abbrev pub pthread_atfork : LibraryCall
pthread_atfork = library (codes "pthread_atfork") false (letter.ForkFn ∷ letter.ForkFn ∷ letter.ForkFn ∷ []) result.Int effect.Atfork (50 ∷ 51 ∷ 52 ∷ [])

abbrev pub sigprocmask : LibraryCall
sigprocmask = library (codes "sigprocmask") true (letter.Int ∷ letter.SetIn ∷ letter.SetOut ∷ []) result.Int effect.Mask (45 ∷ 46 ∷ 47 ∷ [])

abbrev pub pthread_sigmask : LibraryCall
pthread_sigmask = library (codes "pthread_sigmask") true (letter.Int ∷ letter.SetIn ∷ letter.SetOut ∷ []) result.Int effect.Mask (45 ∷ 46 ∷ 47 ∷ [])

abbrev pub sigint : ℤ
sigint = pos 9

abbrev pub sigsegv : ℤ
sigsegv = pos 15

abbrev pub sigterm : ℤ
sigterm = pos 18

abbrev pub handler_function : ℕ → Function
handler_function n = record { node = n; result = Void; parameters = record { variable = None; kind = Number int } ∷ []; locals = [] }

abbrev pub void_function : ℕ → Function
void_function n = record { node = n; result = Void; parameters = []; locals = [] }

abbrev pub main_function : Function
main_function = record { node = 1; result = Number int; parameters = []; locals = [] }

-- void h(int) { F(); }  int main(void) { signal(SIG, h); }
abbrev pub one_handler : ℤ → LibraryCall → Outline
one_handler sig f = record {
  ways =
      way (at 1 Enter) (Take 2 (Constant sig)) (at 2 Leave) ∷
      way (at 2 Leave) (Take 3 (FunctionName 1)) (at 3 Leave) ∷
      way (at 3 Leave) (Into 4) (at 4 In0) ∷
      way (at 4 In0) (Out 4) (at 4 Leave) ∷
      way (at 4 Leave) (Close 0) (at 1 Leave) ∷
      way (at 1 Leave) Pass (at 1 Finish) ∷
      way (at 10 Enter) (Into 11) (at 11 In0) ∷
      way (at 11 In0) (Out 11) (at 11 Leave) ∷
      way (at 11 Leave) (Close 1) (at 10 Leave) ∷ [];
  kinds = said 4 FnPointer ∷ said 10 Void ∷ said 11 (Number long) ∷ [];
  places = [];
  calls = said 4 (Library (signal 2 3)) ∷ said 11 (Library f) ∷ [];
  functions = main_function ∷ handler_function 10 ∷ [];
  variables = [];
  statics = [];
  fork_unsafe = false;
}

-- void h(int) { }  void k(int) { help(); }  void help(void) { F(); }  int main(void) { signal(SIGINT, h); signal(SIGTERM, k); }
abbrev pub two_handlers : LibraryCall → Outline
two_handlers f = record {
  ways =
      way (at 1 Enter) (Take 2 (Constant sigint)) (at 2 Leave) ∷
      way (at 2 Leave) (Take 3 (FunctionName 1)) (at 3 Leave) ∷
      way (at 3 Leave) (Into 4) (at 4 In0) ∷
      way (at 4 In0) (Out 4) (at 4 Leave) ∷
      way (at 4 Leave) (Take 5 (Constant sigterm)) (at 5 Leave) ∷
      way (at 5 Leave) (Take 6 (FunctionName 2)) (at 6 Leave) ∷
      way (at 6 Leave) (Into 7) (at 7 In0) ∷
      way (at 7 In0) (Out 7) (at 7 Leave) ∷
      way (at 7 Leave) (Close 0) (at 1 Leave) ∷
      way (at 1 Leave) Pass (at 1 Finish) ∷
      way (at 10 Enter) (Close 1) (at 10 Leave) ∷
      way (at 20 Enter) Pass (at 21 In0) ∷
      way (at 21 In0) Apart (at 21 Leave) ∷
      way (at 21 Leave) (Close 2) (at 20 Leave) ∷
      way (at 30 Enter) (Into 31) (at 31 In0) ∷
      way (at 31 In0) (Out 31) (at 31 Leave) ∷
      way (at 31 Leave) (Close 3) (at 30 Leave) ∷ [];
  kinds = said 10 Void ∷ said 20 Void ∷ said 21 Void ∷ said 30 Void ∷ said 31 (Number long) ∷ [];
  places = [];
  calls = said 4 (Library (signal 2 3)) ∷ said 7 (Library (signal 5 6)) ∷ said 21 (User (Named 3) []) ∷ said 31 (Library f) ∷ [];
  functions = main_function ∷ handler_function 10 ∷ handler_function 20 ∷ void_function 30 ∷ [];
  variables = [];
  statics = [];
  fork_unsafe = false;
}

-- int n;  void h(int) { n = 0; }  int main(void) { signal(SIGINT, h); .. }, where n is a volatile sig_atomic_t or isn't
abbrev pub writes_static : Bool → Outline
writes_static is_flag = record {
  ways =
      way (at 1 Enter) (Take 2 (Constant sigint)) (at 2 Leave) ∷
      way (at 2 Leave) (Take 3 (FunctionName 1)) (at 3 Leave) ∷
      way (at 3 Leave) (Into 4) (at 4 In0) ∷
      way (at 4 In0) (Out 4) (at 4 Leave) ∷
      way (at 10 Enter) (Designate 12) (at 12 Leave) ∷
      way (at 12 Leave) (Take 13 (Constant (pos 0))) (at 13 Leave) ∷
      way (at 13 Leave) (Assign 11 12 13) (at 11 Leave) ∷
      way (at 11 Leave) (Close 1) (at 10 Leave) ∷ [];
  kinds = said 10 Void ∷ [];
  places = said 12 (Variable 0) ∷ [];
  calls = said 4 (Library (signal 2 3)) ∷ [];
  functions = main_function ∷ handler_function 10 ∷ [];
  variables = record { kind = Number int; constant = false; flag = is_flag } ∷ [];
  statics = record { origin = OfVariable 0; kind = Number int; initial = ZeroInitial } ∷ [];
  fork_unsafe = false;
}

-- void h(int) { F(0); }  int main(void) { signal(SIG, h); .. }
abbrev pub with_argument : ℤ → LibraryCall → Outline
with_argument sig f = record {
  ways =
      way (at 1 Enter) (Take 2 (Constant sig)) (at 2 Leave) ∷
      way (at 2 Leave) (Take 3 (FunctionName 1)) (at 3 Leave) ∷
      way (at 3 Leave) (Into 4) (at 4 In0) ∷
      way (at 4 In0) (Out 4) (at 4 Leave) ∷
      way (at 10 Enter) (Take 12 (Constant (pos 0))) (at 12 Leave) ∷
      way (at 12 Leave) (Into 11) (at 11 In0) ∷
      way (at 11 In0) (Out 11) (at 11 Leave) ∷
      way (at 11 Leave) (Close 1) (at 10 Leave) ∷ [];
  kinds = said 10 Void ∷ said 11 (Number long) ∷ [];
  places = [];
  calls = said 4 (Library (signal 2 3)) ∷ said 11 (Library f) ∷ [];
  functions = main_function ∷ handler_function 10 ∷ [];
  variables = [];
  statics = [];
  fork_unsafe = false;
}

-- void help(void) { errno = X; }  void h(int) { help(); }  int main(void) { signal(SIGINT, h); .. }, where X is 1 or errno
abbrev pub helper_assigns : Action → Outline
helper_assigns a = record {
  ways =
      way (at 1 Enter) (Take 2 (Constant sigint)) (at 2 Leave) ∷
      way (at 2 Leave) (Take 3 (FunctionName 1)) (at 3 Leave) ∷
      way (at 3 Leave) (Into 4) (at 4 In0) ∷
      way (at 4 In0) (Out 4) (at 4 Leave) ∷
      way (at 10 Enter) Pass (at 21 In0) ∷
      way (at 21 In0) Apart (at 21 Leave) ∷
      way (at 21 Leave) (Close 1) (at 10 Leave) ∷
      way (at 30 Enter) (Designate 32) (at 32 Leave) ∷
      way (at 32 Leave) a (at 33 Leave) ∷
      way (at 33 Leave) (Assign 31 32 33) (at 31 Leave) ∷
      way (at 31 Leave) (Close 2) (at 30 Leave) ∷ [];
  kinds = said 10 Void ∷ said 21 Void ∷ said 30 Void ∷ [];
  places = said 32 ErrnoPlace ∷ said 33 ErrnoPlace ∷ [];
  calls = said 4 (Library (signal 2 3)) ∷ said 21 (User (Named 2) []) ∷ [];
  functions = main_function ∷ handler_function 10 ∷ void_function 30 ∷ [];
  variables = [];
  statics = [];
  fork_unsafe = false;
}

-- void *work(void *) { return 0; }  int main(void) { pthread_create(0, 0, work, 0); .. }: the ways up to the Leave of the call
abbrev pub creates_thread : List Way
creates_thread =
    way (at 1 Enter) (Take 40 (Constant (pos 0))) (at 40 Leave) ∷
    way (at 40 Leave) (Take 41 (Constant (pos 0))) (at 41 Leave) ∷
    way (at 41 Leave) (Take 42 (FunctionName 1)) (at 42 Leave) ∷
    way (at 42 Leave) (Take 43 (Constant (pos 0))) (at 43 Leave) ∷
    way (at 43 Leave) (Into 44) (at 44 In0) ∷
    way (at 44 In0) (Out 44) (at 44 Leave) ∷ []

abbrev pub pthread_create : LibraryCall
pthread_create = library (codes "pthread_create") false (letter.Write ∷ letter.Kernel ∷ letter.ThreadFn ∷ letter.Kept ∷ []) result.Int effect.Thread (40 ∷ 41 ∷ 42 ∷ 43 ∷ [])

abbrev pub work : Function
work = record { node = 70; result = Pointer; parameters = record { variable = None; kind = Pointer } ∷ []; locals = [] }

abbrev pub fork : LibraryCall
fork = library (codes "fork") true [] result.Int effect.Fork []

-- fork and _Fork as the later profile has them
abbrev pub fork_later : LibraryCall
fork_later = library (codes "fork") false [] result.Int effect.Fork []

abbrev pub split : LibraryCall
split = library (codes "_Fork") true [] result.Int effect.Split []

-- .. fork(); F(); }
abbrev pub forks_and_calls : LibraryCall → Outline
forks_and_calls f = record {
  ways = creates_thread ++
      way (at 44 Leave) (Into 20) (at 20 In0) ∷
      way (at 20 In0) Apart (at 20 In1) ∷
      way (at 20 In1) (Forked 20) (at 20 Leave) ∷
      way (at 20 Leave) (Into 21) (at 21 In0) ∷ [];
  kinds = said 20 (Number long) ∷ said 21 (Number long) ∷ said 44 (Number long) ∷ [];
  places = [];
  calls = said 44 (Library pthread_create) ∷ said 20 (Library fork) ∷ said 21 (Library f) ∷ [];
  functions = main_function ∷ work ∷ [];
  variables = [];
  statics = [];
  fork_unsafe = false;
}

-- int spawn(void) { return fork(); }  .. spawn(); F(); }
abbrev pub spawns_and_calls : LibraryCall → Outline
spawns_and_calls f = record {
  ways = creates_thread ++
      way (at 44 Leave) Pass (at 22 In0) ∷
      way (at 22 In0) Apart (at 22 Leave) ∷
      way (at 22 Leave) (Into 21) (at 21 In0) ∷
      way (at 23 Enter) (Into 20) (at 20 In0) ∷
      way (at 20 In0) Apart (at 20 In1) ∷
      way (at 20 In1) (Forked 20) (at 20 Leave) ∷
      way (at 20 Leave) (Return 2 20) (at 24 Leave) ∷
      way (at 24 Leave) (Close 2) (at 23 Leave) ∷ [];
  kinds = said 20 (Number long) ∷ said 21 (Number long) ∷ said 44 (Number long) ∷ [];
  places = [];
  calls = said 44 (Library pthread_create) ∷ said 20 (Library fork) ∷ said 21 (Library f) ∷ said 22 (User (Named 2) []) ∷ [];
  functions = main_function ∷ work ∷ record { node = 23; result = Number int; parameters = []; locals = [] } ∷ [];
  variables = [];
  statics = [];
  fork_unsafe = false;
}

-- void prep(void) { F(); }  void h(int) { fork(); }  int main(void) { pthread_atfork(prep, 0, 0); signal(SIGINT, h); .. }
abbrev pub fork_handler : LibraryCall → Outline
fork_handler f = record {
  ways =
      way (at 1 Enter) (Take 50 (FunctionName 2)) (at 50 Leave) ∷
      way (at 50 Leave) (Take 51 (Constant (pos 0))) (at 51 Leave) ∷
      way (at 51 Leave) (Take 52 (Constant (pos 0))) (at 52 Leave) ∷
      way (at 52 Leave) (Into 53) (at 53 In0) ∷
      way (at 53 In0) (Out 53) (at 53 Leave) ∷
      way (at 53 Leave) (Take 2 (Constant sigint)) (at 2 Leave) ∷
      way (at 2 Leave) (Take 3 (FunctionName 1)) (at 3 Leave) ∷
      way (at 3 Leave) (Into 4) (at 4 In0) ∷
      way (at 4 In0) (Out 4) (at 4 Leave) ∷
      way (at 10 Enter) (Into 11) (at 11 In0) ∷
      way (at 11 In0) Apart (at 11 In1) ∷
      way (at 60 Enter) (Into 61) (at 61 In0) ∷
      way (at 61 In0) (Out 61) (at 61 Leave) ∷
      way (at 61 Leave) (Close 2) (at 60 Leave) ∷ [];
  kinds = said 10 Void ∷ said 11 (Number long) ∷ said 60 Void ∷ said 61 (Number long) ∷ said 53 (Number long) ∷ [];
  places = [];
  calls = said 4 (Library (signal 2 3)) ∷ said 53 (Library pthread_atfork) ∷ said 11 (Library fork) ∷ said 61 (Library f) ∷ [];
  functions = main_function ∷ handler_function 10 ∷ void_function 60 ∷ [];
  variables = [];
  statics = [];
  fork_unsafe = false;
}

-- .. F(0, 0, 0); }, where F is sigprocmask or pthread_sigmask
abbrev pub masks : LibraryCall → Outline
masks f = record {
  ways = creates_thread ++
      way (at 44 Leave) (Take 45 (Constant (pos 0))) (at 45 Leave) ∷
      way (at 45 Leave) (Take 46 (Constant (pos 0))) (at 46 Leave) ∷
      way (at 46 Leave) (Take 47 (Constant (pos 0))) (at 47 Leave) ∷
      way (at 47 Leave) (Into 48) (at 48 In0) ∷ [];
  kinds = said 44 (Number long) ∷ said 48 (Number long) ∷ [];
  places = [];
  calls = said 44 (Library pthread_create) ∷ said 48 (Library f) ∷ [];
  functions = main_function ∷ work ∷ [];
  variables = [];
  statics = [];
  fork_unsafe = false;
}

-- .. pthread_atfork(0, 0, chld);  fork(); }  void chld(void) { F(0); }
abbrev pub child_handler : LibraryCall → Outline
child_handler f = record {
  ways = creates_thread ++
      way (at 44 Leave) (Take 50 (Constant (pos 0))) (at 50 Leave) ∷
      way (at 50 Leave) (Take 51 (Constant (pos 0))) (at 51 Leave) ∷
      way (at 51 Leave) (Take 52 (FunctionName 2)) (at 52 Leave) ∷
      way (at 52 Leave) (Into 53) (at 53 In0) ∷
      way (at 53 In0) (Out 53) (at 53 Leave) ∷
      way (at 53 Leave) (Into 20) (at 20 In0) ∷
      way (at 20 In0) Apart (at 20 In1) ∷
      way (at 60 Enter) (Take 12 (Constant (pos 0))) (at 12 Leave) ∷
      way (at 12 Leave) (Into 61) (at 61 In0) ∷ [];
  kinds = said 20 (Number long) ∷ said 44 (Number long) ∷ said 53 (Number long) ∷ said 60 Void ∷ said 61 (Number long) ∷ [];
  places = [];
  calls = said 44 (Library pthread_create) ∷ said 53 (Library pthread_atfork) ∷ said 20 (Library fork) ∷ said 61 (Library f) ∷ [];
  functions = main_function ∷ work ∷ void_function 60 ∷ [];
  variables = [];
  statics = [];
  fork_unsafe = false;
}

abbrev pub mutex_call : List ℕ → LibraryCall
mutex_call name = library name false (letter.Kernel ∷ []) result.Int effect.Plain (12 ∷ [])

-- void prep(void) { .. }  void h(int) { rand(); }  int main(void) { pthread_atfork(prep, 0, 0); signal(SIGINT, h); fork(); .. }, where fork is
-- safe or isn't
abbrev pub interrupted_fork_handler : (is_safe : Bool) → Outline
interrupted_fork_handler is_safe = record {
  ways =
      way (at 1 Enter) (Take 50 (FunctionName 2)) (at 50 Leave) ∷
      way (at 50 Leave) (Take 51 (Constant (pos 0))) (at 51 Leave) ∷
      way (at 51 Leave) (Take 52 (Constant (pos 0))) (at 52 Leave) ∷
      way (at 52 Leave) (Into 53) (at 53 In0) ∷
      way (at 53 In0) (Out 53) (at 53 Leave) ∷
      way (at 53 Leave) (Take 2 (Constant sigint)) (at 2 Leave) ∷
      way (at 2 Leave) (Take 3 (FunctionName 1)) (at 3 Leave) ∷
      way (at 3 Leave) (Into 4) (at 4 In0) ∷
      way (at 4 In0) (Out 4) (at 4 Leave) ∷
      way (at 4 Leave) (Into 20) (at 20 In0) ∷
      way (at 20 In0) Apart (at 20 In1) ∷
      way (at 10 Enter) (Into 11) (at 11 In0) ∷ [];
  kinds = said 10 Void ∷ said 11 (Number long) ∷ said 20 (Number long) ∷ said 53 (Number long) ∷ said 60 Void ∷ [];
  places = [];
  calls = said 4 (Library (signal 2 3)) ∷ said 53 (Library pthread_atfork) ∷ said 20 (Library (library (codes "fork") is_safe [] result.Int effect.Fork [])) ∷ said 11 (Library rand) ∷ [];
  functions = main_function ∷ handler_function 10 ∷ void_function 60 ∷ [];
  variables = [];
  statics = [];
  fork_unsafe = not is_safe;
}

-- ---- the runs

pub record RunsThatBreakARule : Type 0 where
  -- in the exit processing behind main, h enters rand
  pub rand_in_exit : HasRun (one_handler sigint rand) Usual 8 (U ∷ [])
  -- h interrupts the exit processing, k interrupts h, and its helper enters rand
  pub rand_in_helper_of_nested_handler : HasRun (two_handlers rand) Usual 15 (U ∷ [])
  pub static_assigned : HasRun (writes_static false) Usual 8 (S ∷ [])
  -- close changes errno
  pub errno_changed : HasRun (with_argument sigint close_call) Usual 10 (E ∷ [])
  pub errno_changed_by_helper : HasRun (helper_assigns (Take 33 (Constant (pos 1)))) Usual 14 (E ∷ [])
  pub rand_in_child : HasRun (forks_and_calls rand) Usual 10 (F ∷ [])
  pub rand_in_child_behind_helper : HasRun (spawns_and_calls rand) Usual 15 (F ∷ [])
  pub rand_in_prepare_handler : HasRun (fork_handler rand) Usual 13 (A ∷ [])
  pub sigprocmask_among_threads : HasRun (masks sigprocmask) Usual 10 (M ∷ [])
  pub fault_handler_returns : HasRun (with_argument sigsegv wtermsig) Usual 10 (R ∷ [])
  -- a child fork handler may unlock a mutex, and not lock one
  pub lock_in_child_handler : HasRun (child_handler (mutex_call (codes "pthread_mutex_lock"))) Usual 16 (F ∷ [])
  -- under the later profile a prepare handler is in fork, which is unsafe
  pub rand_over_fork_handler : HasRun (interrupted_fork_handler false) Later 13 (U ∷ [])
  -- and so is fork itself
  pub fork_in_exit : HasRun (one_handler sigint fork_later) Later 8 (U ∷ [])

-- the same programs mended have runs of the same length in which no step breaks a rule
pub record RunsThatBreakNone : Type 0 where
  pub getpid_in_exit : HasRun (one_handler sigint getpid) Usual 8 []
  pub getpid_in_helper_of_nested_handler : HasRun (two_handlers getpid) Usual 15 []
  pub flag_assigned : HasRun (writes_static true) Usual 8 []
  pub errno_left : HasRun (with_argument sigint wtermsig) Usual 10 []
  pub errno_kept_by_helper : HasRun (helper_assigns (Read 33)) Usual 14 []
  pub getpid_in_child : HasRun (forks_and_calls getpid) Usual 10 []
  pub getpid_in_child_behind_helper : HasRun (spawns_and_calls getpid) Usual 15 []
  pub getpid_in_prepare_handler : HasRun (fork_handler getpid) Usual 13 []
  pub pthread_sigmask_among_threads : HasRun (masks pthread_sigmask) Usual 10 []
  pub unlock_in_child_handler : HasRun (child_handler (mutex_call (codes "pthread_mutex_unlock"))) Usual 16 []
  pub rand_over_safe_fork_handler : HasRun (interrupted_fork_handler true) Usual 13 []
  pub split_in_exit : HasRun (one_handler sigint split) Later 8 []

-- what is asked of a program is met by one of these
abbrev pub ExampleIsCode : Type 0
ExampleIsCode = IsCode (program (one_handler sigint rand))
