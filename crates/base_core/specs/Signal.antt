-- The names of the signals.
use Rattle.std.specs.Prelude.{◌≢◌, ℕ, List, [], ◌∷◌, Option, codes}
use Rattle.std.specs.List.{position_from}
use Rattle.std.specs.Str.{bytes_eq}

-- the signals of <signal.h>, in the order of their numbers from 1 (POSIX.1-2017 XBD signal.h)
abbrev pub signal_names : List (List ℕ)
signal_names =
    codes "SIGABRT" ∷ codes "SIGALRM" ∷ codes "SIGBUS" ∷ codes "SIGCHLD" ∷ codes "SIGCONT" ∷ codes "SIGFPE" ∷ codes "SIGHUP" ∷
    codes "SIGILL" ∷ codes "SIGINT" ∷ codes "SIGKILL" ∷ codes "SIGPIPE" ∷ codes "SIGPOLL" ∷ codes "SIGPROF" ∷ codes "SIGQUIT" ∷
    codes "SIGSEGV" ∷ codes "SIGSTOP" ∷ codes "SIGSYS" ∷ codes "SIGTERM" ∷ codes "SIGTRAP" ∷ codes "SIGTSTP" ∷ codes "SIGTTIN" ∷
    codes "SIGTTOU" ∷ codes "SIGURG" ∷ codes "SIGUSR1" ∷ codes "SIGUSR2" ∷ codes "SIGVTALRM" ∷ codes "SIGXCPU" ∷ codes "SIGXFSZ" ∷ []

-- the number of the signal of that name: its place in the list, counted from 1
unfoldable pub signal_named : List ℕ → Option ℕ
signal_named name = position_from (λ known. bytes_eq known name) 1 signal_names

-- the numbers of SIGKILL and SIGSTOP
abbrev pub sigkill : ℕ
sigkill = 10

abbrev pub sigstop : ℕ
sigstop = 16

-- a signal-catching function may be set for the signal (POSIX.1-2017 XSH 2.4.3: SIGKILL and SIGSTOP can't be caught)
pub record CanBeCaught (signal : ℕ) : Type 0 where
  pub not_kill : signal ≢ sigkill
  pub not_stop : signal ≢ sigstop
