-- Signals and sets of signals (POSIX.1-2017 XBD signal.h, XSH 2.4.1).
use Rattle.std.specs.Prelude.{ℕ, Bool, false, ◌||◌, ◌&&◌, not, nat_eq, nat_lt}
use Rattle.base_core.specs.Signal.{sigkill, sigstop}

-- a set of signals, as the mask of blocked signals that each thread has
abbrev pub Mask : Type 0
Mask = ℕ → Bool

abbrev pub no_signal : Mask
no_signal = λ s. false

-- the signals have the numbers 1 to 28
abbrev pub is_signal : ℕ → Bool
is_signal s = nat_lt 0 s && nat_lt s 29

abbrev pub with_signal : Mask → ℕ → Mask
with_signal m s = λ k. nat_eq k s || m k

abbrev pub without_signal : Mask → ℕ → Mask
without_signal m s = λ k. not (nat_eq k s) && m k

abbrev pub union : Mask → Mask → Mask
union m n = λ k. m k || n k

abbrev pub minus : Mask → Mask → Mask
minus m n = λ k. m k && not (n k)

abbrev pub sigbus : ℕ
sigbus = 3

abbrev pub sigfpe : ℕ
sigfpe = 6

abbrev pub sigill : ℕ
sigill = 8

abbrev pub sigsegv : ℕ
sigsegv = 15

abbrev pub sigtrap : ℕ
sigtrap = 19

-- SIGKILL and SIGSTOP can't be caught (XSH 2.4.3)
abbrev pub can_be_caught : ℕ → Bool
can_be_caught s = is_signal s && not (nat_eq s sigkill) && not (nat_eq s sigstop)

-- SIGILL and SIGTRAP can't be reset by SA_RESETHAND (XSH sigaction)
abbrev pub can_be_reset : ℕ → Bool
can_be_reset s = not (nat_eq s sigill) && not (nat_eq s sigtrap)

-- the signals of hardware faults
abbrev pub is_fault : ℕ → Bool
is_fault s = nat_eq s sigbus || nat_eq s sigfpe || nat_eq s sigill || nat_eq s sigsegv
