-- Dispositions that are set: signal and sigaction (C11 7.14.1.1, POSIX.1-2017 XSH signal, sigaction).
use Rattle.std.specs.Prelude.{◌≡◌, ◌⊎◌, ℕ, ℤ, pos, negsuc, Option, Some, None, Bool, true, false, cond, not, ◌||◌, nat_eq, nat_lt, bit_and, Contains}
use Rattle.posix_table.specs.declared.kind.ResultKind.{ResultKind}
use Rattle.posix_table.specs.declared.kind.ResultKind.TheVariants as result
use Rattle.c_arithmetic.specs.Types.{int, long}
use Rattle.run_model.specs.Signals.{Mask, no_signal, can_be_caught}
use Rattle.run_model.specs.Kinds.{InRange}
use Rattle.run_model.specs.Values.{Word, Int, Ptr, Fn, AWord, Scalar, update}
use Rattle.run_model.specs.Objects.{OfAction, Object}
use Rattle.run_model.specs.Code.{LibraryCall}
use Rattle.run_model.specs.World.{Setter, Disposition, default, Shared}
use Rattle.run_model.specs.Places.{Local, IsThere}
use Rattle.run_model.specs.Arguments.{argument, signal_of, items_in}
use Rattle.run_model.specs.LibraryWrites.{is_action}

-- the bits of SA_NODEFER and SA_RESETHAND
abbrev pub sa_nodefer : ℕ
sa_nodefer = 2

abbrev pub sa_resethand : ℕ
sa_resethand = 4

-- a number of flags has this bit; the negative number -1 - n is the complement of n (C11 6.5.3.3p4)
abbrev pub has_flag : ℤ → ℕ → Bool
has_flag (pos n) bit = nat_eq (bit_and n bit) bit
has_flag (negsuc n) bit = not (nat_eq (bit_and n bit) bit)

-- a handler that can be set: a function, SIG_DFL or SIG_IGN
abbrev pub is_handler : Word → Bool
is_handler (Int (pos n)) = nat_lt n 2
is_handler (Fn f) = true
is_handler _ = false

abbrev pub is_function_word : Word → Bool
is_function_word (Fn f) = true
is_function_word _ = false

-- the disposition that a call asks for. Of the calls that set one, signal gives the old handler back
pub data Sets (call : LibraryCall) (l : Local) : ResultKind → Disposition → Type 0 where
  by_signal : {w : Word} → argument call l.vals 1 ≡ Scalar w → is_handler w ≡ true → Sets call l result.OldHandler (record { handler = w; mask = no_signal; flags = pos 0; by = Setter.BySignal })
  by_sigaction : {o : ℕ} {x : Object} {w : Word} {m : Mask} {g : ℤ} → argument call l.vals 1 ≡ Scalar (Ptr o) → IsThere l.shared o x → x.content ≡ OfAction w m g → is_handler w ≡ true
      → Sets call l result.Int (record { handler = w; mask = m; flags = g; by = Setter.BySigaction })
  -- from an object of another type: any mask, any flags, and as handler a stored value or an integer
  by_other : {o : ℕ} {x : Object} {w : Word} {m : Mask} {g : ℤ} → argument call l.vals 1 ≡ Scalar (Ptr o) → IsThere l.shared o x → is_action x.content ≡ false
      → Contains (items_in x.content) (AWord w) ⊎ ((i : ℤ) × InRange long i × (w ≡ Int i)) → is_handler w ≡ true → InRange int g
      → Sets call l result.Int (record { handler = w; mask = m; flags = g; by = Setter.BySigaction })

-- the disposition of that signal, SIG_DFL where the number is none
abbrev pub disposition_of : Shared → Option ℕ → Disposition
disposition_of s None = default
disposition_of s (Some k) = s.disp k

abbrev pub installed_at : Shared → Option ℕ → Disposition → Shared
installed_at s None d = s
installed_at s (Some k) d = cond (can_be_caught k) (record s { disp = update s.disp k d; handled = is_function_word d.handler || s.handled }) s

-- a call that sets a disposition: it fails or changes nothing, or the signal has the disposition
pub data Installs (call : LibraryCall) (l : Local) : Shared → Type 0 where
  nothing : Installs call l l.shared
  sets : {d : Disposition} → Sets call l call.row.result d → Installs call l (installed_at l.shared (signal_of (argument call l.vals 0)) d)
