-- The arrival of a signal at its handler (C11 7.14.1.1, POSIX.1-2017 XSH 2.4.3, sigaction).
use Rattle.std.specs.Prelude.{◌≡◌, ℕ, pos, List, [], ◌∷◌, Some, Bool, true, false, cond, not}
use Rattle.run_model.specs.Signals.{Mask, with_signal, union, can_be_reset}
use Rattle.run_model.specs.Kinds.{PartsKind}
use Rattle.run_model.specs.Values.{Int, Ptr, Value, Scalar, update}
use Rattle.run_model.specs.Objects.{OfItems, Object, Objects}
use Rattle.run_model.specs.Code.{OfArrival}
use Rattle.run_model.specs.World.{Setter, Disposition, default}
use Rattle.run_model.specs.Installs.{has_flag, sa_nodefer, sa_resethand}

-- Whether the signal is blocked until the handler leaves, and whether its disposition is reset to SIG_DFL. Of a handler that signal() set
-- both are free. One that sigaction set is blocked unless SA_NODEFER is set; with SA_RESETHAND it is reset, where that can be, and may be
-- blocked unless SA_NODEFER is set
pub data Defers (sig : ℕ) (d : Disposition) : (blocks resets : Bool) → Type 0 where
  signal : {blocks resets : Bool} → d.by ≡ Setter.BySignal → Defers sig d blocks resets
  plain : d.by ≡ Setter.BySigaction → has_flag d.flags sa_resethand ≡ false → Defers sig d (not (has_flag d.flags sa_nodefer)) false
  resetting : {blocks : Bool} → d.by ≡ Setter.BySigaction → has_flag d.flags sa_resethand ≡ true → (has_flag d.flags sa_nodefer ≡ true → blocks ≡ false) → Defers sig d blocks (can_be_reset sig)

-- the mask while the handler runs: that of the thread with sa_mask, and with the signal where it is blocked
abbrev pub mask_in_handler : Mask → Disposition → ℕ → Bool → Mask
mask_in_handler mask d sig blocks = cond blocks (with_signal (union mask d.mask) sig) (union mask d.mask)

abbrev pub after_arrival : (ℕ → Disposition) → ℕ → Bool → ℕ → Disposition
after_arrival disp sig resets = cond resets (update disp sig default) disp

-- the objects that the second and third parameter point to: a siginfo_t and the context that was interrupted
abbrev pub arrival_object : ℕ → Object
arrival_object f = record { origin = OfArrival f; inside = true; gone = false; kind = PartsKind; content = OfItems [] }

abbrev pub with_arrival : ℕ → ℕ → ℕ → Objects → Objects
with_arrival f o p objects = update (update objects o (Some (arrival_object f))) p (Some (arrival_object f))

abbrev pub values_of_arrival : ℕ → ℕ → ℕ → List Value
values_of_arrival sig o p = Scalar (Int (pos sig)) ∷ Scalar (Ptr o) ∷ Scalar (Ptr p) ∷ []
