-- Worlds of a flat program: one process with one thread, until it ends.
use Rattle.std.specs.Prelude.{◌≡◌, ℕ, ℤ, List, [], ◌∷◌, Bool, false, ◌||◌, nat_eq, FitsSigned}
use Rattle.std.specs.Int.{w32}
use Rattle.base_core.specs.declared.id.Phase.TheVariants.{Enter}
use Rattle.flat_programs.specs.Positions.{Function, Main, Whole, Position, at}

-- a value of C's type int, here of 32 bits
abbrev pub IsInt : ℤ → Type 0
IsInt n = FitsSigned w32 n

-- which signals are blocked (POSIX.1-2017 XSH 2.4.1)
abbrev pub Mask : Type 0
Mask = ℕ → Bool

abbrev pub none_blocked : Mask
none_blocked = λ s. false

abbrev pub union : Mask → Mask → Mask
union m n = λ s. m s || n s

abbrev pub with_signal : Mask → ℕ → Mask
with_signal m signal = λ s. nat_eq s signal || m s

-- how a frame began: as its thread's first, or by the arrival of a signal while the thread had this mask and this errno
pub data Beginning : Type 0 where
  Base : Beginning
  Arrived : (signal : ℕ) (mask : Mask) (errno : ℤ) → Beginning

-- a function that runs or is interrupted
pub record Frame : Type 0 where
  pub function : Function
  pub position : Position
  pub began : Beginning

abbrev pub frame : Function → Position → Beginning → Frame
frame f p began = record { function = f; position = p; began = began }

-- the frame that runs stands first in the stack, and each other is interrupted by the one before it
pub record Thread : Type 0 where
  pub mask : Mask
  pub errno : ℤ
  pub stack : List Frame

abbrev pub thread : Mask → ℤ → List Frame → Thread
thread mask errno stack = record { mask = mask; errno = errno; stack = stack }

-- what the arrival of a signal does: the default action, or a call of a handler, during which this mask is blocked besides
-- (POSIX.1-2017 XSH 2.4.3)
pub data Disposition : Type 0 where
  Default : Disposition
  Caught : (handler : Function) (blocked : Mask) → Disposition

abbrev pub Dispositions : Type 0
Dispositions = ℕ → Disposition

pub record Process : Type 0 where
  pub dispositions : Dispositions
  pub thread : Thread

abbrev pub process : Dispositions → Thread → Process
process a u = record { dispositions = a; thread = u }

-- the processes: one, and none behind its end
abbrev pub World : Type 0
World = List Process

-- main's function is called at program startup (C11 5.1.2.2.1), with any mask and any errno, and no handler is installed
pub record IsStart (w : World) : Type 0 where
  pub mask : Mask
  pub errno : ℤ
  pub int : IsInt errno
  pub is : w ≡ process (λ s. Default) (thread mask errno (frame Main (at Whole Enter) Base ∷ [])) ∷ []
