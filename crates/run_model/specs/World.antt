-- Worlds: processes, threads and frames (POSIX.1-2017 XBD 3.210, 3.297, 3.404; XSH 2.4).
use Rattle.std.specs.Prelude.{ℕ, ℤ, pos, List, [], ◌∷◌, Option, Bool, true, false, cond, ◌||◌}
use Rattle.base_core.specs.declared.id.Pos.{Pos}
use Rattle.run_model.specs.Signals.{Mask, no_signal}
use Rattle.run_model.specs.Values.{Word, zero_word, NoValue, Values}
use Rattle.run_model.specs.Objects.{Objects}
use Rattle.run_model.specs.Code.{Code}

-- what a fork handler runs for (XSH pthread_atfork)
pub data Role : Type 0 where
  NoRole Prepare Parent Child : Role

-- how a frame began: as its thread's first, by a call, by the arrival of a signal while the thread had this mask and this errno, or as a
-- fork handler
pub data How : Type 0 where
  Base : How
  Called : How
  Arrived : (sig : ℕ) (saved : Mask) (errno : ℤ) → How
  Handles : (r : Role) → How

-- who set a disposition
pub data Setter : Type 0 where
  Nobody BySigaction BySignal : Setter

-- what is done at the arrival of a signal (XSH 2.4.3)
pub record Disposition : Type 0 where
  pub handler : Word
  pub mask : Mask
  pub flags : ℤ
  pub by : Setter

-- SIG_DFL
abbrev pub default : Disposition
default = record { handler = zero_word; mask = no_signal; flags = pos 0; by = Setter.Nobody }

pub record Frame : Type 0 where
  pub fn : ℕ
  pub how : How
  pub pos : Pos
  -- the values of the pending nodes
  pub vals : Values
  -- the objects of its automatic variables
  pub locals : ℕ → Option ℕ
  -- at In0 and In1 of fork: the fork handlers that are still to run
  pub to_run : List Word
  -- from In0 to Leave of a call that sets a disposition: the one from before
  pub old : Option Disposition

-- the frame that runs stands first
pub record Thread : Type 0 where
  pub mask : Mask
  pub errno : ℤ
  pub stack : List Frame

-- the fork handlers of one call of pthread_atfork
pub record Registered : Type 0 where
  pub prepare : Word
  pub parent : Word
  pub child : Word

-- what the threads of a process share
pub record Shared : Type 0 where
  pub objects : Objects
  -- the disposition of each signal
  pub disp : ℕ → Disposition
  -- in the order of their registration
  pub forks : List Registered
  -- a handler function was ever set
  pub handled : Bool
  -- the objects that were written while the process was handled
  pub stirred : ℕ → Bool

pub record Process : Type 0 where
  pub shared : Shared
  -- a child of a multi-threaded process: until it calls exec it may execute only async-signal-safe operations (XSH fork)
  pub confined : Bool
  pub threads : List Thread

abbrev pub World : Type 0
World = List Process

abbrev pub is_arrival : How → Bool
is_arrival (Arrived sig saved errno) = true
is_arrival _ = false

-- an arrival frame is among them: the thread runs a handler
abbrev pub in_handler : List Frame → Bool
in_handler [] = false
in_handler (f ∷ fs) = is_arrival f.how || in_handler fs

-- the values that are pending at a position
abbrev pub keep : Code → Pos → Values → Values
keep code to vals = λ n. cond (code.pending n to) (vals n) NoValue
