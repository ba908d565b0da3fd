-- How calls change the mask of their thread: pthread_sigmask and sigprocmask, sigsuspend and pselect (POSIX.1-2017 XSH).
use Rattle.std.specs.Prelude.{◌≡◌, ◌≢◌, ℕ, pos, Option, Some, None, cond, nat_eq}
use Rattle.posix_table.specs.declared.kind.Effect.{Effect}
use Rattle.posix_table.specs.declared.kind.Effect.TheVariants as effect
use Rattle.run_model.specs.Signals.{Mask, union, minus}
use Rattle.run_model.specs.Values.{Int, Value, Scalar, Signals}
use Rattle.run_model.specs.Code.{LibraryCall}
use Rattle.run_model.specs.Places.{Local}
use Rattle.run_model.specs.Arguments.{argument, SetBehind}

pub data HowToMask : Type 0 where
  Block Unblock SetMask NoChange : HowToMask

-- the numbers of SIG_BLOCK, SIG_UNBLOCK and SIG_SETMASK
abbrev pub how_to_mask : Value → HowToMask
how_to_mask (Scalar (Int (pos n))) = cond (nat_eq n 1) Block (cond (nat_eq n 2) Unblock (cond (nat_eq n 3) SetMask NoChange))
how_to_mask _ = NoChange

abbrev pub masked : HowToMask → Mask → Mask → Mask
masked Block s m = union m s
masked Unblock s m = minus m s
masked SetMask s m = s
masked NoChange s m = m

-- without a set the mask stays
abbrev pub masked_by : Option Mask → HowToMask → Mask → Mask
masked_by None how m = m
masked_by (Some s) how m = masked how s m

-- the mask after the call n. A call that waits has the mask from before as its own value, and gives it back
pub data MaskAfter (n : ℕ) (call : LibraryCall) (l : Local) : Effect → Mask → Type 0 where
  mask : {s : Option Mask} → SetBehind l.shared (argument call l.vals 1) s → MaskAfter n call l effect.Mask (masked_by s (how_to_mask (argument call l.vals 0)) l.mask)
  wait : {m : Mask} → l.vals n ≡ Signals m → MaskAfter n call l effect.Wait m
  other : {e : Effect} → e ≢ effect.Mask → e ≢ effect.Wait → MaskAfter n call l e l.mask

-- the mask during a wait
abbrev pub waited : Option Mask → Mask → Mask
waited None m = m
waited (Some s) m = s
