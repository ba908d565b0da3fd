-- Sets of signals, and the masks that stand for them: bit k of a mask is the signal k + 1.
use Rattle.std.specs.Prelude.{◌≡◌, ℕ, suc, zero, ◌+◌, ◌*◌, ◌^◌, ◌≤◌, ◌==◌, Bool, true, false, cond}
use Rattle.std.specs.Int.{bit_at}
use Rattle.std.specs.Ordering.{nat_cmp}
use Rattle.std.specs.FinSet.{FinSet, empty, insert, contains}

-- the members are numbers of signals
abbrev pub AreSignals : FinSet nat_cmp → Type 0
AreSignals signals = (signal : ℕ) → contains signals signal ≡ true → (1 ≤ signal) × (signal ≤ 28)

-- the numbers k + 1 up to the given one for which k passes
abbrev pub signals_where : (ℕ → Bool) → ℕ → FinSet nat_cmp
signals_where passes zero = empty
signals_where passes (suc k) = elim (passes k) [ true ↦ insert (signals_where passes k) (suc k) | false ↦ signals_where passes k ]

-- all 28 signals (POSIX.1-2017 XBD signal.h)
unfoldable pub every_signal : FinSet nat_cmp
every_signal = signals_where (λ k. true) 28

-- whether a mask has the bit
abbrev pub has_bit : ℕ → ℕ → Bool
has_bit mask k = bit_at mask k == 1

-- the signals of a mask
unfoldable pub signals_of : ℕ → FinSet nat_cmp
signals_of mask = signals_where (has_bit mask) 28

-- the mask of the signals up to the given one that a set has
abbrev pub mask_to : FinSet nat_cmp → ℕ → ℕ
mask_to signals zero = 0
mask_to signals (suc k) = cond (contains signals (suc k)) 1 0 * 2 ^ k + mask_to signals k

-- the mask of a set of signals
unfoldable pub mask_of : FinSet nat_cmp → ℕ
mask_of signals = mask_to signals 28
