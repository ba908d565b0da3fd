-- Counts of faults.
use Rattle.std.specs.Prelude.{ℕ, ◌+◌, ◌-◌, ◌^◌, ◌≤◌, min}

-- a count, one higher, which stands still at the last value of a u64
abbrev pub raised : ℕ → ℕ
raised count = min (count + 1) (2 ^ 64 - 1)

-- a count rose in a call, or stands at the last value that it can have
abbrev pub Rose : ℕ → ℕ → Type 0
Rose before now = raised before ≤ now
