-- Which of the next calls are to fail.
use Rattle.std.specs.Prelude.{ℕ, ◌-◌, ◌==◌, List, Option, find, map, reverse}
use Rattle.std.specs.Option.{option_map}
use Rattle.base_core.specs.declared.mem_shelf.PlannedFailure.{PlannedFailure}

-- how many bytes the n-th call from now leaves, where it is to fail and is a write: what was planned last counts
abbrev pub kept_at : List PlannedFailure → ℕ → Option ℕ
kept_at planned n = option_map (λ (failure : PlannedFailure). failure.kept) (find (λ (failure : PlannedFailure). failure.call == n) (reverse planned))

-- each planned failure, one call nearer
abbrev pub one_nearer : List PlannedFailure → List PlannedFailure
one_nearer planned = map (λ (failure : PlannedFailure). record failure { call = failure.call - 1 }) planned
