use Rattle.std.proofs.Common.{◌≡◌, ℕ, List, None}
use Rattle.std.specs.Prelude.{slice_get}
use Rattle.flow_form.specs.Positions.{Ways}
use Rattle.flow_form.specs.Table.{pick}
use Rattle.flow_form.proofs.table.empty_index.Given as goal

abbrev pub invariant-loop : goal.invariant-loop
invariant-loop l = (rs : List Ways) (k : ℕ) → pick (slice_get l.index.items k) rs ≡ None
