use Rattle.std.proofs.Common.{◌≡◌, ℕ, take}
use Rattle.std.specs.Prelude.{slice_get}
use Rattle.flow_form.specs.Table.{pick, found}
use Rattle.flow_form.proofs.table.index_of.Given as goal

abbrev pub invariant-loop-row : goal.invariant-loop-row
invariant-loop-row l = (l.i ≡ l.row-index) × ((k : ℕ) → pick (slice_get l.index.items k) l.rows ≡ found k (take l.row-index l.rows))
