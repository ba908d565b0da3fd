use Rattle.std.proofs.Common.{◌≡◌, ◌≤◌, ◌++◌, length, drop}
use Rattle.abstract_values.proofs.Walks.{walk_join}
use Rattle.abstract_values.proofs.slots.join_entries.Given as goal

abbrev pub invariant-loop-entry : goal.invariant-loop-entry
invariant-loop-entry l = (l.place ≤ length l.right) × (l.all.items ++ walk_join (drop l.entry-index l.left) (drop l.place l.right) ≡ walk_join l.left l.right)
