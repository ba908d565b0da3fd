use Rattle.std.proofs.Common.{◌≡◌, ◌+◌, ◌-◌, ◌≤◌, length, drop}
use Rattle.abstract_values.specs.Places.{leading}
use Rattle.abstract_values.specs.Keys.{is_before}
use Rattle.abstract_values.proofs.slots.place_of.Given as goal

abbrev pub invariant-loop-place : goal.invariant-loop-place
invariant-loop-place l = (l.place ≤ length l.entries) × (l.place + leading (λ e. is_before e.0 l.key) (drop l.place l.entries) ≡ l.initial.place + leading (λ e. is_before e.0 l.key) (drop l.initial.place l.entries))

abbrev pub decreases-loop-place : goal.decreases-loop-place
decreases-loop-place l = length l.entries - l.place
