use Rattle.std.proofs.Common.{◌≡◌, ◌+◌, ◌-◌, ◌≤◌, length, drop, nat_lt}
use Rattle.abstract_values.specs.Places.{leading}
use Rattle.abstract_values.proofs.functions.place_of.Given as goal

abbrev pub invariant-loop-place : goal.invariant-loop-place
invariant-loop-place l = (l.place ≤ length l.codes) × (l.place + leading (λ c. nat_lt c l.code) (drop l.place l.codes) ≡ l.initial.place + leading (λ c. nat_lt c l.code) (drop l.initial.place l.codes))

abbrev pub decreases-loop-place : goal.decreases-loop-place
decreases-loop-place l = length l.codes - l.place
