use Rattle.std.proofs.Common.{◌≡◌, ◌-◌, length, map, drop}
use Rattle.c_environment.specs.Fill as fill
use Rattle.c_environment.specs.Seen.{seen_environment}
use Rattle.c_environment.proofs.environment.Environment.with_rows.Given as goal

abbrev pub invariant-loop-row : goal.invariant-loop-row
invariant-loop-row l =
    fill.with_all_known (seen_environment l.self) (fill.known_rows l.place (map (λ row. row.name) (drop l.place l.table)))
    ≡ fill.with_all_known (seen_environment l.fn.self) (fill.known_rows 0 (map (λ row. row.name) l.fn.table))

abbrev pub decreases-loop-row : goal.decreases-loop-row
decreases-loop-row l = length l.table - l.place
