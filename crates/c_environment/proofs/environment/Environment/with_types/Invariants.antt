use Rattle.std.proofs.Common.{◌≡◌, map, drop}
use Rattle.c_environment.specs.Fill as fill
use Rattle.c_environment.specs.Seen.{seen_environment}
use Rattle.c_environment.proofs.environment.Environment.with_types.Given as goal

abbrev pub invariant-loop-one : goal.invariant-loop-one
invariant-loop-one l =
    fill.with_all_known (seen_environment l.self) (map fill.known_type (map (λ t. (t.name.now, t.names)) (drop l.one-index l.all)))
    ≡ fill.with_all_known (seen_environment l.fn.self) (map fill.known_type (map (λ t. (t.name.now, t.names)) l.fn.all))
