use Rattle.std.proofs.Common.{◌≡◌, map, drop}
use Rattle.c_environment.specs.Fill as fill
use Rattle.c_environment.specs.Seen.{seen_environment}
use Rattle.c_environment.proofs.environment.Environment.with_built_in_structures.Given as goal

abbrev pub invariant-loop-members : goal.invariant-loop-members
invariant-loop-members l =
    fill.with_built_in_structures (seen_environment l.self) (map (λ ms. map (λ m. (m.name.now, m.holds)) ms.now) (drop l.members-index l.all))
    ≡ fill.with_built_in_structures (seen_environment l.fn.self) (map (λ ms. map (λ m. (m.name.now, m.holds)) ms.now) l.fn.all)
