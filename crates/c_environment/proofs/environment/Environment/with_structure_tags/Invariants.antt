use Rattle.std.proofs.Common.{◌≡◌, map, drop}
use Rattle.c_environment.specs.Fill as fill
use Rattle.c_environment.specs.Seen.{seen_environment}
use Rattle.c_environment.proofs.environment.Environment.with_structure_tags.Given as goal

abbrev pub invariant-loop-name : goal.invariant-loop-name
invariant-loop-name l =
    fill.with_tags (seen_environment l.self) l.number (map (λ t. t.now) (drop l.name-index l.all))
    ≡ fill.with_tags (seen_environment l.fn.self) 0 (map (λ t. t.now) l.fn.all)
