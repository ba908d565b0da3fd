use Rattle.std.proofs.Common.{◌≡◌, ◌++◌, map, drop}
use Rattle.c_environment.specs.Entity.{variables_of}
use Rattle.c_environment.specs.Seen.{seen_variable, seen_entity}
use Rattle.c_environment.proofs.entity.variables_among.Given as goal

abbrev pub invariant-loop-one : goal.invariant-loop-one
invariant-loop-one l =
    map seen_variable l.variables.items ++ variables_of (map seen_entity (drop l.one-index l.all)) ≡ variables_of (map seen_entity l.fn.all)
