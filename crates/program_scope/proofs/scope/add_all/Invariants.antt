use Rattle.std.proofs.Common.{◌≡◌, map, drop}
use Rattle.program_scope.specs.With.{with_all}
use Rattle.program_scope.proofs.scope.add_all.Given as goal

abbrev pub invariant-loop-name : goal.invariant-loop-name
invariant-loop-name l = with_all l.names (map (λ w. w.now) (drop l.name-index l.all)) ≡ with_all l.fn.names (map (λ w. w.now) l.fn.all)
