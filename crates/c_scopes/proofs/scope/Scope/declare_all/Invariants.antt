use Rattle.std.proofs.Common.{◌≡◌, drop}
use Rattle.c_scopes.specs.Kept.{with_all}
use Rattle.c_scopes.proofs.scope.Scope.declare_all.Given as goal

abbrev pub invariant-loop-one : goal.invariant-loop-one
invariant-loop-one l = with_all l.self (drop l.one-index l.names) ≡ with_all l.fn.self l.fn.names
