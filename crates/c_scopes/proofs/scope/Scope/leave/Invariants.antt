use Rattle.std.proofs.Common.{◌≡◌, length}
use Rattle.c_scopes.specs.Scope as blocks
use Rattle.c_scopes.specs.Kept.{latest}
use Rattle.c_scopes.proofs.scope.Scope.leave.Given as goal

abbrev pub invariant-loop-self : goal.invariant-loop-self
invariant-loop-self l = blocks.leave l.self ≡ blocks.leave l.fn.self

abbrev pub decreases-loop-self : goal.decreases-loop-self
decreases-loop-self l = length (latest l.self)
