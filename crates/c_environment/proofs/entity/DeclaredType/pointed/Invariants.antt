use Rattle.std.proofs.Common.{◌≡◌, drop}
use Rattle.c_environment.specs.Types as plain
use Rattle.c_environment.specs.Seen.{seen_type}
use Rattle.c_environment.proofs.entity.DeclaredType.pointed.Given as goal

abbrev pub invariant-loop-quals : goal.invariant-loop-quals
invariant-loop-quals l = plain.pointed (drop l.quals-index l.stars) (seen_type l.of) ≡ plain.pointed l.fn.stars (seen_type l.fn.self)
