use Rattle.std.proofs.Common.{◌≡◌, ◌++◌, take, drop}
use Rattle.c_arithmetic.specs.Literals as spec
use Rattle.c_arithmetic.proofs.literals.before_suffix.Given as goal

abbrev pub invariant-loop-k : goal.invariant-loop-k
invariant-loop-k l = spec.before_suffix l.bytes ≡ take l.k l.bytes ++ spec.before_suffix (drop l.k l.bytes)
