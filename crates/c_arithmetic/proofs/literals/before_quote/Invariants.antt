use Rattle.std.proofs.Common.{◌≡◌, ◌++◌, take, drop}
use Rattle.c_arithmetic.specs.Literals as spec
use Rattle.c_arithmetic.proofs.literals.before_quote.Given as goal

abbrev pub invariant-loop-k : goal.invariant-loop-k
invariant-loop-k l = spec.before_quote l.bytes ≡ take l.k l.bytes ++ spec.before_quote (drop l.k l.bytes)
