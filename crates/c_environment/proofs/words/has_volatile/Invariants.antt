use Rattle.std.proofs.Common.{◌≡◌, drop}
use Rattle.c_environment.specs.Types as plain
use Rattle.c_environment.proofs.words.has_volatile.Given as goal

abbrev pub invariant-loop-qual : goal.invariant-loop-qual
invariant-loop-qual l = plain.has_volatile (drop l.qual-index l.quals) ≡ plain.has_volatile l.fn.quals
