use Rattle.std.proofs.Common.{◌≡◌, drop}
use Rattle.c_environment.specs.Types as plain
use Rattle.c_environment.proofs.words.has_const.Given as goal

abbrev pub invariant-loop-qual : goal.invariant-loop-qual
invariant-loop-qual l = plain.has_const (drop l.qual-index l.quals) ≡ plain.has_const l.fn.quals
