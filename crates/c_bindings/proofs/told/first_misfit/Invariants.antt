use Rattle.std.proofs.Common.{◌≡◌, map, drop}
use Rattle.c_bindings.specs.Seen.{seen_told}
use Rattle.c_bindings.specs.Told.{first_misfit}
use Rattle.c_bindings.proofs.Further.{further}
use Rattle.c_bindings.proofs.told.first_misfit.Given as goal

abbrev pub invariant-loop-k : goal.invariant-loop-k
invariant-loop-k l = further l.k (first_misfit (map seen_told (drop l.k l.all))) ≡ first_misfit (map seen_told l.fn.all)
