use Rattle.std.proofs.Common.{◌≡◌, ◌++◌, take, drop}
use Rattle.base_core.specs.PlannedFailures.{one_nearer}
use Rattle.base_core.proofs.mem_shelf.count_down.Given as goal

abbrev pub invariant-loop-failure : goal.invariant-loop-failure
invariant-loop-failure l = l.planned ≡ one_nearer (take l.failure-index l.fn.planned) ++ drop l.failure-index l.fn.planned
