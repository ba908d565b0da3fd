use Rattle.std.proofs.Common.{◌≡◌, ◌-◌, ◌++◌, map, take, drop}
use Rattle.base_core.proofs.mem_sink.count_down.Given as goal

abbrev pub invariant-loop-left : goal.invariant-loop-left
invariant-loop-left l = l.planned ≡ map (λ left. left - 1) (take l.left-index l.fn.planned) ++ drop l.left-index l.fn.planned
