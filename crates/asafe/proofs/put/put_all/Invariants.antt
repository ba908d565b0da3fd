use Rattle.std.proofs.Common.{◌≡◌, [], length}
use Rattle.asafe.proofs.Putting.{Goes}
use Rattle.asafe.proofs.put.put_all.Given as goal

abbrev pub invariant-loop-rest : goal.invariant-loop-rest
invariant-loop-rest g l = Goes l.bytes l.rest (g.K.Sink.taken l.fn.out) (g.K.Sink.taken l.out) (g.K.Sink.faults l.fn.out) (g.K.Sink.faults l.out) × (l.fn.bytes ≡ [] → l.out ≡ l.fn.out)

abbrev pub decreases-loop-rest : goal.decreases-loop-rest
decreases-loop-rest g l = length l.rest
