use Rattle.std.proofs.Common.{sym}
use Rattle.asafe.proofs.Putting.{goes_on, no_rest}
use Rattle.asafe.proofs.put.put_all.Goals as goal

pub loop-rest-preserved : goal.loop-rest-preserved
loop-rest-preserved g c = (
  rw c.split_at.ensures.back
      (goes_on c.args.bytes.now c.loop-rest.rest.now (g.K.Sink.taken c.args.out.now) (g.K.Sink.taken c.loop-rest.out) (g.K.Sink.taken c.put.new.self)
      (g.K.Sink.faults c.args.out.now) (g.K.Sink.faults c.loop-rest.out) (g.K.Sink.faults c.put.new.self) c.in-Ok.count
      c.loop-rest.invariant.0 c.in-Ok.ensures.taken c.in-Ok.ensures.later),
  λ empty. let t = c.loop-rest-test.ensures in absurd (no_rest c.args.bytes.now c.loop-rest.rest.now _ _ _ _ c.loop-rest.invariant.0 empty (sym c.loop-rest-test.ensures)),
)
