use Rattle.std.proofs.Common.{ap, ◌∙◌}
use Rattle.std.specs.FinSet.{intersection}
use Rattle.sig_set.specs.Signals.{signals_of}
use Rattle.sig_set.specs.Members.{signals_in_range}
use Rattle.sig_set.proofs.Operations.{meet_of}
use Rattle.sig_set.proofs.SigSet.meet.Goals as goal

pub returns-clause-value : goal.returns-clause-value
returns-clause-value c =
    meet_of c.self.inside.mask c.o.inside.mask ∙ ap (λ signals. intersection signals (signals_of c.o.inside.mask)) c.self.view_is
    ∙ ap (intersection c.args.self) c.o.view_is

pub returns-clause-range : goal.returns-clause-range
returns-clause-range c = signals_in_range _
