use Rattle.std.proofs.Common.{ap, ◌∙◌, subst}
use Rattle.std.specs.FinSet.{is_subset}
use Rattle.sig_set.specs.Signals.{AreSignals, signals_of}
use Rattle.sig_set.specs.Members.{signals_in_range}
use Rattle.sig_set.proofs.Operations.{below_of}
use Rattle.sig_set.proofs.SigSet.below.Goals as goal

pub returns-clause-value : goal.returns-clause-value
returns-clause-value c =
    below_of c.self.inside.mask c.o.inside.mask c.self.invariant c.o.invariant ∙ ap (λ signals. is_subset signals (signals_of c.o.inside.mask)) c.self.view_is
    ∙ ap (is_subset c.args.self) c.o.view_is

pub returns-clause-range : goal.returns-clause-range
returns-clause-range c = subst AreSignals c.self.view_is (signals_in_range c.self.inside.mask)

pub returns-clause-other_range : goal.returns-clause-other_range
returns-clause-other_range c = subst AreSignals c.o.view_is (signals_in_range c.o.inside.mask)
