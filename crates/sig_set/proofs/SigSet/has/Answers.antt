use Rattle.std.proofs.Common.{ap, ◌∙◌, subst, bit_and, ◌==◌, not}
use Rattle.std.specs.FinSet.{contains}
use Rattle.sig_set.specs.Signals.{AreSignals}
use Rattle.sig_set.specs.Members.{signals_in_range}
use Rattle.sig_set.proofs.Operations.{has_of}
use Rattle.sig_set.proofs.SigSet.has.Goals as goal

pub returns-clause-value : goal.returns-clause-value
returns-clause-value c =
    ap (λ bit. not (bit_and c.self.inside.mask bit == 0)) c.bit_of.ensures.value
    ∙ has_of c.args.s c.bit_of.ensures.least c.bit_of.ensures.greatest c.self.inside.mask ∙ ap (λ signals. contains signals c.args.s) c.self.view_is

pub returns-clause-range : goal.returns-clause-range
returns-clause-range c = subst AreSignals c.self.view_is (signals_in_range c.self.inside.mask)
