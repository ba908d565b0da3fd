use Rattle.std.proofs.Common.{ap, ◌∙◌, bit_and, w32}
use Rattle.std.specs.Int.{bit_not}
use Rattle.std.specs.FinSet.{remove}
use Rattle.sig_set.specs.Signals.{signals_of}
use Rattle.sig_set.specs.Members.{signals_in_range}
use Rattle.sig_set.proofs.Operations.{without_of}
use Rattle.sig_set.proofs.SigSet.without.Goals as goal

pub returns-clause-value : goal.returns-clause-value
returns-clause-value c =
    ap (λ bit. signals_of (bit_and c.self.inside.mask (bit_not w32 bit))) c.bit_of.ensures.value
    ∙ without_of c.args.s c.bit_of.ensures.least c.bit_of.ensures.greatest c.self.inside.mask ∙ ap (λ signals. remove signals c.args.s) c.self.view_is

pub returns-clause-range : goal.returns-clause-range
returns-clause-range c = signals_in_range _
