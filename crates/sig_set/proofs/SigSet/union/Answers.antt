use Rattle.std.proofs.Common.{ap, ◌∙◌}
use Rattle.std.proofs.lemmas.Nat.{or_lt}
use Rattle.std.specs.FinSet.{union}
use Rattle.sig_set.specs.Signals.{signals_of}
use Rattle.sig_set.specs.Members.{signals_in_range}
use Rattle.sig_set.proofs.Operations.{union_of}
use Rattle.sig_set.proofs.SigSet.union.Goals as goal

pub invariant_of-result : goal.invariant_of-result
invariant_of-result c = or_lt 28 c.self.inside.mask c.o.inside.mask c.self.invariant c.o.invariant

pub returns-clause-value : goal.returns-clause-value
returns-clause-value c =
    union_of c.self.inside.mask c.o.inside.mask ∙ ap (λ signals. union signals (signals_of c.o.inside.mask)) c.self.view_is
    ∙ ap (union c.args.self) c.o.view_is

pub returns-clause-range : goal.returns-clause-range
returns-clause-range c = signals_in_range _
