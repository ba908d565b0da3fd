use Rattle.std.proofs.Common.{◌<◌, ◌-◌, ◌^◌, ap, sym, subst, arith, ◌∙◌, bit_or}
use Rattle.std.proofs.lemmas.Nat.{or_lt, pow_below}
use Rattle.std.specs.FinSet.{insert}
use Rattle.sig_set.specs.Signals.{signals_of}
use Rattle.sig_set.specs.Members.{signals_in_range}
use Rattle.sig_set.proofs.Operations.{with_of}
use Rattle.sig_set.proofs.SigSet.with.Goals as goal

pub invariant_of-result : goal.invariant_of-result
invariant_of-result c =
    let small : c.bit_of.result < 2 ^ 28 = subst (λ n. n < 2 ^ 28) (sym c.bit_of.ensures.value) (pow_below (c.args.s - 1) 28 (omega (arith, c.bit_of.ensures.least, c.bit_of.ensures.greatest))) in
    or_lt 28 c.self.inside.mask c.bit_of.result c.self.invariant small

pub returns-clause-value : goal.returns-clause-value
returns-clause-value c =
    ap (λ bit. signals_of (bit_or c.self.inside.mask bit)) c.bit_of.ensures.value
    ∙ with_of c.args.s c.bit_of.ensures.least c.bit_of.ensures.greatest c.self.inside.mask ∙ ap (λ signals. insert signals c.args.s) c.self.view_is

pub returns-clause-range : goal.returns-clause-range
returns-clause-range c = signals_in_range _
