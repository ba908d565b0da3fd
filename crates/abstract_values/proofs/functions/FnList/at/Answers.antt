use Rattle.std.proofs.Common.{◌∙◌, sym, ap, subst, ◌+◌, ◌^◌, ◌<◌}
use Rattle.std.specs.Prelude.{IfSome, slice_get}
use Rattle.abstract_values.proofs.Codes.{code_in_range}
use Rattle.abstract_values.proofs.functions.FnList.at.Goals as goal

pub returns-clause-range : goal.returns-clause-range
returns-clause-range c =
    subst (λ o. IfSome o (λ code. code < 2 ^ 32 + 2)) (sym (c.code_at.ensures ∙ ap (λ l. slice_get l c.args.k) c.deref.ensures.value)) (code_in_range c.self.inside.codes.items c.args.k c.self.invariant)
