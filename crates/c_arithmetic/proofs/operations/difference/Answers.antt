use Rattle.std.proofs.Common.{ap, ◌∙◌}
use Rattle.c_arithmetic.specs.Operations as spec
use Rattle.c_arithmetic.proofs.Whole.{whole_difference}
use Rattle.c_arithmetic.proofs.operations.difference.Goals as goal

pub returns : goal.returns
returns c =
    let whole = whole_difference c.operand.result c.operand-2.result c.operand.ensures.bounded c.operand-2.ensures.bounded in
    c.settled.ensures ∙ ap (spec.settled c.common-of.result) whole ∙ cc
