use Rattle.std.proofs.Common.{ap, ◌∙◌}
use Rattle.c_arithmetic.specs.Operations as spec
use Rattle.c_arithmetic.proofs.Whole.{whole_negation}
use Rattle.c_arithmetic.proofs.operations.negated.Goals as goal

pub returns : goal.returns
returns c = c.settled.ensures ∙ ap (spec.settled c.promoted-of.result) (whole_negation c.operand.result c.operand.ensures.bounded) ∙ cc
