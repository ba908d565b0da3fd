use Rattle.std.proofs.Common.{◌∙◌}
use Rattle.c_arithmetic.proofs.Whole.{same_bits}
use Rattle.c_arithmetic.proofs.comparison.is_equal.Goals as goal

pub returns : goal.returns
returns c = same_bits c.operand.result c.operand-2.result c.operand.ensures.bounded c.operand-2.ensures.bounded ∙ cc
