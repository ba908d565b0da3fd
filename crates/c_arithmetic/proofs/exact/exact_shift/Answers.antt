use Rattle.c_arithmetic.proofs.Whole.{whole_product}
use Rattle.c_arithmetic.proofs.exact.exact_shift.Goals as goal

pub overflow_mul-result : goal.overflow_mul-result
overflow_mul-result c = (whole_product c.args.number c.power.result c.args.places c.requires.bounded c.requires.below c.power.ensures.value).0

pub returns : goal.returns
returns c = (whole_product c.args.number c.power.result c.args.places c.requires.bounded c.requires.below c.power.ensures.value).1
