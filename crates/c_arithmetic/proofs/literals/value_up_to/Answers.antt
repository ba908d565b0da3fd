use Rattle.std.proofs.Common.{◌+◌, ◌*◌, ◌<◌, get_or, refl, sym, arith}
use Rattle.std.proofs.lemmas.Bool.Decides.{nat_tests}
use Rattle.c_arithmetic.specs.Literals.{digit}
use Rattle.c_arithmetic.proofs.Values.{value_from-above}
use Rattle.c_arithmetic.proofs.literals.value_up_to.Goals as goal

pub returns-in_err-value : goal.returns-in_err-value
returns-in_err-value c =
    let z = c.loop-rest.rest.now in
    let above : c.args.limit < c.loop-rest.value * c.args.base + digit (get_or z 0 0) = grind (arith, nat_tests, c.in_err-value.ensures) in
    let over = value_from-above c.args.base c.loop-rest.value c.args.limit z c.requires (omega arith) above in
    rw c.from_residual.ensures (rw (sym c.loop-rest.invariant.0, over) refl)
