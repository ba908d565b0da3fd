use Rattle.std.proofs.Common.{◌+◌, ◌≤◌, length, rules, sym, ap, ◌∙◌, arith}
use Rattle.std.proofs.lemmas.Grind.{common_steps}
use Rattle.c_lexer.specs.Integers.{spoils}
use Rattle.c_lexer.proofs.Wholes.{behind}
use Rattle.c_lexer.proofs.integers.integer.Goals as goal

pub returns-else-spoils-clause-within : goal.returns-else-spoils-clause-within
returns-else-spoils-clause-within c =
    let z = c.args.z.now in
    let n = c.prefix-from.result + c.run-count.result + c.suffix.result in
    let positive : 1 ≤ c.prefix-from.result + c.run-count.result + c.suffix.result = first_of (search rules, grind (arith, common_steps)) in
    let within : c.prefix-from.result + c.run-count.result + c.suffix.result ≤ length c.args.z.now = first_of (search rules, grind (arith, common_steps)) in
    ((positive, within), ap spoils (behind z n ∙ sym c.byte.ensures.value) ∙ sym c.spoils.ensures ∙ c.if-spoils.false)
