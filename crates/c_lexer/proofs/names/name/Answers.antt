use Rattle.std.proofs.Common.{◌≤◌, rules, sym, ap, ◌∙◌, arith}
use Rattle.std.proofs.lemmas.Grind.{common_steps}
use Rattle.base_core.specs.Keywords.{is_keyword}
use Rattle.c_lexer.proofs.Wholes.{word_whole}
use Rattle.c_lexer.proofs.names.name.Goals as goal

pub returns-then-is_keyword-clause-within : goal.returns-then-is_keyword-clause-within
returns-then-is_keyword-clause-within c =
    let z = c.args.z.now in
    let n = c.run-n.result in
    let positive : 1 ≤ c.run-n.result = first_of (search rules, grind (arith, common_steps)) in (
      (positive, c.run-n.ensures.within),
      (
        word_whole z n c.run-n.ensures.value positive c.run-n.ensures.within c.requires c.run-n.ensures.stops,
        ap is_keyword (sym c.front-word.ensures) ∙ sym c.is_keyword.ensures ∙ c.if-is_keyword.true,
      ),
    )

pub returns-else-is_keyword-clause-within : goal.returns-else-is_keyword-clause-within
returns-else-is_keyword-clause-within c =
    let z = c.args.z.now in
    let n = c.run-n.result in
    let positive : 1 ≤ c.run-n.result = first_of (search rules, grind (arith, common_steps)) in (
      (positive, c.run-n.ensures.within),
      (
        word_whole z n c.run-n.ensures.value positive c.run-n.ensures.within c.requires c.run-n.ensures.stops,
        ap is_keyword (sym c.front-word.ensures) ∙ sym c.is_keyword.ensures ∙ c.if-is_keyword.false,
      ),
    )
