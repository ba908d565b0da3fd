use Rattle.std.proofs.Common.{◌+◌, ◌++◌, drop, sym, subst, ap, ◌∙◌}
use Rattle.std.proofs.lemmas.List.{drop_more, drop_all}
use Rattle.abstract_values.specs.Codes.{AreCodes, codes_join}
use Rattle.abstract_values.proofs.Merges.{merged, join_codes}
use Rattle.abstract_values.proofs.functions.join_codes.Goals as goal

pub loop-code-preserved : goal.loop-code-preserved
loop-code-preserved c =
    let here = drop_more c.args.right.now c.loop-code.code-index 0 c.loop-code-test.true in (
      ap (λ l. l ++ codes_join (drop c.place_after-place.result c.args.left.now) (drop (c.loop-code.code-index + 1) c.args.right.now)) c.in_ok-push_between.ensures
          ∙ merged _ _ _ _ _ _ _ _ _ c.requires.right here c.place_of-next.ensures.place c.place_after-place.ensures.place c.loop-code.invariant.0,
      c.place_after-place.ensures.within,
    )

pub returns-clause-join : goal.returns-clause-join
returns-clause-join c =
    let done = drop_all c.loop-code.code-index c.args.right.now c.loop-code-test.false in
    c.in_ok-push_rest.ensures ∙ ap (λ l. c.loop-code.all.items ++ codes_join (drop c.loop-code.place c.args.left.now) l) (sym done) ∙ c.loop-code.invariant.0

pub returns-clause-codes : goal.returns-clause-codes
returns-clause-codes c =
    let done = drop_all c.loop-code.code-index c.args.right.now c.loop-code-test.false in
    let is = c.in_ok-push_rest.ensures ∙ ap (λ l. c.loop-code.all.items ++ codes_join (drop c.loop-code.place c.args.left.now) l) (sym done) ∙ c.loop-code.invariant.0 in
    subst (AreCodes 0) (sym is) (join_codes 0 c.args.left.now c.args.right.now c.requires.left c.requires.right)
