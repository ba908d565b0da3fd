use Rattle.std.proofs.Common.{◌≡◌, ◌∷◌, ◌++◌, ◌+◌, drop, sym, ap, ◌∙◌, subst, append_assoc}
use Rattle.std.proofs.lemmas.List.{drop_more, drop_all, append-nil}
use Rattle.abstract_values.proofs.Walks.{walk_join, walk_join_is, walk_join_step}
use Rattle.abstract_values.proofs.slots.join_entries.Goals as goal

pub loop-entry-preserved : goal.loop-entry-preserved
loop-entry-preserved c =
    let here = drop_more c.args.left.now c.loop-entry.entry-index c.entry-item.result c.loop-entry-test.true ∙ ap (λ x. x ∷ drop (c.loop-entry.entry-index + 1) c.args.left.now) (sym c.entry-item.is) in
    let step = walk_join_step c.args.left.now c.args.right.now c.loop-entry.entry-index c.loop-entry.place c.place_of-place.result c.entry-item.result here c.place_of-place.ensures.place in (
      c.place_of-place.ensures.within,
      ap (λ l. l ++ walk_join (drop (c.loop-entry.entry-index + 1) c.args.left.now) (drop c.place_of-place.result c.args.right.now)) c.in_ok-push_joined.ensures
          ∙ append_assoc c.loop-entry.all.items _ _ ∙ ap (λ l. c.loop-entry.all.items ++ l) (sym step) ∙ c.loop-entry.invariant.1,
    )

pub returns : goal.returns
returns c =
    let done = drop_all c.loop-entry.entry-index c.args.left.now c.loop-entry-test.false in
    let all = subst (λ l. c.loop-entry.all.items ++ walk_join l (drop c.loop-entry.place c.args.right.now) ≡ walk_join c.args.left.now c.args.right.now) done c.loop-entry.invariant.1 in
    sym (append-nil c.loop-entry.all.items) ∙ all ∙ walk_join_is c.args.left.now c.args.right.now c.requires.left c.requires.right
