use Rattle.std.proofs.Common.{subst, ap, ◌∙◌, ◌≡◌, ◌&&◌, ◌||◌, ◌+◌, map, option_map, is_none, drop}
use Rattle.c_judgements.specs.Parts.{added}
use Rattle.c_kinds.specs.View.{view}
use Rattle.c_tree.specs.StatementView.{view_part, initializers_of}
use Rattle.c_environment.specs.Scopes as scopes
use Rattle.c_environment.specs.Seen.{seen_environment}
use Rattle.c_declared.specs.Seen.{shown}
use Rattle.c_declared.proofs.Steps as steps
use Rattle.c_judged.specs.Initializers as spec
use Rattle.c_judged.proofs.Joins as joins
use Rattle.c_judged.proofs.initializers.+initializers.Goals as goal

pub walk_parts-loop-part-preserved : goal.walk_parts-loop-part-preserved
walk_parts-loop-part-preserved t c =
    let rows = c.args.table.now in
    let due = option_map view c.args.due.now in
    let alone = c.args.alone in
    let env = seen_environment c.loop-part.env in
    let at = seen_environment c.walk_part.new.env in
    let first = seen_environment c.args.env.now in
    let so_far = c.loop-part.so_far in
    let one = c.in_ok-one.one in
    let sum = c.and-so_far.result in
    let m = view_part c.part-item.result in
    let filled = spec.filled env due so_far.next m.0 in
    let kind = spec.filled_kind env due filled in
    let place = spec.next_place so_far.next filled in
    let further = scopes.behind_initializer env m.1 in
    let rest = initializers_of (map view_part (drop (c.loop-part.part-index + 1) c.args.all.now)) in
    let whole = initializers_of (map view_part c.args.all.now) in
    let more = steps.next c.args.all.now c.loop-part.part-index c.part-item.result c.loop-part-test.true c.part-item.is in
    let here : at ≡ further = c.in_ok-one.ensures.behind in
    let next : sum.next ≡ place = ap (λ p. p.next) c.and-so_far.ensures ∙ c.in_ok-one.ensures.next in (
      steps.settled_step so_far.settled one.settled sum.settled (spec.said_initializer rows env kind m.1).settled ((spec.said_initializers rows further due place rest).settled) ((spec.said_initializers rows at due sum.next rest).settled) ((spec.said_initializers rows first due 0 whole).settled)
          (ap (λ p. p.settled) c.and-so_far.ensures) c.in_ok-one.ensures.settled (ap (λ e. (spec.said_initializers rows e due sum.next rest).settled) here ∙ ap (λ k. (spec.said_initializers rows further due k rest).settled) next)
          (subst (λ ys. (so_far.settled && (spec.said_initializers rows env due so_far.next (initializers_of (map view_part ys))).settled) ≡ (spec.said_initializers rows first due 0 whole).settled) more c.loop-part.invariant.0),
      steps.settled_step so_far.fixed one.fixed sum.fixed (spec.is_static_initializer rows env m.1) (spec.are_static_initializers rows further rest) (spec.are_static_initializers rows at rest) (spec.are_static_initializers rows first whole)
          (ap (λ p. p.fixed) c.and-so_far.ensures) c.in_ok-one.ensures.fixed (ap (λ e. spec.are_static_initializers rows e rest) here)
          (subst (λ ys. (so_far.fixed && spec.are_static_initializers rows env (initializers_of (map view_part ys))) ≡ spec.are_static_initializers rows first whole) more c.loop-part.invariant.1),
      joins.or_step so_far.unknown one.unknown sum.unknown (is_none filled) (spec.names_unknown further due place rest) (spec.names_unknown at due sum.next rest) (spec.names_unknown first due 0 whole)
          (ap (λ p. p.unknown) c.and-so_far.ensures) c.in_ok-one.ensures.unknown (ap (λ e. spec.names_unknown e due sum.next rest) here ∙ ap (λ k. spec.names_unknown further due k rest) next)
          (subst (λ ys. (so_far.unknown || spec.names_unknown env due so_far.next (initializers_of (map view_part ys))) ≡ spec.names_unknown first due 0 whole) more c.loop-part.invariant.2),
      joins.misfit_step so_far.positional one.positional sum.positional (spec.positional_part rows env due alone m.0 m.1) (spec.positional_parts rows further due alone rest) (spec.positional_parts rows at due alone rest) (spec.positional_parts rows first due alone whole)
          (ap (λ p. p.positional) c.and-so_far.ensures) c.in_ok-one.ensures.positional (ap (λ e. spec.positional_parts rows e due alone rest) here)
          (subst (λ ys. spec.or_misfit so_far.positional (spec.positional_parts rows env due alone (initializers_of (map view_part ys))) ≡ spec.positional_parts rows first due alone whole) more c.loop-part.invariant.3),
      joins.misfit_step so_far.misfit one.misfit sum.misfit (spec.part_misfit rows env kind m.1) (spec.parts_misfit rows further due place rest) (spec.parts_misfit rows at due sum.next rest) (spec.parts_misfit rows first due 0 whole)
          (ap (λ p. p.misfit) c.and-so_far.ensures) c.in_ok-one.ensures.misfit (ap (λ e. spec.parts_misfit rows e due sum.next rest) here ∙ ap (λ k. spec.parts_misfit rows further due k rest) next)
          (subst (λ ys. spec.or_misfit so_far.misfit (spec.parts_misfit rows env due so_far.next (initializers_of (map view_part ys))) ≡ spec.parts_misfit rows first due 0 whole) more c.loop-part.invariant.4),
      steps.added_step (spec.said_initializer rows env kind m.1).all ((spec.said_initializers rows further due place rest).all) ((spec.said_initializers rows at due sum.next rest).all) (shown c.loop-part.out) (shown c.walk_part.new.out) (added ((spec.said_initializers rows first due 0 whole).all) (shown c.args.out.now))
          c.in_ok-one.ensures.all (ap (λ e. (spec.said_initializers rows e due sum.next rest).all) here ∙ ap (λ k. (spec.said_initializers rows further due k rest).all) next)
          (subst (λ ys. added ((spec.said_initializers rows env due so_far.next (initializers_of (map view_part ys))).all) (shown c.loop-part.out) ≡ added ((spec.said_initializers rows first due 0 whole).all) (shown c.args.out.now)) more c.loop-part.invariant.5),
      ap (λ e. scopes.behind_initializers e rest) here
          ∙ (subst (λ ys. scopes.behind_initializers env (initializers_of (map view_part ys)) ≡ scopes.behind_initializers first whole) more c.loop-part.invariant.6),
      steps.some_added (spec.said_initializer rows env kind m.1).all (shown c.loop-part.out) (shown c.walk_part.new.out) c.in_ok-one.ensures.all c.loop-part.invariant.7,
    )
