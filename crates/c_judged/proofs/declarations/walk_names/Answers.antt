use Rattle.std.proofs.Common.{subst, ap, ◌∙◌, ◌≡◌, ◌&&◌, ◌+◌, map, option_map, drop}
use Rattle.c_judgements.specs.Parts.{added}
use Rattle.c_tree.specs.View.{view_specifier}
use Rattle.c_tree.specs.StatementView.{view_named}
use Rattle.c_environment.specs.Scopes as scopes
use Rattle.c_environment.specs.Seen.{seen_type, seen_environment}
use Rattle.c_declared.specs.Seen.{shown}
use Rattle.c_declared.proofs.Steps as steps
use Rattle.c_judged.specs.Declarations as spec
use Rattle.c_judged.proofs.declarations.walk_names.Goals as goal

pub loop-n-preserved : goal.loop-n-preserved
loop-n-preserved c =
    let rows = c.args.table.now in
    let storage = c.args.storage in
    let word = option_map (λ w. view_specifier w.now) c.args.word in
    let of = seen_type c.args.of.now in
    let env = seen_environment c.loop-n.env in
    let at = seen_environment c.walk_named.new.env in
    let first = seen_environment c.args.env.now in
    let n = view_named c.n-item.result in
    let further = scopes.behind_named env storage of n in
    let rest = map view_named (drop (c.loop-n.n-index + 1) c.args.all.now) in
    let whole = map view_named c.args.all.now in
    let more = steps.next c.args.all.now c.loop-n.n-index c.n-item.result c.loop-n-test.true c.n-item.is in
    let here : at ≡ further = c.in_ok-one.ensures.behind in (
      steps.settled_step c.loop-n.settled c.in_ok-one.one c.both-settled.result (spec.said_named rows env storage word of n).settled
          (spec.said_names rows further storage word of rest).settled (spec.said_names rows at storage word of rest).settled (spec.said_names rows first storage word of whole).settled
          c.both-settled.ensures c.in_ok-one.ensures.settled (ap (λ e. (spec.said_names rows e storage word of rest).settled) here)
          (subst (λ ys. (c.loop-n.settled && (spec.said_names rows env storage word of (map view_named ys)).settled) ≡ (spec.said_names rows first storage word of whole).settled) more c.loop-n.invariant.0),
      steps.added_step (spec.said_named rows env storage word of n).all (spec.said_names rows further storage word of rest).all (spec.said_names rows at storage word of rest).all
          (shown c.loop-n.out) (shown c.walk_named.new.out) (added (spec.said_names rows first storage word of whole).all (shown c.args.out.now))
          c.in_ok-one.ensures.all (ap (λ e. (spec.said_names rows e storage word of rest).all) here)
          (subst (λ ys. added (spec.said_names rows env storage word of (map view_named ys)).all (shown c.loop-n.out) ≡ added (spec.said_names rows first storage word of whole).all (shown c.args.out.now)) more c.loop-n.invariant.1),
      ap (λ e. scopes.behind_names e storage of rest) here
          ∙ subst (λ ys. scopes.behind_names env storage of (map view_named ys) ≡ scopes.behind_names first storage of whole) more c.loop-n.invariant.2,
      steps.some_added (spec.said_named rows env storage word of n).all (shown c.loop-n.out) (shown c.walk_named.new.out) c.in_ok-one.ensures.all c.loop-n.invariant.3,
    )
