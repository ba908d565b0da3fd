use Rattle.std.proofs.Common.{◌<◌, length, map, ap, sym, ◌∙◌, subst}
use Rattle.std.specs.Prelude.{All}
use Rattle.std.proofs.lemmas.List.{length-map}
use Rattle.c_tree.specs.Spelling.{spell}
use Rattle.c_tree.specs.StatementView.{view_item}
use Rattle.node_places.specs.Past.{past_items}
use Rattle.node_places.specs.Walked.{Walked, begin}
use Rattle.node_places.proofs.Walks.{entry, all_starts, all_closes}
use Rattle.node_places.proofs.Laws.{one_start_each, one_close_each, starts_within, closes_within}
use Rattle.node_places.proofs.items.find.Goals as goal

pub returns-clause-starts : goal.returns-clause-starts
returns-clause-starts c =
    let entered = c.in_ok-begin.ensures ∙ ap begin c.new-walk.ensures in
    let passed = c.in_ok-walk_items.ensures ∙ ap (λ w. past_items w (map view_item c.as_slice.result.now)) entered ∙ ap (λ items. past_items entry (map view_item items)) c.as_slice.ensures in
    ap (λ (w : Walked). w.starts) passed ∙ all_starts (map view_item c.args.items.now)

pub returns-clause-closes : goal.returns-clause-closes
returns-clause-closes c =
    let entered = c.in_ok-begin.ensures ∙ ap begin c.new-walk.ensures in
    let passed = c.in_ok-walk_items.ensures ∙ ap (λ w. past_items w (map view_item c.as_slice.result.now)) entered ∙ ap (λ items. past_items entry (map view_item items)) c.as_slice.ensures in
    ap (λ (w : Walked). w.closes) passed ∙ all_closes (map view_item c.args.items.now)

pub returns-clause-each : goal.returns-clause-each
returns-clause-each c = ap length (returns-clause-starts c) ∙ one_start_each (map view_item c.args.items.now)

pub returns-clause-functions : goal.returns-clause-functions
returns-clause-functions c = ap length (returns-clause-closes c) ∙ one_close_each (map view_item c.args.items.now)

pub returns-clause-starts_within : goal.returns-clause-starts_within
returns-clause-starts_within c = λ h.
    let items = map view_item c.args.items.now in
    let some = subst (λ n. 0 < n) (sym (length-map c.args.items.now view_item)) h in
    subst (λ starts. All (λ k. k < length (spell items)) starts) (sym (returns-clause-starts c)) (starts_within items some)

pub returns-clause-closes_within : goal.returns-clause-closes_within
returns-clause-closes_within c =
    let items = map view_item c.args.items.now in
    subst (λ closes. All (λ k. k < length (spell items)) closes) (sym (returns-clause-closes c)) (closes_within items)
