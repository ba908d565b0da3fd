use Rattle.std.proofs.Common.{◌≡◌, ◌++◌, sym, ap, ◌∙◌, subst}
use Rattle.std.specs.Prelude.{OnOk}
use Rattle.std.proofs.lemmas.List.{append-nil}
use Rattle.abstract_values.specs.Values.{value_join}
use Rattle.abstract_values.specs.Entries.{Entry, entry_of}
use Rattle.abstract_values.proofs.Walks.{common_at, common_none}
use Rattle.abstract_values.proofs.slots.push_joined.Goals as goal

pub returns-then-is_at : goal.returns-then-is_at
returns-then-is_at c =
    let pushed = subst (λ (o : Entry). OnOk c.push_value.result (c.push_value.new.all.items ≡ c.args.all.now.items ++ entry_of c.args.entry.now.0 (value_join c.args.entry.now.1 o.1))) (sym c.index-others-place.is) c.push_value.ensures in
    subst (λ l. OnOk c.push_value.result (c.push_value.new.all.items ≡ c.args.all.now.items ++ l))
    (common_at c.args.entry.now c.index-others-place.result c.args.others.now c.args.place (c.is_at.ensures.within c.if-is_at.true) c.index-others-place.is (c.is_at.ensures.at.0 c.if-is_at.true))
    pushed

pub returns-else-is_at : goal.returns-else-is_at
returns-else-is_at c =
    sym (ap (λ l. c.args.all.now.items ++ l) (common_none c.args.entry.now _ (λ h. let stands = c.is_at.ensures.at.1 h in let not = c.if-is_at.false in absurd cc))
    ∙ append-nil c.args.all.now.items)
