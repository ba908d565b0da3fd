use Rattle.std.proofs.Common.{◌≡◌, sym, subst, ◌∙◌, ap, true, List}
use Rattle.std.specs.Prelude.{Some, None}
use Rattle.std.specs.BTreeMap.{is_at}
use Rattle.std.specs.Map.{lookup}
use Rattle.fact_values.specs.declared.part.Part.TheVariants as part
use Rattle.fact_values.specs.declared.part.Held.TheVariants as held
use Rattle.fact_values.specs.FactLists.{FactLists, FactsValue}
use Rattle.fact_values.specs.Facts.{consequence, IsFit, Adds}
use Rattle.std.proofs.Common.{refl, [], ◌∷◌, cond}
use Rattle.std.specs.BTreeMap.{BTreeMap}
use Rattle.std.specs.Option.{IsSome}
use Rattle.std.specs.Map.{set_value}
use Rattle.std.proofs.lemmas.Result.{on_err_weaker, IfOk-weaker}
use Rattle.std.proofs.lemmas.Map.Steps.{set_value_same}
use Rattle.fact_values.specs.declared.object.Holder.{Holder}
use Rattle.fact_values.specs.declared.object.Target.{Target}
use Rattle.fact_values.specs.Objects.{holder_cmp}
use Rattle.fact_values.specs.Facts.{AreFacts}
use Rattle.fact_values.proofs.Grown.{either, more_facts, more_adds, first_facts, first_adds}
use Rattle.fact_values.proofs.facts.Facts.add_target.Goals as goal

pub invariant_of-self : goal.invariant_of-self
invariant_of-self c =
    let old : FactLists = record { depth = c.self.inside.depth; cells = c.self.inside.cells.entries; targets = c.self.inside.targets.entries; installed = c.self.inside.installed.entries; threads = c.self.inside.threads.keys; forks = c.self.inside.forks.keys; stirred = c.self.inside.stirred.keys } in
    let fit : IsFit old.depth (consequence (part.Target c.args.holder c.args.target) held.Nothing) = subst (λ (v : FactsValue). IsFit v.lists.depth (consequence (part.Target c.args.holder c.args.target) held.Nothing)) (sym c.self.view_is) c.requires in
    let is : lookup (is_at (holder_cmp c.args.holder)) old.targets ≡ Some c.in-Some.held.now = sym c.in-Some.ensures.value in
    let some : IsSome (lookup (is_at (holder_cmp c.args.holder)) old.targets) = rw is refl in
    either c.insert.result _ _ c.insert.ensures.inserts c.insert.ensures.err
    (λ grew ins. more_facts old c.self.invariant (c.get_mut.follows.lender c.insert.new.self).entries c.args.holder c.args.target fit c.in-Some.held.now c.insert.new.self grew ins
    ((c.get_mut.follows.holds c.insert.new.self).3 some).0 is c.insert.ensures.some c.insert.ensures.sorted)
    (λ same. subst (λ (ts : List (Holder × List Target)). AreFacts (record old { targets = ts }))
    (sym ((c.get_mut.follows.holds c.insert.new.self).0 ∙ ap (set_value (is_at (holder_cmp c.args.holder)) old.targets) same ∙ set_value_same _ _ _ is)) c.self.invariant)

pub returns-in-Some-clause-adds : goal.returns-in-Some-clause-adds
returns-in-Some-clause-adds c =
    let old : FactLists = record { depth = c.self.inside.depth; cells = c.self.inside.cells.entries; targets = c.self.inside.targets.entries; installed = c.self.inside.installed.entries; threads = c.self.inside.threads.keys; forks = c.self.inside.forks.keys; stirred = c.self.inside.stirred.keys } in
    let fit : IsFit old.depth (consequence (part.Target c.args.holder c.args.target) held.Nothing) = subst (λ (v : FactsValue). IsFit v.lists.depth (consequence (part.Target c.args.holder c.args.target) held.Nothing)) (sym c.self.view_is) c.requires in
    let is : lookup (is_at (holder_cmp c.args.holder)) old.targets ≡ Some c.in-Some.held.now = sym c.in-Some.ensures.value in
    let some : IsSome (lookup (is_at (holder_cmp c.args.holder)) old.targets) = rw is refl in
    IfOk-weaker c.insert.result _ _
    (λ grew ins. subst (λ (v : FactsValue). Adds (consequence (part.Target c.args.holder c.args.target) held.Nothing) grew v.lists (record old { targets = (c.get_mut.follows.lender c.insert.new.self).entries })) c.self.view_is
    (more_adds old c.self.invariant (c.get_mut.follows.lender c.insert.new.self).entries c.args.holder c.args.target fit c.in-Some.held.now c.insert.new.self grew ins
    ((c.get_mut.follows.holds c.insert.new.self).3 some).0 is
    (λ e. (c.get_mut.follows.holds c.insert.new.self).0 ∙ ap (set_value (is_at (holder_cmp c.args.holder)) old.targets) e ∙ set_value_same _ _ _ is)))
    c.insert.ensures.inserts

pub returns-in-Some-clause-err : goal.returns-in-Some-clause-err
returns-in-Some-clause-err c =
    let old : FactLists = record { depth = c.self.inside.depth; cells = c.self.inside.cells.entries; targets = c.self.inside.targets.entries; installed = c.self.inside.installed.entries; threads = c.self.inside.threads.keys; forks = c.self.inside.forks.keys; stirred = c.self.inside.stirred.keys } in
    let is : lookup (is_at (holder_cmp c.args.holder)) old.targets ≡ Some c.in-Some.held.now = sym c.in-Some.ensures.value in
    on_err_weaker c.insert.result
    (λ same. ap (λ (ts : List (Holder × List Target)). record old { targets = ts })
    ((c.get_mut.follows.holds c.insert.new.self).0 ∙ ap (set_value (is_at (holder_cmp c.args.holder)) old.targets) same ∙ set_value_same _ _ _ is)
    ∙ ap (λ (v : FactsValue). v.lists) c.self.view_is) c.insert.ensures.err

pub invariant_of-self-2 : goal.invariant_of-self-2
invariant_of-self-2 c =
    let old : FactLists = record { depth = c.self.inside.depth; cells = c.self.inside.cells.entries; targets = c.self.inside.targets.entries; installed = c.self.inside.installed.entries; threads = c.self.inside.threads.keys; forks = c.self.inside.forks.keys; stirred = c.self.inside.stirred.keys } in
    let fit : IsFit old.depth (consequence (part.Target c.args.holder c.args.target) held.Nothing) = subst (λ (v : FactsValue). IsFit v.lists.depth (consequence (part.Target c.args.holder c.args.target) held.Nothing)) (sym c.self.view_is) c.requires in
    let none : lookup (is_at (holder_cmp c.args.holder)) old.targets ≡ None = sym c.in_default.ensures.value in
    let puts : (k : Holder) → lookup (is_at (holder_cmp k)) c.insert-2.new.self.entries ≡ cond (is_at (holder_cmp c.args.holder) k) (Some (c.args.target ∷ [])) (lookup (is_at (holder_cmp k)) old.targets) =
    λ k. c.in-Ok.ensures.updates.0 k
    ∙ ap (λ (m : BTreeMap Holder (List Target)). cond (is_at (holder_cmp c.args.holder) k) (Some c.in_ok-targets.targets) (lookup (is_at (holder_cmp k)) m.entries)) c.get_mut.follows.holds-at-none
    ∙ ap (λ (x : List Target). cond (is_at (holder_cmp c.args.holder) k) (Some x) (lookup (is_at (holder_cmp k)) old.targets)) c.in_ok-targets.ensures in
    first_facts old c.self.invariant c.insert-2.new.self.entries c.args.holder c.args.target fit puts none

pub returns-clause-adds : goal.returns-clause-adds
returns-clause-adds c =
    let old : FactLists = record { depth = c.self.inside.depth; cells = c.self.inside.cells.entries; targets = c.self.inside.targets.entries; installed = c.self.inside.installed.entries; threads = c.self.inside.threads.keys; forks = c.self.inside.forks.keys; stirred = c.self.inside.stirred.keys } in
    let fit : IsFit old.depth (consequence (part.Target c.args.holder c.args.target) held.Nothing) = subst (λ (v : FactsValue). IsFit v.lists.depth (consequence (part.Target c.args.holder c.args.target) held.Nothing)) (sym c.self.view_is) c.requires in
    let none : lookup (is_at (holder_cmp c.args.holder)) old.targets ≡ None = sym c.in_default.ensures.value in
    let puts : (k : Holder) → lookup (is_at (holder_cmp k)) c.insert-2.new.self.entries ≡ cond (is_at (holder_cmp c.args.holder) k) (Some (c.args.target ∷ [])) (lookup (is_at (holder_cmp k)) old.targets) =
    λ k. c.in-Ok.ensures.updates.0 k
    ∙ ap (λ (m : BTreeMap Holder (List Target)). cond (is_at (holder_cmp c.args.holder) k) (Some c.in_ok-targets.targets) (lookup (is_at (holder_cmp k)) m.entries)) c.get_mut.follows.holds-at-none
    ∙ ap (λ (x : List Target). cond (is_at (holder_cmp c.args.holder) k) (Some x) (lookup (is_at (holder_cmp k)) old.targets)) c.in_ok-targets.ensures in
    subst (λ (v : FactsValue). Adds (consequence (part.Target c.args.holder c.args.target) held.Nothing) true v.lists (record old { targets = c.insert-2.new.self.entries })) c.self.view_is
    (first_adds old c.self.invariant c.insert-2.new.self.entries c.args.holder c.args.target fit puts none)
