-- What a change of one list makes of facts.
use Rattle.std.proofs.Common.{◌≡◌, ℕ, refl, sym, ap, ◌∙◌, subst, List, [], ◌∷◌, Bool, true, false, cond, not, ◌||◌, ◌&&◌}
use Rattle.std.specs.Prelude.{Option, Some, None, IfSome, IsTrue, ◌↔◌, Result, Ok, Err, IfOk, OnOk, OnErr}
use Rattle.std.specs.Bool.{OnFalse}
use Rattle.std.specs.BTreeMap.{is_at}
use Rattle.std.specs.Map.{lookup}
use Rattle.std.specs.List.{list_any}
use Rattle.std.specs.List.Sorted.{IsStrictlySortedBy}
use Rattle.std.proofs.lemmas.Map.Views.{tells_apart}
use Rattle.base_core.specs.declared.id.FnId.{FnId}
use Rattle.call_ctx.specs.declared.context.Role.{Role}
use Rattle.call_ctx.specs.declared.cell.Cell.{Cell}
use Rattle.call_ctx.specs.Order.{cell_cmp}
use Rattle.abstract_values.specs.declared.state.State.{State}
use Rattle.abstract_values.specs.Sets.{IsSomeSet}
use Rattle.abstract_values.specs.States.{Under, IsJoin, IsWellFormed}
use Rattle.fact_values.specs.declared.object.Obj.{Obj}
use Rattle.fact_values.specs.declared.object.Holder.{Holder}
use Rattle.fact_values.specs.declared.object.Target.{Target}
use Rattle.fact_values.specs.declared.part.Installed.{Installed}
use Rattle.fact_values.specs.declared.part.Part.TheVariants as part
use Rattle.fact_values.specs.declared.part.Held.TheVariants as held
use Rattle.fact_values.specs.declared.consequence.Consequence.{Consequence}
use Rattle.fact_values.specs.Objects.{obj_cmp, holder_cmp, target_cmp, fn_cmp, has_target, is_empty, InsertsTarget}
use Rattle.fact_values.specs.FactLists.{FactLists}
use Rattle.fact_values.specs.Facts.{View, view, consequence, handler_cmp, fork_cmp, has_among, InstalledUnder, Holds, IsLeastWith, IsInBounds, IsFit, HasTargets, AreFacts, Adds, IsNewState, IsNewInstalled, installed_join}
use Rattle.fact_values.proofs.Exact.{exact_holder}
use Rattle.fact_values.proofs.Signals.{installed_left, installed_right, installed_least as installed_below}
use Rattle.abstract_values.proofs.Sets.{set_join_some}
use Rattle.fact_values.proofs.Keys.{sorted_one}
use Rattle.fact_values.proofs.Holding.{below_refl, state_new, state_joined, installed_new, installed_joined, with_state, with_installed, with_target, with_thread, with_fork, with_stirred, state_bounds, installed_bounds, target_bounds, target_least, thread_least, fork_least, stirred_least}

-- the facts have changed to the least with a consequence that they did not hold
pub adds_new : (q : Consequence) (old new : FactLists) (g : View) → new.depth ≡ old.depth → view new ≡ g → IsLeastWith (view old) q g → (Holds (view old) q → ⊥) → Adds q true old new
adds_new q old new g depth is least none = record { depth = depth; least = subst (λ v. IsLeastWith (view old) q v) (sym is) least; grew = (λ _. none, λ _. refl); same = tt }

-- they held it and stay
pub adds_none : (q : Consequence) (old : FactLists) → Holds (view old) q → Adds q false old old
adds_none q old held = record { depth = refl; least = record { holds = held; above = below_refl (view old); least = λ h b x. b }; grew = (λ e. absurd cc, λ none. absurd (none held)); same = refl }

-- either, for a list of keys
pub adds_key : (q : Consequence) (answer : Bool) (old new : FactLists) (g : View) → new.depth ≡ old.depth → view new ≡ g → IsLeastWith (view old) q g
    → (IsTrue answer ↔ (Holds (view old) q → ⊥)) → OnFalse answer (new ≡ old) → Adds q answer old new
adds_key q answer old new g depth is least grew same = record { depth = depth; least = subst (λ v. IsLeastWith (view old) q v) (sym is) least; grew = grew; same = same }

pub not_held : (b answer : Bool) → answer ≡ not b → IsTrue answer ↔ (b ≡ true → ⊥)
not_held true answer e = (λ t. absurd cc, λ none. absurd (none refl))
not_held false answer e = (λ _ f. absurd cc, λ _. e)

pub same_where_held : {X : Type 0} (answer : Bool) (x y : X) → (answer ≡ false → x ≡ y) → OnFalse answer (x ≡ y)
same_where_held true x y h = tt
same_where_held false x y h = h refl

pub facts_from : (old new : FactLists) (g : View) → view new ≡ g → new.targets ≡ old.targets → AreFacts old → IsInBounds g → AreFacts new
facts_from old new g is targets facts bounds = record {
  bounds = subst IsInBounds (sym is) bounds;
  targets = record {
    some = λ h. subst (λ (ts : List (Holder × List Target)). IfSome (lookup (is_at (holder_cmp h)) ts) (λ targets. is_empty targets ≡ false)) (sym targets) (facts.targets.some h);
    sorted = λ h. subst (λ (ts : List (Holder × List Target)). IfSome (lookup (is_at (holder_cmp h)) ts) (IsStrictlySortedBy target_cmp)) (sym targets) (facts.targets.sorted h);
  };
}

module _ (old : FactLists) where
  pub cells_put : (cells : List (Cell × State)) (c : Cell) (u : State)
      → ((d : Cell) → lookup (is_at (cell_cmp d)) cells ≡ cond (is_at (cell_cmp c) d) (Some u) (lookup (is_at (cell_cmp d)) old.cells))
      → view (record old { cells = cells }) ≡ with_state (view old) c u
  cells_put cells c u puts = λ i. record (view old) { state_at = λ d. puts d i }

  pub installed_put : (list : List ((ℕ × FnId) × Installed)) (s : ℕ) (g : FnId) (u : Installed)
      → ((d : ℕ × FnId) → lookup (is_at (handler_cmp d)) list ≡ cond (is_at (handler_cmp (s, g)) d) (Some u) (lookup (is_at (handler_cmp d)) old.installed))
      → view (record old { installed = list }) ≡ with_installed (view old) s g u
  installed_put list s g u puts = λ i. record (view old) { installed_at = λ r x. puts (r, x) i }

  pub threads_put : (list : List FnId) (g : FnId)
      → ((x : FnId) → list_any (is_at (fn_cmp x)) list ≡ cond (is_at (fn_cmp g) x) true (list_any (is_at (fn_cmp x)) old.threads))
      → view (record old { threads = list }) ≡ with_thread (view old) g
  threads_put list g puts = λ i. record (view old) { is_thread = λ x. puts x i }

  pub forks_put : (list : List (Role × FnId)) (r : Role) (g : FnId)
      → ((x : Role × FnId) → list_any (is_at (fork_cmp x)) list ≡ cond (is_at (fork_cmp (r, g)) x) true (list_any (is_at (fork_cmp x)) old.forks))
      → view (record old { forks = list }) ≡ with_fork (view old) r g
  forks_put list r g puts = λ i. record (view old) { is_fork = λ q x. puts (q, x) i }

  pub stirred_put : (list : List Obj) (o : Obj)
      → ((x : Obj) → list_any (is_at (obj_cmp x)) list ≡ cond (is_at (obj_cmp o) x) true (list_any (is_at (obj_cmp x)) old.stirred))
      → view (record old { stirred = list }) ≡ with_stirred (view old) o
  stirred_put list o puts = λ i. record (view old) { is_stirred = λ x. puts x i }

  -- the holder h has these targets, which are those that it had and t
  by_test : (h k : Holder) (t u : Target) (targets : List Target) (b : Bool) → is_at (holder_cmp h) k ≡ b
      → ((u : Target) → has_target targets u ≡ (has_target (t ∷ []) u || (view old).points h u))
      → has_among (cond b (Some targets) (lookup (is_at (holder_cmp k)) old.targets)) u ≡ ((b && has_target (t ∷ []) u) || (view old).points k u)
  by_test h k t u targets true e has =
      has u ∙ ap (λ k. has_target (t ∷ []) u || (view old).points k u) (tells_apart exact_holder h k e)
  by_test h k t u targets false e has = refl

  pub targets_put : (list : List (Holder × List Target)) (h : Holder) (t : Target) (targets : List Target)
      → ((k : Holder) → lookup (is_at (holder_cmp k)) list ≡ cond (is_at (holder_cmp h) k) (Some targets) (lookup (is_at (holder_cmp k)) old.targets))
      → ((u : Target) → has_target targets u ≡ (has_target (t ∷ []) u || (view old).points h u))
      → view (record old { targets = list }) ≡ with_target (view old) h t
  targets_put list h t targets puts has =
      λ i. record (view old) { points = λ k u. (ap (λ o. has_among o u) (puts k) ∙ by_test h k t u targets (is_at (holder_cmp h) k) refl has) i }

  chosen : {X : Type 0} (b : Bool) (P : X → Type 0) (x y : X) → P x → P y → P (cond b x y)
  chosen true P x y h k = h
  chosen false P x y h k = k

  -- the targets of holders stay in order where one holder's are
  pub targets_kept : (list : List (Holder × List Target)) (h : Holder) (targets : List Target)
      → ((k : Holder) → lookup (is_at (holder_cmp k)) list ≡ cond (is_at (holder_cmp h) k) (Some targets) (lookup (is_at (holder_cmp k)) old.targets))
      → is_empty targets ≡ false → IsStrictlySortedBy target_cmp targets → HasTargets old → HasTargets (record old { targets = list })
  targets_kept list h targets puts some sorted has = record {
    some = λ k. subst (λ o. IfSome o (λ targets. is_empty targets ≡ false)) (sym (puts k)) (chosen (is_at (holder_cmp h) k) (λ o. IfSome o (λ targets. is_empty targets ≡ false)) (Some targets) (lookup (is_at (holder_cmp k)) old.targets) some (has.some k));
    sorted = λ k. subst (λ o. IfSome o (IsStrictlySortedBy target_cmp)) (sym (puts k)) (chosen (is_at (holder_cmp h) k) (λ o. IfSome o (IsStrictlySortedBy target_cmp)) (Some targets) (lookup (is_at (holder_cmp k)) old.targets) sorted (has.sorted k));
  }

-- a case of what a call gave
pub either : {T E X : Type 0} (r : Result T E) (A : T → Type 0) (B : Type 0) → IfOk r A → OnErr r B → ((x : T) → A x → X) → (B → X) → X
either (Ok x) A B a b f g = f x a
either (Err e) A B a b f g = g b

module _ (f : View) (c : Cell) (s u : State) where
  pub new_least : (o : Option State) → f.state_at c ≡ o → IsNewState o s u → IsLeastWith f (consequence (part.Cell c) (held.State s)) (with_state f c u)
  new_least None is n = subst (λ x. IsLeastWith f (consequence (part.Cell c) (held.State x)) (with_state f c u)) (n.fresh refl) (state_new f c u is)
  new_least (Some t) is n = state_joined f c u s t is (n.joined t refl)

module _ (f : View) (s : ℕ) (g : FnId) (i u : Installed) where
  pub new_installed_least : (o : Option Installed) → f.installed_at s g ≡ o → IsNewInstalled o i u → IsLeastWith f (consequence (part.Installed s g) (held.Installed i)) (with_installed f s g u)
  new_installed_least None is n = subst (λ x. IsLeastWith f (consequence (part.Installed s g) (held.Installed x)) (with_installed f s g u)) (n.fresh refl) (installed_new f s g u is)
  new_installed_least (Some t) is n =
      let e : u ≡ installed_join t i = n.joined t refl in
      installed_joined f s g u i t is (subst (λ x. InstalledUnder t x) (sym e) (installed_left t i)) (subst (λ x. InstalledUnder i x) (sym e) (installed_right t i))
      (λ v h k. subst (λ x. InstalledUnder x v) (sym e) (installed_below t i v h k))

  pub new_installed_some : (o : Option Installed) → IfSome o (λ i. IsSomeSet i.mask) → IsNewInstalled o i u → IsSomeSet i.mask → IsSomeSet u.mask
  new_installed_some None has n some = subst (λ x. IsSomeSet x.mask) (sym (n.fresh refl)) some
  new_installed_some (Some t) has n some = subst (λ x. IsSomeSet x.mask) (sym (n.joined t refl)) (set_join_some t.mask i.mask has)

-- a cell's new state, a function that is installed anew
module _ (old : FactLists) (facts : AreFacts old) where
  pub cells_facts : (cells : List (Cell × State)) (c : Cell) (s u : State)
      → ((d : Cell) → lookup (is_at (cell_cmp d)) cells ≡ cond (is_at (cell_cmp c) d) (Some u) (lookup (is_at (cell_cmp d)) old.cells))
      → IsNewState ((view old).state_at c) s u → IsFit old.depth (consequence (part.Cell c) (held.State s)) → AreFacts (record old { cells = cells })
  cells_facts cells c s u puts n fit =
      facts_from old (record old { cells = cells }) _ (cells_put old cells c u puts) refl facts
      (state_bounds (view old) c u facts.bounds fit.within (n.formed (facts.bounds.states c) fit.formed))

  pub cells_adds : (cells : List (Cell × State)) (c : Cell) (s u : State)
      → ((d : Cell) → lookup (is_at (cell_cmp d)) cells ≡ cond (is_at (cell_cmp c) d) (Some u) (lookup (is_at (cell_cmp d)) old.cells))
      → IsNewState ((view old).state_at c) s u → (Holds (view old) (consequence (part.Cell c) (held.State s)) → ⊥) → Adds (consequence (part.Cell c) (held.State s)) true old (record old { cells = cells })
  cells_adds cells c s u puts n none =
      adds_new _ old (record old { cells = cells }) _ refl (cells_put old cells c u puts) (new_least (view old) c s u _ refl n) none

  pub installed_facts : (list : List ((ℕ × FnId) × Installed)) (s : ℕ) (g : FnId) (i u : Installed)
      → ((d : ℕ × FnId) → lookup (is_at (handler_cmp d)) list ≡ cond (is_at (handler_cmp (s, g)) d) (Some u) (lookup (is_at (handler_cmp d)) old.installed))
      → IsNewInstalled ((view old).installed_at s g) i u → IsFit old.depth (consequence (part.Installed s g) (held.Installed i)) → AreFacts (record old { installed = list })
  installed_facts list s g i u puts n fit =
      facts_from old (record old { installed = list }) _ (installed_put old list s g u puts) refl facts
      (installed_bounds (view old) s g u facts.bounds fit.within (new_installed_some (view old) s g i u _ (facts.bounds.installed s g) n fit.formed))

  pub installed_adds : (list : List ((ℕ × FnId) × Installed)) (s : ℕ) (g : FnId) (i u : Installed)
      → ((d : ℕ × FnId) → lookup (is_at (handler_cmp d)) list ≡ cond (is_at (handler_cmp (s, g)) d) (Some u) (lookup (is_at (handler_cmp d)) old.installed))
      → IsNewInstalled ((view old).installed_at s g) i u → (Holds (view old) (consequence (part.Installed s g) (held.Installed i)) → ⊥) → Adds (consequence (part.Installed s g) (held.Installed i)) true old (record old { installed = list })
  installed_adds list s g i u puts n none =
      adds_new _ old (record old { installed = list }) _ refl (installed_put old list s g u puts) (new_installed_least (view old) s g i u _ refl n) none

  -- a holder's first target
  first_has : (h : Holder) (t u : Target) → lookup (is_at (holder_cmp h)) old.targets ≡ None → has_target (t ∷ []) u ≡ (has_target (t ∷ []) u || (view old).points h u)
  first_has h t u none = sym (or_false (has_target (t ∷ []) u)) ∙ ap (λ o. has_target (t ∷ []) u || has_among o u) (sym none)
    where
      or_false : (b : Bool) → (b || false) ≡ b
      or_false true = refl
      or_false false = refl

  module _ (list : List (Holder × List Target)) (h : Holder) (t : Target) (fit : IsFit old.depth (consequence (part.Target h t) held.Nothing)) where
    module _ (puts : (k : Holder) → lookup (is_at (holder_cmp k)) list ≡ cond (is_at (holder_cmp h) k) (Some (t ∷ [])) (lookup (is_at (holder_cmp k)) old.targets))
        (none : lookup (is_at (holder_cmp h)) old.targets ≡ None) where
      pub first_facts : AreFacts (record old { targets = list })
      first_facts = record {
        bounds = subst IsInBounds (sym (targets_put old list h t (t ∷ []) puts (λ u. first_has h t u none))) (target_bounds (view old) h t facts.bounds fit.within);
        targets = targets_kept old list h (t ∷ []) puts refl (sorted_one target_cmp t) facts.targets;
      }

      pub first_adds : Adds (consequence (part.Target h t) held.Nothing) true old (record old { targets = list })
      first_adds = adds_new _ old (record old { targets = list }) _ refl (targets_put old list h t (t ∷ []) puts (λ u. first_has h t u none)) (target_least (view old) h t)
          (λ x. let gone : false ≡ true = ap (λ o. has_among o t) (sym none) ∙ x in absurd cc)

    module _ (before after : List Target) (answer : Bool) (ins : InsertsTarget t answer before after)
        (puts : (k : Holder) → lookup (is_at (holder_cmp k)) list ≡ cond (is_at (holder_cmp h) k) (Some after) (lookup (is_at (holder_cmp k)) old.targets))
        (is : lookup (is_at (holder_cmp h)) old.targets ≡ Some before) where
      more_has : (u : Target) → has_target after u ≡ (has_target (t ∷ []) u || (view old).points h u)
      more_has u = ins.has u ∙ ap (λ o. has_target (t ∷ []) u || has_among o u) (sym is)

      pub more_facts : (is_empty before ≡ false → is_empty after ≡ false) → IsStrictlySortedBy target_cmp after → AreFacts (record old { targets = list })
      more_facts some sorted = record {
        bounds = subst IsInBounds (sym (targets_put old list h t after puts more_has)) (target_bounds (view old) h t facts.bounds fit.within);
        targets = targets_kept old list h after puts (some (subst (λ o. IfSome o (λ targets. is_empty targets ≡ false)) is (facts.targets.some h))) sorted facts.targets;
      }

      pub more_adds : (after ≡ before → list ≡ old.targets) → Adds (consequence (part.Target h t) held.Nothing) answer old (record old { targets = list })
      more_adds same = adds_key _ answer old (record old { targets = list }) _ refl (targets_put old list h t after puts more_has) (target_least (view old) h t)
          (not_held ((view old).points h t) answer (ins.grew ∙ ap (λ o. not (has_among o t)) (sym is)))
          (same_where_held answer _ _ (λ e. ap (λ (ts : List (Holder × List Target)). record old { targets = ts }) (same (unchanged answer e ins.same))))
        where
          unchanged : (b : Bool) → b ≡ false → OnFalse b (after ≡ before) → after ≡ before
          unchanged true e x = absurd cc
          unchanged false e x = x

pub state_fresh : (o : Option State) (s u : State) → o ≡ None → u ≡ s → IsNewState o s u
state_fresh o s u none same = record { fresh = λ _. same; joined = λ t is. absurd cc; formed = λ _ f. subst IsWellFormed (sym same) f }

pub state_over : (o : Option State) (s t u : State) → o ≡ Some t → IsJoin t s u → (IsWellFormed t → IsWellFormed s → IsWellFormed u) → IsNewState o s u
state_over o s t u some join formed = record {
  fresh = λ none. absurd cc;
  joined = λ v is. let same : t ≡ v = cc in subst (λ x. IsJoin x s u) same join;
  formed = λ held f. formed (subst (λ o. IfSome o IsWellFormed) some held) f;
}

pub installed_fresh : (o : Option Installed) (i : Installed) → o ≡ None → IsNewInstalled o i i
installed_fresh o i none = record { fresh = λ _. refl; joined = λ t is. absurd cc }

pub installed_over : (o : Option Installed) (i t u : Installed) → o ≡ Some t → u ≡ installed_join t i → IsNewInstalled o i u
installed_over o i t u some join = record {
  fresh = λ none. absurd cc;
  joined = λ v is. let same : t ≡ v = cc in subst (λ x. u ≡ installed_join x i) same join;
}

on_false : (b : Bool) (P Q : Type 0) → (P → Q) → OnFalse b P → OnFalse b Q
on_false true P Q f x = x
on_false false P Q f x = f x

pub threads_adds : (old : FactLists) (list : List FnId) (g : FnId) (answer : Bool)
    → ((x : FnId) → list_any (is_at (fn_cmp x)) list ≡ cond (is_at (fn_cmp g) x) true (list_any (is_at (fn_cmp x)) old.threads))
    → answer ≡ not (list_any (is_at (fn_cmp g)) old.threads) → OnFalse answer (list ≡ old.threads)
    → Adds (consequence (part.Thread g) held.Nothing) answer old (record old { threads = list })
threads_adds old list g answer puts grew same =
    adds_key _ answer old (record old { threads = list }) _ refl (threads_put old list g puts) (thread_least (view old) g) (not_held _ answer grew)
    (on_false answer _ _ (λ e. ap (λ (xs : List FnId). record old { threads = xs }) e) same)

pub forks_adds : (old : FactLists) (list : List (Role × FnId)) (r : Role) (g : FnId) (answer : Bool)
    → ((x : Role × FnId) → list_any (is_at (fork_cmp x)) list ≡ cond (is_at (fork_cmp (r, g)) x) true (list_any (is_at (fork_cmp x)) old.forks))
    → answer ≡ not (list_any (is_at (fork_cmp (r, g))) old.forks) → OnFalse answer (list ≡ old.forks)
    → Adds (consequence (part.Fork r g) held.Nothing) answer old (record old { forks = list })
forks_adds old list r g answer puts grew same =
    adds_key _ answer old (record old { forks = list }) _ refl (forks_put old list r g puts) (fork_least (view old) r g) (not_held _ answer grew)
    (on_false answer _ _ (λ e. ap (λ (xs : List (Role × FnId)). record old { forks = xs }) e) same)

pub stirred_adds : (old : FactLists) (list : List Obj) (o : Obj) (answer : Bool)
    → ((x : Obj) → list_any (is_at (obj_cmp x)) list ≡ cond (is_at (obj_cmp o) x) true (list_any (is_at (obj_cmp x)) old.stirred))
    → answer ≡ not (list_any (is_at (obj_cmp o)) old.stirred) → OnFalse answer (list ≡ old.stirred)
    → Adds (consequence (part.Stirred o) held.Nothing) answer old (record old { stirred = list })
stirred_adds old list o answer puts grew same =
    adds_key _ answer old (record old { stirred = list }) _ refl (stirred_put old list o puts) (stirred_least (view old) o) (not_held _ answer grew)
    (on_false answer _ _ (λ e. ap (λ (xs : List Obj). record old { stirred = xs }) e) same)

-- a cell's state t has become the least above it and s
module _ (old : FactLists) (facts : AreFacts old) (cells : List (Cell × State)) (c : Cell) (s t u : State)
    (puts : (d : Cell) → lookup (is_at (cell_cmp d)) cells ≡ cond (is_at (cell_cmp c) d) (Some u) (lookup (is_at (cell_cmp d)) old.cells))
    (is : lookup (is_at (cell_cmp c)) old.cells ≡ Some t) (join : IsJoin t s u) (formed : IsWellFormed t → IsWellFormed s → IsWellFormed u) where
  over : IsNewState ((view old).state_at c) s u
  over = state_over ((view old).state_at c) s t u is join formed

  pub over_facts : IsFit old.depth (consequence (part.Cell c) (held.State s)) → AreFacts (record old { cells = cells })
  over_facts fit = cells_facts old facts cells c s u puts over fit

  pub over_adds : (answer : Bool) → IsTrue answer ↔ (Under s t → ⊥) → OnFalse answer (u ≡ t) → (u ≡ t → cells ≡ old.cells)
      → Adds (consequence (part.Cell c) (held.State s)) answer old (record old { cells = cells })
  over_adds answer grew same back = adds_key _ answer old (record old { cells = cells }) _ refl (cells_put old cells c u puts) (new_least (view old) c s u _ refl over)
      (λ e h. grew.0 e (let there : t ≡ h.0 = (let x = h.1 in cc) in subst (λ v. Under s v) (sym there) h.2), λ none. grew.1 (λ x. none (t, is, x)))
      (on_false answer _ _ (λ e. ap (λ (cs : List (Cell × State)). record old { cells = cs }) (back e)) same)

-- what a call gave that did two things, or nothing
pub both_or : {T E X : Type 0} (r : Result T E) (A B C : Type 0) → OnOk r A → OnOk r B → OnErr r C → (A → B → X) → (C → X) → X
both_or (Ok x) A B C a b c f g = f a b
both_or (Err e) A B C a b c f g = g c

pub if_both : {T E : Type 0} (r : Result T E) (A B : Type 0) (P Q R : T → Type 0) → OnOk r A → OnOk r B → IfOk r P → IfOk r Q
    → (A → B → (x : T) → P x → Q x → R x) → IfOk r R
if_both (Ok x) A B P Q R a b p q f = f a b x p q
if_both (Err e) A B P Q R a b p q f = tt
