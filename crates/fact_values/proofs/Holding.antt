-- The order of facts, and the ways in which they grow.
use Rattle.std.proofs.Common.{◌≡◌, ℕ, ◌≤◌, refl, sym, ap, ◌∙◌, subst, [], ◌∷◌, Bool, true, false, cond, ◌||◌, ◌&&◌}
use Rattle.std.specs.Prelude.{Some, None, IfSome}
use Rattle.std.specs.BTreeMap.{is_at}
use Rattle.std.specs.Ordering.{is_eq}
use Rattle.std.specs.Cmp.{IsTotalOrder}
use Rattle.std.proofs.lemmas.Cmp.{tied_itself}
use Rattle.std.proofs.lemmas.Map.Views.{tells_apart}
use Rattle.std.specs.declared.cmp.Ordering.{Ordering}
use Rattle.base_core.specs.declared.id.FnId.{FnId}
use Rattle.call_ctx.specs.declared.context.Role.{Role}
use Rattle.call_ctx.specs.declared.cell.Cell.{Cell}
use Rattle.call_ctx.specs.Contexts.{IsWithin}
use Rattle.call_ctx.specs.Order.{cell_cmp}
use Rattle.call_ctx.proofs.Compared.{exact_cell, cell_total}
use Rattle.abstract_values.specs.declared.state.State.{State}
use Rattle.abstract_values.specs.Sets.{IsSomeSet}
use Rattle.abstract_values.specs.States.{Under, IsJoin, IsWellFormed}
use Rattle.abstract_values.proofs.Laws.{under_refl, under_trans}
use Rattle.fact_values.specs.declared.object.Obj.{Obj}
use Rattle.fact_values.specs.declared.object.Holder.{Holder}
use Rattle.fact_values.specs.declared.object.Target.{Target}
use Rattle.fact_values.specs.declared.part.Installed.{Installed}
use Rattle.fact_values.specs.declared.part.Part.{Part}
use Rattle.fact_values.specs.declared.part.Part.TheVariants as part
use Rattle.fact_values.specs.declared.part.Held.{Held}
use Rattle.fact_values.specs.declared.part.Held.TheVariants as held
use Rattle.fact_values.specs.declared.consequence.Consequence.{Consequence}
use Rattle.fact_values.specs.Objects.{obj_cmp, holder_cmp, target_cmp, fn_cmp, has_target}
use Rattle.fact_values.specs.Facts.{View, consequence, handler_cmp, fork_cmp, InstalledUnder, HoldsPart, Holds, Below, HeldUnder, Fits, Weaker, IsLeastWith, IsInBounds, IsPartWithin}
use Rattle.fact_values.proofs.Exact.{exact_obj, exact_holder, exact_target, exact_fn, exact_handler, exact_fork, obj_total, holder_total, target_total, fn_total, handler_total, fork_total}
use Rattle.fact_values.proofs.Signals.{or_left, or_right, or_least, installed_refl, installed_trans}

pub below_refl : (f : View) → Below f f
below_refl f = record { depth = refl; each = λ q h. h }

pub below_trans : (f g h : View) → Below f g → Below g h → Below f h
below_trans f g h a b = record { depth = a.depth ∙ b.depth; each = λ q x. b.each q (a.each q x) }

-- what is known goes up

pub cell_up : (f g : View) (c : Cell) (s : State) → Below f g → f.state_at c ≡ Some s → (t : State) × (g.state_at c ≡ Some t) × Under s t
cell_up f g c s b is = b.each (consequence (part.Cell c) (held.State s)) (s, is, under_refl s)

pub target_up : (f g : View) (h : Holder) (t : Target) → Below f g → f.points h t ≡ true → g.points h t ≡ true
target_up f g h t b is = b.each (consequence (part.Target h t) held.Nothing) is

pub installed_up : (f g : View) (s : ℕ) (x : FnId) (i : Installed) → Below f g → f.installed_at s x ≡ Some i → (j : Installed) × (g.installed_at s x ≡ Some j) × InstalledUnder i j
installed_up f g s x i b is = b.each (consequence (part.Installed s x) (held.Installed i)) (i, is, installed_refl i)

pub thread_up : (f g : View) (x : FnId) → Below f g → f.is_thread x ≡ true → g.is_thread x ≡ true
thread_up f g x b is = b.each (consequence (part.Thread x) held.Nothing) is

pub fork_up : (f g : View) (r : Role) (x : FnId) → Below f g → f.is_fork r x ≡ true → g.is_fork r x ≡ true
fork_up f g r x b is = b.each (consequence (part.Fork r x) held.Nothing) is

pub stirred_up : (f g : View) (o : Obj) → Below f g → f.is_stirred o ≡ true → g.is_stirred o ≡ true
stirred_up f g o b is = b.each (consequence (part.Stirred o) held.Nothing) is

-- one part after the other
pub below_by : (f g : View) → f.depth ≡ g.depth
    → ((c : Cell) (s : State) → f.state_at c ≡ Some s → (t : State) × (g.state_at c ≡ Some t) × Under s t)
    → ((h : Holder) (t : Target) → f.points h t ≡ true → g.points h t ≡ true)
    → ((s : ℕ) (x : FnId) (i : Installed) → f.installed_at s x ≡ Some i → (j : Installed) × (g.installed_at s x ≡ Some j) × InstalledUnder i j)
    → ((x : FnId) → f.is_thread x ≡ true → g.is_thread x ≡ true)
    → ((r : Role) (x : FnId) → f.is_fork r x ≡ true → g.is_fork r x ≡ true)
    → ((o : Obj) → f.is_stirred o ≡ true → g.is_stirred o ≡ true)
    → Below f g
below_by f g depth cells targets handlers threads forks stirred = record { depth = depth; each = λ q. each q.part q.held }
  where
    each : (p : Part) (h : Held) → HoldsPart f p h → HoldsPart g p h
    each (part.Cell c) (held.State s) x = let y = cells c x.0 x.1 in (y.0, y.1, under_trans s x.0 y.0 x.2 y.2)
    each (part.Target h t) held.Nothing x = targets h t x
    each (part.Installed s g) (held.Installed i) x = let y = handlers s g x.0 x.1 in (y.0, y.1, installed_trans i x.0 y.0 x.2 y.2)
    each (part.Thread g) held.Nothing x = threads g x
    each (part.Fork r g) held.Nothing x = forks r g x
    each (part.Stirred o) held.Nothing x = stirred o x
    each _ _ x = absurd x

-- what holds more holds less
pub holds_weaker : (f : View) (q r : Consequence) → Weaker q r → Holds f r → Holds f q
holds_weaker f q r w x = subst (λ p. HoldsPart f p q.held) (sym w.part) (each r.part q.held r.held w.held x)
  where
    each : (p : Part) (h k : Held) → HeldUnder h k → HoldsPart f p k → HoldsPart f p h
    each (part.Cell c) (held.State s) (held.State t) u y = (y.0, y.1, under_trans s t y.0 u y.2)
    each (part.Installed s g) (held.Installed i) (held.Installed j) u y = (y.0, y.1, installed_trans i j y.0 u y.2)
    each (part.Target h t) held.Nothing held.Nothing u y = y
    each (part.Thread g) held.Nothing held.Nothing u y = y
    each (part.Fork r g) held.Nothing held.Nothing u y = y
    each (part.Stirred o) held.Nothing held.Nothing u y = y
    each p (held.State s) (held.Installed j) u y = absurd u
    each p (held.State s) held.Nothing u y = absurd u
    each p (held.Installed i) (held.State t) u y = absurd u
    each p (held.Installed i) held.Nothing u y = absurd u
    each p held.Nothing (held.State t) u y = absurd u
    each p held.Nothing (held.Installed j) u y = absurd u
    each _ _ _ u y = absurd y

chosen : {X : Type 0} (b : Bool) (P : X → Type 0) (x y : X) → (b ≡ true → P x) → (b ≡ false → P y) → P (cond b x y)
chosen true P x y h k = h refl
chosen false P x y h k = k refl

itself : {K : Type 0} {R : K → K → Ordering} → IsTotalOrder R → (k : K) → is_at (R k) k ≡ true
itself o k = ap is_eq (tied_itself o k)

-- a state is put at a cell

abbrev pub with_state : View → Cell → State → View
with_state f c u = record f { state_at = λ d. cond (is_at (cell_cmp c) d) (Some u) (f.state_at d) }

module _ (f : View) (c : Cell) (u : State) where
  state_here : (with_state f c u).state_at c ≡ Some u
  state_here = ap (λ b. cond b (Some u) (f.state_at c)) (itself cell_total c)

  state_above : ((t : State) → f.state_at c ≡ Some t → Under t u) → Below f (with_state f c u)
  state_above over = below_by f (with_state f c u) refl
      (λ d s is. chosen (is_at (cell_cmp c) d) (λ o. (t : State) × (o ≡ Some t) × Under s t) (Some u) (f.state_at d)
      (λ e. (u, refl, over s (ap f.state_at (tells_apart exact_cell c d e) ∙ is)))
      (λ e. (s, is, under_refl s)))
      (λ h t x. x) (λ s g i is. (i, is, installed_refl i)) (λ g x. x) (λ r g x. x) (λ o x. x)

  state_least : (h : View) → Below f h → (t : State) → h.state_at c ≡ Some t → Under u t → Below (with_state f c u) h
  state_least h b t at le = below_by (with_state f c u) h b.depth
      (λ d s. chosen (is_at (cell_cmp c) d) (λ o. o ≡ Some s → (t : State) × (h.state_at d ≡ Some t) × Under s t) (Some u) (f.state_at d)
      (λ e is. let same = tells_apart exact_cell c d e in let eq : u ≡ s = cc in (t, subst (λ d. h.state_at d ≡ Some t) same at, subst (λ s. Under s t) eq le))
      (λ e is. cell_up f h d s b is))
      (λ k t. target_up f h k t b) (λ s g i. installed_up f h s g i b) (λ g. thread_up f h g b) (λ r g. fork_up f h r g b) (λ o. stirred_up f h o b)

  pub state_joined : (s t : State) → f.state_at c ≡ Some t → IsJoin t s u → IsLeastWith f (consequence (part.Cell c) (held.State s)) (with_state f c u)
  state_joined s t is j = record {
    holds = (u, state_here, j.right);
    above = state_above (λ v e. let same : t ≡ v = cc in subst (λ x. Under x u) same j.left);
    least = λ h b x. let up = cell_up f h c t b is in
        let at : h.state_at c ≡ Some x.0 = x.1 in let at' : h.state_at c ≡ Some up.0 = up.1 in
        let same : up.0 ≡ x.0 = cc in
        state_least h b x.0 x.1 (j.least x.0 (subst (λ y. Under t y) same up.2) x.2);
  }

  pub state_new : f.state_at c ≡ None → IsLeastWith f (consequence (part.Cell c) (held.State u)) (with_state f c u)
  state_new is = record {
    holds = (u, state_here, under_refl u);
    above = state_above (λ v e. absurd cc);
    least = λ h b x. state_least h b x.0 x.1 x.2;
  }

  pub state_bounds : IsInBounds f → IsWithin f.depth c.ctx → IsWellFormed u → IsInBounds (with_state f c u)
  state_bounds inb within formed = record {
    least = inb.least;
    most = inb.most;
    each = λ q. each q.part q.held;
    installed = inb.installed;
    states = λ d. chosen (is_at (cell_cmp c) d) (λ o. IfSome o IsWellFormed) (Some u) (f.state_at d) (λ _. formed) (λ _. inb.states d);
  }
    where
      each : (p : Part) (h : Held) → HoldsPart (with_state f c u) p h → IsPartWithin f.depth p
      each (part.Cell d) (held.State s) x =
          chosen (is_at (cell_cmp c) d) (λ o. ((t : State) × (o ≡ Some t) × Under s t) → IsWithin f.depth d.ctx) (Some u) (f.state_at d)
          (λ e _. subst (λ d. IsWithin f.depth d.ctx) (tells_apart exact_cell c d e) within)
          (λ e y. inb.each (consequence (part.Cell d) (held.State s)) y) x
      each p h x = inb.each (consequence p h) x

-- an installed handler is put for a signal and a function

abbrev pub with_installed : View → ℕ → FnId → Installed → View
with_installed f s g u = record f { installed_at = λ r x. cond (is_at (handler_cmp (s, g)) (r, x)) (Some u) (f.installed_at r x) }

module _ (f : View) (s : ℕ) (g : FnId) (u : Installed) where
  installed_here : (with_installed f s g u).installed_at s g ≡ Some u
  installed_here = ap (λ b. cond b (Some u) (f.installed_at s g)) (itself handler_total (s, g))

  installed_above : ((t : Installed) → f.installed_at s g ≡ Some t → InstalledUnder t u) → Below f (with_installed f s g u)
  installed_above over = below_by f (with_installed f s g u) refl
      (λ d s is. (s, is, under_refl s)) (λ h t x. x)
      (λ r x i is. chosen (is_at (handler_cmp (s, g)) (r, x)) (λ o. (t : Installed) × (o ≡ Some t) × InstalledUnder i t) (Some u) (f.installed_at r x)
      (λ e. (u, refl, over i (ap (λ (p : ℕ × FnId). f.installed_at p.0 p.1) (tells_apart exact_handler (s, g) (r, x) e) ∙ is)))
      (λ e. (i, is, installed_refl i)))
      (λ g x. x) (λ r g x. x) (λ o x. x)

  installed_least : (h : View) → Below f h → (t : Installed) → h.installed_at s g ≡ Some t → InstalledUnder u t → Below (with_installed f s g u) h
  installed_least h b t at le = below_by (with_installed f s g u) h b.depth
      (λ d s. cell_up f h d s b) (λ k t. target_up f h k t b)
      (λ r x i. chosen (is_at (handler_cmp (s, g)) (r, x)) (λ o. o ≡ Some i → (t : Installed) × (h.installed_at r x ≡ Some t) × InstalledUnder i t) (Some u) (f.installed_at r x)
      (λ e is. let same = tells_apart exact_handler (s, g) (r, x) e in let eq : u ≡ i = cc in
      (t, subst (λ (p : ℕ × FnId). h.installed_at p.0 p.1 ≡ Some t) same at, subst (λ i. InstalledUnder i t) eq le))
      (λ e is. installed_up f h r x i b is))
      (λ g. thread_up f h g b) (λ r g. fork_up f h r g b) (λ o. stirred_up f h o b)

  -- u is the least above what was there and i
  pub installed_joined : (i t : Installed) → f.installed_at s g ≡ Some t → InstalledUnder t u → InstalledUnder i u
      → ((v : Installed) → InstalledUnder t v → InstalledUnder i v → InstalledUnder u v)
      → IsLeastWith f (consequence (part.Installed s g) (held.Installed i)) (with_installed f s g u)
  installed_joined i t is left right least = record {
    holds = (u, installed_here, right);
    above = installed_above (λ v e. let same : t ≡ v = cc in subst (λ x. InstalledUnder x u) same left);
    least = λ h b x. let up = installed_up f h s g t b is in
        let at : h.installed_at s g ≡ Some x.0 = x.1 in let at' : h.installed_at s g ≡ Some up.0 = up.1 in
        let same : up.0 ≡ x.0 = cc in
        installed_least h b x.0 x.1 (least x.0 (subst (λ y. InstalledUnder t y) same up.2) x.2);
  }

  pub installed_new : f.installed_at s g ≡ None → IsLeastWith f (consequence (part.Installed s g) (held.Installed u)) (with_installed f s g u)
  installed_new is = record {
    holds = (u, installed_here, installed_refl u);
    above = installed_above (λ v e. absurd cc);
    least = λ h b x. installed_least h b x.0 x.1 x.2;
  }

  pub installed_bounds : IsInBounds f → (1 ≤ s) × (s ≤ 28) → IsSomeSet u.mask → IsInBounds (with_installed f s g u)
  installed_bounds inb within formed = record {
    least = inb.least;
    most = inb.most;
    each = λ q. each q.part q.held;
    states = inb.states;
    installed = λ r x. chosen (is_at (handler_cmp (s, g)) (r, x)) (λ o. IfSome o (λ i. IsSomeSet i.mask)) (Some u) (f.installed_at r x) (λ _. formed) (λ _. inb.installed r x);
  }
    where
      each : (p : Part) (h : Held) → HoldsPart (with_installed f s g u) p h → IsPartWithin f.depth p
      each (part.Installed r x) (held.Installed i) y =
          chosen (is_at (handler_cmp (s, g)) (r, x)) (λ o. ((t : Installed) × (o ≡ Some t) × InstalledUnder i t) → (1 ≤ r) × (r ≤ 28)) (Some u) (f.installed_at r x)
          (λ e _. subst (λ (p : ℕ × FnId). (1 ≤ p.0) × (p.0 ≤ 28)) (tells_apart exact_handler (s, g) (r, x) e) within)
          (λ e y. inb.each (consequence (part.Installed r x) (held.Installed i)) y) y
      each p h x = inb.each (consequence p h) x

-- a target is taken in

abbrev pub with_target : View → Holder → Target → View
with_target f h t = record f { points = λ k u. (is_at (holder_cmp h) k && has_target (t ∷ []) u) || f.points k u }

and_parts : (a b : Bool) → (a && b) ≡ true → (a ≡ true) × (b ≡ true)
and_parts true b h = (refl, h)
and_parts false b h = absurd cc

only : (t u : Target) → has_target (t ∷ []) u ≡ true → u ≡ t
only t u e = or_least (is_at (target_cmp u) t) false (λ h. tells_apart exact_target u t h) (λ h. absurd cc) e

module _ (f : View) (h : Holder) (t : Target) where
  both_true : (a b : Bool) → a ≡ true → b ≡ true → (a && b) ≡ true
  both_true true b x y = y
  both_true false b x y = absurd cc

  pub target_least : IsLeastWith f (consequence (part.Target h t) held.Nothing) (with_target f h t)
  target_least = record {
    holds = or_left _ (f.points h t) (both_true _ _ (itself holder_total h) (or_left _ false (itself target_total t)));
    above = below_by f (with_target f h t) refl (λ d s is. (s, is, under_refl s)) (λ k u. or_right _ (f.points k u)) (λ s g i is. (i, is, installed_refl i)) (λ g x. x) (λ r g x. x) (λ o x. x);
    least = λ g b x. below_by (with_target f h t) g b.depth
        (λ d s. cell_up f g d s b)
        (λ k u. or_least _ (f.points k u)
        (λ e. let p = and_parts (is_at (holder_cmp h) k) (has_target (t ∷ []) u) e in
        subst (λ k. g.points k u ≡ true) (tells_apart exact_holder h k p.0) (subst (λ u. g.points h u ≡ true) (sym (only t u p.1)) x))
        (λ e. target_up f g k u b e))
        (λ s x i. installed_up f g s x i b) (λ x. thread_up f g x b) (λ r x. fork_up f g r x b) (λ o. stirred_up f g o b);
  }

  pub target_bounds : IsInBounds f → IsPartWithin f.depth (part.Target h t) → IsInBounds (with_target f h t)
  target_bounds inb within = record { least = inb.least; most = inb.most; each = λ q. each q.part q.held; states = inb.states; installed = inb.installed }
    where
      each : (p : Part) (k : Held) → HoldsPart (with_target f h t) p k → IsPartWithin f.depth p
      each (part.Target k u) held.Nothing x = or_least _ (f.points k u)
          (λ e. let p = and_parts (is_at (holder_cmp h) k) (has_target (t ∷ []) u) e in
          subst (λ k. IsPartWithin f.depth (part.Target k u)) (tells_apart exact_holder h k p.0) (subst (λ u. IsPartWithin f.depth (part.Target h u)) (sym (only t u p.1)) within))
          (λ e. inb.each (consequence (part.Target k u) held.Nothing) e) x
      each p k x = inb.each (consequence p k) x

-- a thread's function, a fork handler, a stirred object is taken in

abbrev pub with_thread : View → FnId → View
with_thread f g = record f { is_thread = λ x. cond (is_at (fn_cmp g) x) true (f.is_thread x) }

pub thread_least : (f : View) (g : FnId) → IsLeastWith f (consequence (part.Thread g) held.Nothing) (with_thread f g)
thread_least f g = record {
  holds = ap (λ b. cond b true (f.is_thread g)) (itself fn_total g);
  above = below_by f (with_thread f g) refl (λ d s is. (s, is, under_refl s)) (λ h t x. x) (λ s g i is. (i, is, installed_refl i))
      (λ x is. chosen (is_at (fn_cmp g) x) (λ b. b ≡ true) true (f.is_thread x) (λ _. refl) (λ _. is)) (λ r g x. x) (λ o x. x);
  least = λ h b x. below_by (with_thread f g) h b.depth (λ d s. cell_up f h d s b) (λ k u. target_up f h k u b) (λ s x i. installed_up f h s x i b)
      (λ y. chosen (is_at (fn_cmp g) y) (λ o. o ≡ true → h.is_thread y ≡ true) true (f.is_thread y)
      (λ e _. subst (λ y. h.is_thread y ≡ true) (tells_apart exact_fn g y e) x) (λ e is. thread_up f h y b is))
      (λ r x. fork_up f h r x b) (λ o. stirred_up f h o b);
}

pub thread_bounds : (f : View) (g : FnId) → IsInBounds f → IsInBounds (with_thread f g)
thread_bounds f g inb = record { least = inb.least; most = inb.most; each = λ q. each q.part q.held; states = inb.states; installed = inb.installed }
  where
    each : (p : Part) (k : Held) → HoldsPart (with_thread f g) p k → IsPartWithin f.depth p
    each (part.Thread x) held.Nothing y = tt
    each p k x = inb.each (consequence p k) x

abbrev pub with_fork : View → Role → FnId → View
with_fork f r g = record f { is_fork = λ q x. cond (is_at (fork_cmp (r, g)) (q, x)) true (f.is_fork q x) }

pub fork_least : (f : View) (r : Role) (g : FnId) → IsLeastWith f (consequence (part.Fork r g) held.Nothing) (with_fork f r g)
fork_least f r g = record {
  holds = ap (λ b. cond b true (f.is_fork r g)) (itself fork_total (r, g));
  above = below_by f (with_fork f r g) refl (λ d s is. (s, is, under_refl s)) (λ h t x. x) (λ s g i is. (i, is, installed_refl i)) (λ g x. x)
      (λ q x is. chosen (is_at (fork_cmp (r, g)) (q, x)) (λ b. b ≡ true) true (f.is_fork q x) (λ _. refl) (λ _. is)) (λ o x. x);
  least = λ h b x. below_by (with_fork f r g) h b.depth (λ d s. cell_up f h d s b) (λ k u. target_up f h k u b) (λ s x i. installed_up f h s x i b)
      (λ x. thread_up f h x b)
      (λ q y. chosen (is_at (fork_cmp (r, g)) (q, y)) (λ o. o ≡ true → h.is_fork q y ≡ true) true (f.is_fork q y)
      (λ e _. subst (λ (p : Role × FnId). h.is_fork p.0 p.1 ≡ true) (tells_apart exact_fork (r, g) (q, y) e) x) (λ e is. fork_up f h q y b is))
      (λ o. stirred_up f h o b);
}

pub fork_bounds : (f : View) (r : Role) (g : FnId) → IsInBounds f → IsPartWithin f.depth (part.Fork r g) → IsInBounds (with_fork f r g)
fork_bounds f r g inb within = record { least = inb.least; most = inb.most; each = λ q. each q.part q.held; states = inb.states; installed = inb.installed }
  where
    each : (p : Part) (k : Held) → HoldsPart (with_fork f r g) p k → IsPartWithin f.depth p
    each (part.Fork q x) held.Nothing y = chosen (is_at (fork_cmp (r, g)) (q, x)) (λ o. o ≡ true → IsPartWithin f.depth (part.Fork q x)) true (f.is_fork q x)
        (λ e _. subst (λ (p : Role × FnId). IsPartWithin f.depth (part.Fork p.0 p.1)) (tells_apart exact_fork (r, g) (q, x) e) within)
        (λ e is. inb.each (consequence (part.Fork q x) held.Nothing) is) y
    each p k x = inb.each (consequence p k) x

abbrev pub with_stirred : View → Obj → View
with_stirred f o = record f { is_stirred = λ x. cond (is_at (obj_cmp o) x) true (f.is_stirred x) }

pub stirred_least : (f : View) (o : Obj) → IsLeastWith f (consequence (part.Stirred o) held.Nothing) (with_stirred f o)
stirred_least f o = record {
  holds = ap (λ b. cond b true (f.is_stirred o)) (itself obj_total o);
  above = below_by f (with_stirred f o) refl (λ d s is. (s, is, under_refl s)) (λ h t x. x) (λ s g i is. (i, is, installed_refl i)) (λ g x. x) (λ r g x. x)
      (λ x is. chosen (is_at (obj_cmp o) x) (λ b. b ≡ true) true (f.is_stirred x) (λ _. refl) (λ _. is));
  least = λ h b x. below_by (with_stirred f o) h b.depth (λ d s. cell_up f h d s b) (λ k u. target_up f h k u b) (λ s x i. installed_up f h s x i b)
      (λ x. thread_up f h x b) (λ r x. fork_up f h r x b)
      (λ y. chosen (is_at (obj_cmp o) y) (λ z. z ≡ true → h.is_stirred y ≡ true) true (f.is_stirred y)
      (λ e _. subst (λ y. h.is_stirred y ≡ true) (tells_apart exact_obj o y e) x) (λ e is. stirred_up f h y b is));
}

pub stirred_bounds : (f : View) (o : Obj) → IsInBounds f → IsPartWithin f.depth (part.Stirred o) → IsInBounds (with_stirred f o)
stirred_bounds f o inb within = record { least = inb.least; most = inb.most; each = λ q. each q.part q.held; states = inb.states; installed = inb.installed }
  where
    each : (p : Part) (k : Held) → HoldsPart (with_stirred f o) p k → IsPartWithin f.depth p
    each (part.Stirred x) held.Nothing y = chosen (is_at (obj_cmp o) x) (λ z. z ≡ true → IsPartWithin f.depth (part.Stirred x)) true (f.is_stirred x)
        (λ e _. subst (λ x. IsPartWithin f.depth (part.Stirred x)) (tells_apart exact_obj o x e) within)
        (λ e is. inb.each (consequence (part.Stirred x) held.Nothing) is) y
    each p k x = inb.each (consequence p k) x

-- what a thread and a fork handler hold
pub thread_nothing : (g : FnId) (h : Held) → Fits (part.Thread g) h → h ≡ held.Nothing
thread_nothing g held.Nothing fits = refl
thread_nothing g _ fits = absurd fits

pub fork_nothing : (r : Role) (g : FnId) (h : Held) → Fits (part.Fork r g) h → h ≡ held.Nothing
fork_nothing r g held.Nothing fits = refl
fork_nothing r g _ fits = absurd fits
