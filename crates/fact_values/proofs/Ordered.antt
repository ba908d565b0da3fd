-- Laws of the order of facts.
use Rattle.std.proofs.Common.{◌≡◌, refl, sym, subst, List, [], ◌∷◌, Bool, true, false}
use Rattle.std.specs.Prelude.{Option, Some, None}
use Rattle.std.proofs.lemmas.List.Elements.{All-cons, All-head, All-tail, All-weaker, All-nil}
use Rattle.abstract_values.specs.declared.state.State.{State}
use Rattle.abstract_values.specs.States.{Under}
use Rattle.fact_values.specs.declared.part.Installed.{Installed}
use Rattle.fact_values.specs.declared.consequence.Consequence.{Consequence}
use Rattle.fact_values.specs.Facts.{View, InstalledUnder, Holds, Below, AreAlike, AreStatesAlike, AreInstalledAlike, IsLeastWith, IsLeastWithAll}
use Rattle.fact_values.proofs.Holding.{below_refl, below_trans, cell_up, target_up, installed_up, thread_up, fork_up, stirred_up}

same_bool : (a b : Bool) → (a ≡ true → b ≡ true) → (b ≡ true → a ≡ true) → a ≡ b
same_bool true b h g = sym (h refl)
same_bool false true h g = g refl
same_bool false false h g = refl

states_alike : (o p : Option State)
    → ((s : State) → o ≡ Some s → (t : State) × (p ≡ Some t) × Under s t) → ((t : State) → p ≡ Some t → (s : State) × (o ≡ Some s) × Under t s) → AreStatesAlike o p
states_alike None None h g = tt
states_alike (Some s) (Some t) h g = (over s t (h s refl), over t s (g t refl))
  where
    over : (s t : State) → (u : State) × (Some t ≡ Some u) × Under s u → Under s t
    over s t x = let same : t ≡ x.0 = (let e = x.1 in cc) in subst (λ v. Under s v) (sym same) x.2
states_alike None (Some t) h g = let e = (g t refl).1 in absurd cc
states_alike (Some s) None h g = let e = (h s refl).1 in absurd cc

installed_alike : (o p : Option Installed)
    → ((s : Installed) → o ≡ Some s → (t : Installed) × (p ≡ Some t) × InstalledUnder s t) → ((t : Installed) → p ≡ Some t → (s : Installed) × (o ≡ Some s) × InstalledUnder t s) → AreInstalledAlike o p
installed_alike None None h g = tt
installed_alike (Some s) (Some t) h g = (over s t (h s refl), over t s (g t refl))
  where
    over : (s t : Installed) → (u : Installed) × (Some t ≡ Some u) × InstalledUnder s u → InstalledUnder s t
    over s t x = let same : t ≡ x.0 = (let e = x.1 in cc) in subst (λ v. InstalledUnder s v) (sym same) x.2
installed_alike None (Some t) h g = let e = (g t refl).1 in absurd cc
installed_alike (Some s) None h g = let e = (h s refl).1 in absurd cc

pub alike : (f g : View) → Below f g → Below g f → AreAlike f g
alike f g a b = record {
  depth = a.depth;
  states = λ c. states_alike (f.state_at c) (g.state_at c) (λ s. cell_up f g c s a) (λ t. cell_up g f c t b);
  points = λ h t. same_bool (f.points h t) (g.points h t) (target_up f g h t a) (target_up g f h t b);
  installed = λ s x. installed_alike (f.installed_at s x) (g.installed_at s x) (λ i. installed_up f g s x i a) (λ i. installed_up g f s x i b);
  threads = λ x. same_bool (f.is_thread x) (g.is_thread x) (thread_up f g x a) (thread_up g f x b);
  forks = λ r x. same_bool (f.is_fork r x) (g.is_fork r x) (fork_up f g r x a) (fork_up g f r x b);
  stirred = λ o. same_bool (f.is_stirred o) (g.is_stirred o) (stirred_up f g o a) (stirred_up g f o b);
}

pub least_none : (f : View) → IsLeastWithAll f [] f
least_none f = record { holds = All-nil (Holds f); above = below_refl f; least = λ h b x. b }

pub least_more : (f g h : View) (list : List Consequence) (q : Consequence) → IsLeastWithAll f list g → IsLeastWith g q h → IsLeastWithAll f (q ∷ list) h
least_more f g h list q w l = record {
  holds = All-cons (Holds h) q list l.holds (All-weaker (Holds g) (Holds h) (λ r x. l.above.each r x) list w.holds);
  above = below_trans f g h w.above l.above;
  least = λ k b x. l.least k (w.least k b (All-tail (Holds k) q list x)) (All-head (Holds k) q list x);
}
