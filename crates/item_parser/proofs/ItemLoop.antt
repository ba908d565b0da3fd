-- Items, one by one.
use Rattle.std.proofs.Common.{◌≡◌, ◌≢◌, ℕ, Bool, true, false, nat_lt, cond, List, [], ◌∷◌, length, refl, sym, ap, ◌∙◌, subst}
use Rattle.c_tree.specs.Shape.{Scope, behind_item}
use Rattle.c_tree.specs.Marks.{Tokens}
use Rattle.c_tree.specs.Tree.{ItemTree}
use Rattle.c_grammar.specs.declared.kind.Kind.{Kind}
use Rattle.c_grammar.specs.declared.kind.Kind.TheVariants as k
use Rattle.c_grammar.specs.Kind.{kind, same_kind}
use Rattle.c_grammar.specs.Body.{done, Outcome, got, refused, exceeded, and_then, Reader, strict}
use Rattle.c_grammar.specs.Body as body
use Rattle.c_grammar.specs.Gauge.{Meter}
use Rattle.c_grammar.specs.Input.{Input}
use Rattle.c_grammar.specs.Performing.{perform, at}
use Rattle.c_grammar.specs.Reading.{read}
use Rattle.c_grammar.specs.Rules.{an_item, all_items, items_by}
use Rattle.c_grammar.proofs.KindLemmas.{same_true, same_false}
use Rattle.c_grammar.specs.declared.refusal.Refusal.{Refusal}
use Rattle.c_grammar.specs.Gives.{Fails}
use Rattle.c_grammar.specs.Lists.{mapped}
use Rattle.c_grammar.proofs.Joining.{tail_mapped, then_fails}
use Rattle.c_grammar.proofs.Loops.{Turn}
use Rattle.c_grammar.proofs.Opens.{items_performs}
use Rattle.item_parser.specs.ItemParts.{one_item}

if_joined : {A B : Type 0} (b : Bool) (x : A) (us : Tokens) (m : Meter) (go f : A → Reader Meter B) → ((x : A) (us : Tokens) (m : Meter) → f x us m ≡ go x us m) →
    cond b (f x us m) (refused us) ≡ and_then (cond b (got x us m) (refused us)) go
if_joined true x us m go f same = same x us m
if_joined false x us m go f same = refl

strict_joined : {A B : Type 0} (n : ℕ) (o : Outcome Meter A) (go f : A → Reader Meter B) → ((x : A) (us : Tokens) (m : Meter) → f x us m ≡ go x us m) →
    and_then o (λ x us m. cond (nat_lt (length us) n) (f x us m) (refused us)) ≡ and_then (and_then o (λ x us m. cond (nat_lt (length us) n) (got x us m) (refused us))) go
strict_joined n (got x us m) go f same = if_joined (nat_lt (length us) n) x us m go f same
strict_joined n (refused us) go f same = refl
strict_joined n (exceeded us) go f same = refl

module _ (s : Scope) where
  abbrev others : ItemTree → Reader Meter (List ItemTree)
  others x us m = mapped (λ xs. x ∷ xs) (read (all_items (behind_item x s)) (at us m))

  items_some : (x : Kind) → x ≢ k.Nothing → items_by s x ≡ strict (an_item s) (λ x. body.call (all_items (behind_item x s)) (λ xs. done (x ∷ xs)))
  items_some k.Nothing other = absurd (other refl)
  items_some _ other = refl

  items_on : (i : Input) → same_kind (kind [] i.rest) k.Nothing ≡ false → read (all_items s) i ≡ and_then (perform (one_item s) i) others
  items_on i other =
      items_performs s i
      ∙ ap (λ b. perform b i) (items_some (kind [] i.rest) (same_false (kind [] i.rest) k.Nothing other))
      ∙ strict_joined (length i.rest) (read (an_item s) i) others _ (λ x us m. tail_mapped (λ xs. x ∷ xs) (read (all_items (behind_item x s)) (at us m)))

  pub items_turn : (t : Scope) (i j : Input) (x : ItemTree) → t ≡ behind_item x s → same_kind (kind [] i.rest) k.Nothing ≡ false → perform (one_item s) i ≡ got x j.rest j.meter →
      Turn ◌∷◌ x (read (all_items s) i) (read (all_items t) j)
  items_turn t i j x go other e = record { is = items_on i other ∙ ap (λ o. and_then o others) e ∙ ap (λ z. mapped (λ xs. x ∷ xs) (read (all_items z) j)) (sym go) }

  pub items_fail : (i : Input) (e : Refusal) → same_kind (kind [] i.rest) k.Nothing ≡ false → Fails (perform (one_item s) i) e → Fails (read (all_items s) i) e
  items_fail i e other h = subst (λ o. Fails o e) (sym (items_on i other)) (then_fails others h)

  pub items_end : (i : Input) → same_kind (kind [] i.rest) k.Nothing ≡ true → read (all_items s) i ≡ got [] i.rest i.meter
  items_end i is = items_performs s i ∙ ap (λ x. perform (items_by s x) i) (same_true (kind [] i.rest) k.Nothing is)
