-- Items by the tokens that choose between their forms.
use Rattle.std.proofs.Common.{◌≡◌, ◌≢◌, ℕ, ◌+◌, Bool, true, false, if◌then◌else◌, Some, [], refl, sym, ap, ◌∙◌}
use Rattle.c_tree.specs.declared.tree.Storage.{Storage}
use Rattle.c_tree.specs.declared.tree.Storage.TheVariants as st
use Rattle.c_tree.specs.Shape.{Scope}
use Rattle.c_tree.specs.Tree.{Specifiers, DeclaratorTree, NamedTree, ItemTree}
use Rattle.c_grammar.specs.declared.kind.Kind.{Kind}
use Rattle.c_grammar.specs.declared.kind.Kind.TheVariants as k
use Rattle.c_grammar.specs.Kind.{kind}
use Rattle.c_grammar.specs.Body.{done, stop, look, spend, and_paid, Outcome, got, refused, exceeded, and_then, Reader}
use Rattle.c_grammar.specs.Body as body
use Rattle.c_grammar.specs.Gauge.{Meter}
use Rattle.c_grammar.specs.Input.{Input, metered}
use Rattle.c_grammar.specs.Performing.{perform, at}
use Rattle.c_grammar.specs.Reading.{read}
use Rattle.c_grammar.specs.Rules.{NameEnvironment, Reads, skip, all_specifiers, an_item, begins_type, item_specifiers, item_start_by, only_types, outer_types, is_typedef, a_declarator, an_outer, an_initializer, has_initializer, named_init_by, with_names, item_by}
use Rattle.c_grammar.specs.Stepping.{Spent}
use Rattle.c_grammar.proofs.Joining.{same_mapped, Joins, join_spend, join_skip, join_call}
use Rattle.c_grammar.proofs.Opens.{outer_performs, item_performs}
use Rattle.item_parser.specs.ItemParts.{behind_declarator, behind_specifiers, declared}

module _ (c : Storage) (ws : Specifiers) (s : Scope) where
  -- the other names, behind the first
  abbrev others : NamedTree → Reader Meter ItemTree
  others n us m = perform (with_names c ws s n) (at us m)

  started : (x : DeclaratorTree) (b : Bool) (i : Input) →
      perform (if b then spend 1 4 (skip (body.call (an_initializer (only_types s.types) 3 0) (λ v. with_names c ws s (record { declarator = x; init = Some v })))) else stop) i
      ≡ and_then (perform (if b then spend 1 (3 + 1) (skip (body.call (an_initializer (only_types s.types) 3 0) (λ v. done (record { declarator = x; init = Some v })))) else stop) i) others
  started x true i =
      let h : Joins (λ y. y) others (spend 1 4 (skip (body.call (an_initializer (only_types s.types) 3 0) (λ v. with_names c ws s (record { declarator = x; init = Some v })))))
      (spend 1 4 (skip (body.call (an_initializer (only_types s.types) 3 0) (λ v. done (record { declarator = x; init = Some v }))))) i =
      join_spend (λ m. join_skip (join_call (λ v us p. record { is = refl }))) in
      h.is ∙ ap (λ o. and_then o others) (same_mapped _)
  started x false i = refl

  -- a declaration goes on behind its first declarator
  declared_on : (x : DeclaratorTree) (e : Kind) (i : Input) → e ≢ k.OpenBrace →
      perform (item_by c ws s x e) i ≡ and_then (perform (named_init_by (only_types s.types) 3 (has_initializer x) x e) i) (λ n us m. perform (with_names c ws s n) (at us m))
  declared_on x k.OpenBrace i other = absurd (other refl)
  declared_on x k.Assign i other = started x (has_initializer x) i
  declared_on x _ i other = refl

  pub declared_by : (x : DeclaratorTree) (e : Kind) (i : Input) → e ≡ kind [] i.rest → e ≢ k.OpenBrace → perform (look [] (item_by c ws s x)) i ≡ declared c ws s x i
  declared_by x e i is other =
      ap (λ z. perform (item_by c ws s x z) i) (sym is) ∙ declared_on x e i other ∙ ap (λ z. and_then (perform (named_init_by (only_types s.types) 3 (has_initializer x) x z) i) others) is

-- a declared name, behind its declarator
pub outer_on : (c : Storage) (s : Scope) (t : NameEnvironment) (x : DeclaratorTree) (i j : Input) → t ≡ outer_types c s → read (a_declarator t 3 true (is_typedef c)) i ≡ got x j.rest j.meter →
    read (an_outer c s) i ≡ perform (behind_declarator t c x) j
outer_on c s t x i j is e =
    outer_performs c s i
    ∙ ap (λ o. and_then o (λ x us m. perform (behind_declarator (outer_types c s) c x) (at us m))) (ap (λ z. read (a_declarator z 3 true (is_typedef c)) i) (sym is) ∙ e)
    ∙ ap (λ z. perform (behind_declarator z c x) j) (sym is)

-- an item, behind its specifiers
pub specified_on : (c : Storage) (s : Scope) (t : NameEnvironment) (ws : Specifiers) (i j : Input) → t ≡ only_types s.types → read (all_specifiers t 2 true []) i ≡ got ws j.rest j.meter →
    perform (item_specifiers c s) i ≡ perform (behind_specifiers c ws s) j
specified_on c s t ws i j is e =
    ap (λ o. and_then o (λ ws us m. perform (behind_specifiers c ws s) (at us m))) (ap (λ z. read (all_specifiers z 2 true []) i) (sym is) ∙ e)

spent_on : {A : Type 0} (n d : ℕ) (b : Reads A) (i j : Input) → Spent n d i j → perform (spend n d b) i ≡ perform b j
spent_on n d b i j h = ap (λ o. and_paid o i.rest (λ m. perform b (metered m i))) h.paid ∙ ap (λ r. perform b (at r j.meter)) (sym h.same)

typed_on : (s : Scope) (e : Kind) → e ≢ k.Static → e ≢ k.Extern → e ≢ k.Typedef → item_start_by s e ≡ if begins_type e then spend 1 2 (item_specifiers st.Nothing s) else stop
typed_on s k.Static a b c = absurd (a refl)
typed_on s k.Extern a b c = absurd (b refl)
typed_on s k.Typedef a b c = absurd (c refl)
typed_on s _ a b c = refl

-- an item without a word of storage
pub item_on : (s : Scope) (e : Kind) (i j : Input) → e ≡ kind s.types i.rest → e ≢ k.Static → e ≢ k.Extern → e ≢ k.Typedef → begins_type e ≡ true → Spent 1 2 i j →
    read (an_item s) i ≡ perform (item_specifiers st.Nothing s) j
item_on s e i j is a b c begins h =
    item_performs s i
    ∙ ap (λ z. perform (item_start_by s z) i) (sym is)
    ∙ ap (λ z. perform z i) (typed_on s e a b c ∙ ap (λ z. if z then spend 1 2 (item_specifiers st.Nothing s) else stop) begins)
    ∙ spent_on 1 2 (item_specifiers st.Nothing s) i j h
