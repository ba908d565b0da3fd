-- The names that are declared outside functions, one by one.
use Rattle.std.proofs.Common.{◌≡◌, ◌≢◌, ◌<◌, ◌≤◌, true, false, List, [], ◌∷◌, ◌++◌, length, refl, sym, ap, ◌∙◌, subst, arith}
use Rattle.c_tree.specs.declared.tree.Storage.{Storage}
use Rattle.c_tree.specs.Shape.{Scope, behind_named, behind_names}
use Rattle.c_tree.specs.Tree.{NamedTree}
use Rattle.c_grammar.specs.declared.kind.Kind.{Kind}
use Rattle.c_grammar.specs.declared.kind.Kind.TheVariants as k
use Rattle.c_grammar.specs.Kind.{kind, same_kind, tail_of}
use Rattle.c_grammar.specs.Body.{stop, got, refused, and_then, Reader}
use Rattle.c_grammar.specs.Gauge.{Meter}
use Rattle.c_grammar.specs.Input.{Input, next}
use Rattle.c_grammar.specs.Performing.{perform, at}
use Rattle.c_grammar.specs.Reading.{read}
use Rattle.c_grammar.specs.Rules.{an_outer, more_outer, more_outer_by}
use Rattle.c_grammar.proofs.KindLemmas.{same_true, same_false}
use Rattle.c_grammar.specs.declared.refusal.Refusal.{Refusal}
use Rattle.c_grammar.specs.declared.refusal.Refusal.TheVariants.{Syntax}
use Rattle.c_grammar.specs.Gives.{Fails}
use Rattle.c_grammar.specs.Lists.{mapped, before}
use Rattle.c_grammar.proofs.Joining.{tail_mapped, same_mapped, Joins, join_spend, join_skip, join_call, then_fails, spent_taken, Leaving}
use Rattle.c_grammar.proofs.Loops.{Loop, Turn}
use Rattle.c_grammar.proofs.Opens.{more_outer_performs}
use Rattle.c_grammar.proofs.Shorter.{Leaves}
use Rattle.type_parser.proofs.TaggedShorter.{taken_shorter}
use Rattle.item_parser.specs.ItemParts.{another}

module _ (c : Storage) (s : Scope) where
  abbrev others : NamedTree → Reader Meter (List NamedTree)
  others n us m = mapped (λ ns. n ∷ ns) (read (more_outer c (behind_named c n s)) (at us m))

  names_on : (i : Input) → same_kind (kind [] i.rest) k.Comma ≡ true → read (more_outer c s) i ≡ and_then (perform (another c s) i) others
  names_on i is =
      let h : Joins (λ y. y) others (more_outer_by c s k.Comma) (another c s) i =
      join_spend (λ m. join_skip (join_call {r = an_outer c s} (λ n us p. record { is = tail_mapped (λ ns. n ∷ ns) (read (more_outer c (behind_named c n s)) (at us p)) }))) in
      more_outer_performs c s i
      ∙ ap (λ x. perform (more_outer_by c s x) i) (same_true (kind [] i.rest) k.Comma is)
      ∙ h.is ∙ ap (λ o. and_then o others) (same_mapped (perform (another c s) i))

  pub names_turn : (t : Scope) (i j : Input) (n : NamedTree) → t ≡ behind_named c n s → same_kind (kind [] i.rest) k.Comma ≡ true → perform (another c s) i ≡ got n j.rest j.meter →
      Turn ◌∷◌ n (read (more_outer c s) i) (read (more_outer c t) j)
  names_turn t i j n go is e = record { is = names_on i is ∙ ap (λ o. and_then o others) e ∙ ap (λ z. mapped (λ ns. n ∷ ns) (read (more_outer c z) j)) (sym go) }

  pub names_fail : (i : Input) (e : Refusal) → same_kind (kind [] i.rest) k.Comma ≡ true → Fails (perform (another c s) i) e → Fails (read (more_outer c s) i) e
  names_fail i e is h = subst (λ o. Fails o e) (sym (names_on i is)) (then_fails others h)

  pub names_shorter : (i j : Input) (n : NamedTree) → same_kind (kind [] i.rest) k.Comma ≡ true → perform (another c s) i ≡ got n j.rest j.meter → length j.rest < length i.rest
  names_shorter i j n is e =
      let h : Leaving (length (tail_of i.rest)) (another c s) i = spent_taken (omega arith) in
      let l : length j.rest ≤ length (tail_of i.rest) = subst (λ o. Leaves (length (tail_of i.rest)) o) e h.is in
      omega (arith, taken_shorter [] i.rest k.Comma (same_true (kind [] i.rest) k.Comma is) (λ e. absurd cc))

  pub names_end : (i j : Input) → same_kind (kind [] i.rest) k.Semicolon ≡ true → j ≡ next i → read (more_outer c s) i ≡ got [] j.rest j.meter
  names_end i j is go =
      more_outer_performs c s i
      ∙ ap (λ x. perform (more_outer_by c s x) i) (same_true (kind [] i.rest) k.Semicolon is)
      ∙ ap (λ z. got [] z.rest z.meter) (sym go)

  names_off : (x : Kind) → x ≢ k.Comma → x ≢ k.Semicolon → more_outer_by c s x ≡ stop
  names_off k.Comma comma close = absurd (comma refl)
  names_off k.Semicolon comma close = absurd (close refl)
  names_off _ comma close = refl

  pub names_stop : (i : Input) (e : Refusal) → same_kind (kind [] i.rest) k.Comma ≡ false → same_kind (kind [] i.rest) k.Semicolon ≡ false → e ≡ Syntax (length i.rest) → Fails (read (more_outer c s) i) e
  names_stop i e comma close is =
      let h : read (more_outer c s) i ≡ refused i.rest =
      more_outer_performs c s i ∙ ap (λ b. perform b i) (names_off (kind [] i.rest) (same_false (kind [] i.rest) k.Comma comma) (same_false (kind [] i.rest) k.Semicolon close)) in
      let f : Fails {B = List NamedTree} (refused i.rest) (Syntax (length i.rest)) = record { says = refl } in
      subst (λ o. Fails o e) (sym h) (subst (λ r. Fails {B = List NamedTree} (refused i.rest) r) (sym is) f)

-- the scope behind one more name
pub behind_more : (c : Storage) (ns : List NamedTree) (n : NamedTree) (s : Scope) → behind_names c (ns ++ n ∷ []) s ≡ behind_named c n (behind_names c ns s)
behind_more c [] n s = refl
behind_more c (x ∷ ns) n s = behind_more c ns n (behind_named c x s)

pub behind_pushed : (c : Storage) (ns xs : List NamedTree) (n : NamedTree) (s t u : Scope) → xs ≡ ns ++ n ∷ [] → t ≡ behind_names c ns s → u ≡ behind_named c n t → u ≡ behind_names c xs s
behind_pushed c ns xs n s t u push before go = go ∙ ap (behind_named c n) before ∙ sym (behind_more c ns n s) ∙ ap (λ z. behind_names c z s) (sym push)

-- the first name was read
pub names_begin : (c : Storage) (s t : Scope) (n : NamedTree) (xs : List NamedTree) (i : Input) → xs ≡ n ∷ [] → t ≡ behind_named c n s →
    Loop ◌∷◌ xs (read (more_outer c t) i) (mapped (λ ns. n ∷ ns) (read (more_outer c (behind_named c n s)) i))
names_begin c s t n xs i one go =
    record { is = ap (λ ys. mapped (before ◌∷◌ ys) (read (more_outer c t) i)) one ∙ ap (λ z. mapped (λ ns. n ∷ ns) (read (more_outer c z) i)) go }

pub behind_first : (c : Storage) (s t : Scope) (n : NamedTree) (xs : List NamedTree) → xs ≡ n ∷ [] → t ≡ behind_named c n s → t ≡ behind_names c xs s
behind_first c s t n xs one go = go ∙ ap (λ z. behind_names c z s) (sym one)
