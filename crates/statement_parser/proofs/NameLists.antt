-- Declared names, one by one.
use Rattle.std.proofs.Common.{◌≡◌, ◌≢◌, ◌<◌, ◌≤◌, ℕ, true, false, List, [], ◌∷◌, length, refl, sym, ap, ◌∙◌, subst, arith}
use Rattle.c_tree.specs.Tree.{NamedTree}
use Rattle.c_grammar.specs.declared.kind.Kind.{Kind}
use Rattle.c_grammar.specs.declared.kind.Kind.TheVariants as k
use Rattle.c_grammar.specs.Kind.{kind, same_kind, tail_of}
use Rattle.c_grammar.specs.Body.{stop, got, refused, and_then, Reader}
use Rattle.c_grammar.specs.Gauge.{Meter}
use Rattle.c_grammar.specs.Input.{Input, next}
use Rattle.c_grammar.specs.Reading.{read}
use Rattle.c_grammar.specs.Rules.{NameEnvironment, more_named, more_named_by}
use Rattle.c_grammar.proofs.KindLemmas.{same_true, same_false}
use Rattle.c_grammar.specs.declared.refusal.Refusal.{Refusal}
use Rattle.c_grammar.specs.declared.refusal.Refusal.TheVariants.{Syntax}
use Rattle.c_grammar.specs.Gives.{Fails}
use Rattle.c_grammar.specs.Lists.{mapped}
use Rattle.c_grammar.specs.Performing.{perform, at}
use Rattle.c_grammar.proofs.Joining.{tail_mapped, same_mapped, Joins, join_spend, join_skip, join_call, then_fails, spent_taken, Leaving}
use Rattle.c_grammar.proofs.Loops.{Turn}
use Rattle.c_grammar.proofs.Opens.{more_named_performs}
use Rattle.c_grammar.proofs.Shorter.{Leaves}
use Rattle.type_parser.proofs.TaggedShorter.{taken_shorter}
use Rattle.statement_parser.specs.DeclarationParts.{another_name}

-- one before others
abbrev with_name : NamedTree → List NamedTree → List NamedTree
with_name x xs = x ∷ xs

module _ (t : NameEnvironment) (d : ℕ) where
  abbrev others : NamedTree → Reader Meter (List NamedTree)
  others x us m = mapped (with_name x) (read (more_named t d) (at us m))

  named_on : (i : Input) → same_kind (kind [] i.rest) k.Comma ≡ true → read (more_named t d) i ≡ and_then (perform (another_name t d) i) others
  named_on i is =
      let h : Joins (λ y. y) others (more_named_by t d k.Comma) (another_name t d) i =
      join_spend (λ m. join_skip (join_call (λ x us p. record { is = tail_mapped (with_name x) (read (more_named t d) (at us p)) }))) in
      more_named_performs t d i
      ∙ ap (λ x. perform (more_named_by t d x) i) (same_true (kind [] i.rest) k.Comma is)
      ∙ h.is ∙ ap (λ o. and_then o others) (same_mapped (perform (another_name t d) i))

  pub named_turn : (i j : Input) (x : NamedTree) → same_kind (kind [] i.rest) k.Comma ≡ true → perform (another_name t d) i ≡ got x j.rest j.meter →
      Turn ◌∷◌ x (read (more_named t d) i) (read (more_named t d) j)
  named_turn i j x is e = record { is = named_on i is ∙ ap (λ o. and_then o others) e }

  pub named_fail : (i : Input) (e : Refusal) → same_kind (kind [] i.rest) k.Comma ≡ true → Fails (perform (another_name t d) i) e → Fails (read (more_named t d) i) e
  named_fail i e is h = subst (λ o. Fails o e) (sym (named_on i is)) (then_fails others h)

  pub named_shorter : (i j : Input) (x : NamedTree) → same_kind (kind [] i.rest) k.Comma ≡ true → perform (another_name t d) i ≡ got x j.rest j.meter → length j.rest < length i.rest
  named_shorter i j x is e =
      let h : Leaving (length (tail_of i.rest)) (another_name t d) i = spent_taken (omega arith) in
      let l : length j.rest ≤ length (tail_of i.rest) = subst (λ o. Leaves (length (tail_of i.rest)) o) e h.is in
      omega (arith, taken_shorter [] i.rest k.Comma (same_true (kind [] i.rest) k.Comma is) (λ e. absurd cc))

  pub named_end : (i j : Input) → same_kind (kind [] i.rest) k.Semicolon ≡ true → j ≡ next i → read (more_named t d) i ≡ got [] j.rest j.meter
  named_end i j is go =
      more_named_performs t d i
      ∙ ap (λ x. perform (more_named_by t d x) i) (same_true (kind [] i.rest) k.Semicolon is)
      ∙ ap (λ z. got [] z.rest z.meter) (sym go)

  named_off : (x : Kind) → x ≢ k.Comma → x ≢ k.Semicolon → more_named_by t d x ≡ stop
  named_off k.Comma comma end = absurd (comma refl)
  named_off k.Semicolon comma end = absurd (end refl)
  named_off _ comma end = refl

  pub named_stop : (i : Input) (e : Refusal) → same_kind (kind [] i.rest) k.Comma ≡ false → same_kind (kind [] i.rest) k.Semicolon ≡ false → e ≡ Syntax (length i.rest) → Fails (read (more_named t d) i) e
  named_stop i e comma end is =
      let h : read (more_named t d) i ≡ refused i.rest =
      more_named_performs t d i ∙ ap (λ b. perform b i) (named_off (kind [] i.rest) (same_false (kind [] i.rest) k.Comma comma) (same_false (kind [] i.rest) k.Semicolon end)) in
      let f : Fails {B = List NamedTree} (refused i.rest) (Syntax (length i.rest)) = record { says = refl } in
      subst (λ o. Fails o e) (sym h) (subst (λ r. Fails {B = List NamedTree} (refused i.rest) r) (sym is) f)
