-- The declarators of a member, one by one.
use Rattle.std.proofs.Common.{◌≡◌, ◌≢◌, ◌<◌, ◌≤◌, ℕ, true, false, List, [], ◌∷◌, length, refl, sym, ap, ◌∙◌, subst, arith}
use Rattle.c_tree.specs.Tree.{DeclaratorTree, Declarators, no_declarators, declarators}
use Rattle.c_tree.specs.View.{declarators_of}
use Rattle.c_grammar.specs.declared.kind.Kind.{Kind}
use Rattle.c_grammar.specs.declared.kind.Kind.TheVariants as k
use Rattle.c_grammar.specs.Kind.{kind, same_kind, tail_of}
use Rattle.c_grammar.specs.Body.{done, got, and_then, Reader}
use Rattle.c_grammar.specs.Gauge.{Meter}
use Rattle.c_grammar.specs.Input.{Input}
use Rattle.c_grammar.specs.Reading.{read}
use Rattle.c_grammar.specs.Rules.{NameEnvironment, more_declarators, more_declarators_by}
use Rattle.c_grammar.proofs.KindLemmas.{same_true, same_false}
use Rattle.c_grammar.specs.declared.refusal.Refusal.{Refusal}
use Rattle.c_grammar.specs.Gives.{Fails}
use Rattle.c_grammar.specs.Lists.{mapped, before}
use Rattle.c_grammar.specs.Performing.{perform, at}
use Rattle.c_grammar.proofs.Joining.{tail_mapped, same_mapped, Joins, join_spend, join_skip, join_call, then_fails, spent_taken, Leaving}
use Rattle.c_grammar.proofs.Loops.{Turn}
use Rattle.c_grammar.proofs.Opens.{more_declarators_performs}
use Rattle.c_grammar.proofs.Shorter.{Leaves}
use Rattle.type_parser.specs.Tagged.{another_declarator}
use Rattle.type_parser.proofs.TaggedShorter.{taken_shorter}

module _ (t : NameEnvironment) (d : ℕ) where
  abbrev others : DeclaratorTree → Reader Meter Declarators
  others x us m = mapped (declarators x) (read (more_declarators t d) (at us m))

  declarators_on : (i : Input) → same_kind (kind [] i.rest) k.Comma ≡ true → read (more_declarators t d) i ≡ and_then (perform (another_declarator t d) i) others
  declarators_on i is =
      let h : Joins (λ y. y) others (more_declarators_by t d k.Comma) (another_declarator t d) i =
      join_spend (λ m. join_skip (join_call (λ x us p. record { is = tail_mapped (declarators x) (read (more_declarators t d) (at us p)) }))) in
      more_declarators_performs t d i
      ∙ ap (λ x. perform (more_declarators_by t d x) i) (same_true (kind [] i.rest) k.Comma is)
      ∙ h.is ∙ ap (λ o. and_then o others) (same_mapped (perform (another_declarator t d) i))

  pub declarators_turn : (i j : Input) (x : DeclaratorTree) → same_kind (kind [] i.rest) k.Comma ≡ true → perform (another_declarator t d) i ≡ got x j.rest j.meter →
      Turn declarators x (read (more_declarators t d) i) (read (more_declarators t d) j)
  declarators_turn i j x is e = record { is = declarators_on i is ∙ ap (λ o. and_then o others) e }

  pub declarators_fail : (i : Input) (e : Refusal) → same_kind (kind [] i.rest) k.Comma ≡ true → Fails (perform (another_declarator t d) i) e → Fails (read (more_declarators t d) i) e
  declarators_fail i e is h = subst (λ o. Fails o e) (sym (declarators_on i is)) (then_fails others h)

  pub declarators_shorter : (i j : Input) (x : DeclaratorTree) → same_kind (kind [] i.rest) k.Comma ≡ true → perform (another_declarator t d) i ≡ got x j.rest j.meter → length j.rest < length i.rest
  declarators_shorter i j x is e =
      let h : Leaving (length (tail_of i.rest)) (another_declarator t d) i = spent_taken (omega arith) in
      let l : length j.rest ≤ length (tail_of i.rest) = subst (λ o. Leaves (length (tail_of i.rest)) o) e h.is in
      omega (arith, taken_shorter [] i.rest k.Comma (same_true (kind [] i.rest) k.Comma is) (λ e. absurd cc))

  declarators_off : (x : Kind) → x ≢ k.Comma → more_declarators_by t d x ≡ done no_declarators
  declarators_off k.Comma comma = absurd (comma refl)
  declarators_off _ comma = refl

  pub declarators_end : (i : Input) → same_kind (kind [] i.rest) k.Comma ≡ false → read (more_declarators t d) i ≡ got no_declarators i.rest i.meter
  declarators_end i other = more_declarators_performs t d i ∙ ap (λ b. perform b i) (declarators_off (kind [] i.rest) (same_false (kind [] i.rest) k.Comma other))

-- the list of all of them
pub declarators_none : (xs : List DeclaratorTree) → before declarators xs no_declarators ≡ declarators_of xs
declarators_none [] = refl
declarators_none (x ∷ xs) = ap (declarators x) (declarators_none xs)
