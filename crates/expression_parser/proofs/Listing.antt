-- Texts and arguments, one by one.
use Rattle.std.proofs.Common.{◌≡◌, ◌≢◌, ◌<◌, ◌≤◌, ℕ, true, false, List, [], ◌∷◌, length, refl, sym, ap, ◌∙◌, subst, arith}
use Rattle.c_tree.specs.Tree.{Name, Expression, Expressions, no_expressions, expressions}
use Rattle.c_tree.specs.Marks.{Tokens}
use Rattle.c_tree.specs.View.{expressions_of}
use Rattle.c_grammar.specs.declared.kind.Kind.{Kind}
use Rattle.c_grammar.specs.declared.kind.Kind.TheVariants as k
use Rattle.c_grammar.specs.Kind.{kind, same_kind, tail_of, head_text}
use Rattle.c_grammar.specs.Body.{Body, done, stop, Outcome, got, refused, exceeded, and_then, Reader}
use Rattle.c_grammar.specs.Body as body
use Rattle.c_grammar.specs.Gauge.{Meter}
use Rattle.c_grammar.specs.Input.{Input, next}
use Rattle.c_grammar.specs.Reading.{read}
use Rattle.c_grammar.specs.Rules.{NameEnvironment, more_texts, texts_by, more_arguments, more_arguments_by, all_arguments, arguments_by, an_expression}
use Rattle.c_grammar.proofs.KindLemmas.{kind_end, same_true, same_false}
use Rattle.c_grammar.specs.declared.refusal.Refusal.{Refusal}
use Rattle.c_grammar.specs.declared.refusal.Refusal.TheVariants.{Syntax}
use Rattle.expression_parser.specs.Extending.{another}
use Rattle.c_grammar.specs.Gives.{Fails}
use Rattle.c_grammar.specs.Lists.{mapped, before}
use Rattle.c_grammar.specs.Performing.{perform, at}
use Rattle.c_grammar.proofs.Joining.{tail_mapped, same_mapped, Joins, join_spend, join_skip, join_call, then_fails, spent_taken, Leaving}
use Rattle.c_grammar.proofs.Loops.{Turn}
use Rattle.c_grammar.proofs.Opens.{more_texts_performs, more_arguments_performs, arguments_performs}
use Rattle.c_grammar.proofs.Shorter.{Leaves}

-- a token of a kind of its own is gone once it is taken
taken_tail : (ts : Tokens) (x : Kind) → same_kind (kind [] ts) x ≡ true → x ≢ k.Nothing → length (tail_of ts) < length ts
taken_tail [] x is some = absurd (some (sym (same_true (kind [] []) x is) ∙ kind_end []))
taken_tail (t ∷ ts) x is some = omega arith

-- ---- texts

texts_off : (x : Kind) → x ≢ k.Text → texts_by x ≡ done []
texts_off k.Text other = absurd (other refl)
texts_off _ other = refl

pub texts_turn : (i j : Input) (n : Name) → same_kind (kind [] i.rest) k.Text ≡ true → n ≡ head_text i.rest → j ≡ next i → Turn ◌∷◌ n (read more_texts i) (read more_texts j)
texts_turn i j n is text go =
    record {
      is = more_texts_performs i
          ∙ ap (λ x. perform (texts_by x) i) (same_true (kind [] i.rest) k.Text is)
          ∙ tail_mapped (λ ns. head_text i.rest ∷ ns) (read more_texts (next i))
          ∙ ap (λ z. mapped (λ ns. z ∷ ns) (read more_texts (next i))) (sym text)
          ∙ ap (λ z. mapped (λ ns. n ∷ ns) (read more_texts z)) (sym go);
    }

pub texts_end : (i : Input) → same_kind (kind [] i.rest) k.Text ≡ false → read more_texts i ≡ got [] i.rest i.meter
texts_end i other = more_texts_performs i ∙ ap (λ b. perform b i) (texts_off (kind [] i.rest) (same_false (kind [] i.rest) k.Text other))

pub texts_shorter : (i j : Input) → same_kind (kind [] i.rest) k.Text ≡ true → j ≡ next i → length j.rest < length i.rest
texts_shorter i j is go = subst (λ z. length z.rest < length i.rest) (sym go) (taken_tail i.rest k.Text is (λ e. absurd cc))

-- ---- arguments

module _ (t : NameEnvironment) (d : ℕ) where
  abbrev others : Expression → Reader Meter Expressions
  others x us m = mapped (expressions x) (read (more_arguments t d) (at us m))

  arguments_on : (i : Input) → same_kind (kind [] i.rest) k.Comma ≡ true → read (more_arguments t d) i ≡ and_then (perform (another t d) i) others
  arguments_on i is =
      let h : Joins (λ y. y) others (more_arguments_by t d k.Comma) (another t d) i =
      join_spend (λ m. join_skip (join_call (λ x us p. record { is = tail_mapped (expressions x) (read (more_arguments t d) (at us p)) }))) in
      more_arguments_performs t d i
      ∙ ap (λ x. perform (more_arguments_by t d x) i) (same_true (kind [] i.rest) k.Comma is)
      ∙ h.is ∙ ap (λ o. and_then o others) (same_mapped (perform (another t d) i))

  pub arguments_turn : (i j : Input) (x : Expression) → same_kind (kind [] i.rest) k.Comma ≡ true → perform (another t d) i ≡ got x j.rest j.meter →
      Turn expressions x (read (more_arguments t d) i) (read (more_arguments t d) j)
  arguments_turn i j x is e = record { is = arguments_on i is ∙ ap (λ o. and_then o others) e }

  pub arguments_fail : (i : Input) (e : Refusal) → same_kind (kind [] i.rest) k.Comma ≡ true → Fails (perform (another t d) i) e → Fails (read (more_arguments t d) i) e
  arguments_fail i e is h = subst (λ o. Fails o e) (sym (arguments_on i is)) (then_fails others h)

  pub arguments_shorter : (i j : Input) (x : Expression) → same_kind (kind [] i.rest) k.Comma ≡ true → perform (another t d) i ≡ got x j.rest j.meter → length j.rest < length i.rest
  arguments_shorter i j x is e =
      let h : Leaving (length (tail_of i.rest)) (another t d) i = spent_taken (omega arith) in
      let l : length j.rest ≤ length (tail_of i.rest) = subst (λ o. Leaves (length (tail_of i.rest)) o) e h.is in
      omega (arith, taken_tail i.rest k.Comma is (λ e. absurd cc))

  pub arguments_end : (i j : Input) → same_kind (kind [] i.rest) k.CloseParen ≡ true → j ≡ next i → read (more_arguments t d) i ≡ got no_expressions j.rest j.meter
  arguments_end i j is go =
      more_arguments_performs t d i
      ∙ ap (λ x. perform (more_arguments_by t d x) i) (same_true (kind [] i.rest) k.CloseParen is)
      ∙ ap (λ z. got no_expressions z.rest z.meter) (sym go)

  arguments_off : (x : Kind) → x ≢ k.Comma → x ≢ k.CloseParen → more_arguments_by t d x ≡ stop
  arguments_off k.Comma comma close = absurd (comma refl)
  arguments_off k.CloseParen comma close = absurd (close refl)
  arguments_off _ comma close = refl

  pub arguments_stop : (i : Input) (e : Refusal) → same_kind (kind [] i.rest) k.Comma ≡ false → same_kind (kind [] i.rest) k.CloseParen ≡ false → e ≡ Syntax (length i.rest) → Fails (read (more_arguments t d) i) e
  arguments_stop i e comma close is =
      let h : read (more_arguments t d) i ≡ refused i.rest =
      more_arguments_performs t d i ∙ ap (λ b. perform b i) (arguments_off (kind [] i.rest) (same_false (kind [] i.rest) k.Comma comma) (same_false (kind [] i.rest) k.CloseParen close)) in
      let f : Fails {B = Expressions} (refused i.rest) (Syntax (length i.rest)) = record { says = refl } in
      subst (λ o. Fails o e) (sym h) (subst (λ r. Fails {B = Expressions} (refused i.rest) r) (sym is) f)

arguments_some : (t : NameEnvironment) (d : ℕ) (x : Kind) → x ≢ k.CloseParen → arguments_by t d x ≡ body.call (an_expression t d 2 1) (λ y. body.call (more_arguments t d) (λ ys. done (expressions y ys)))
arguments_some t d k.CloseParen other = absurd (other refl)
arguments_some t d _ other = refl

-- the first argument, and the others
pub arguments_first : (t : NameEnvironment) (d : ℕ) (i j : Input) (y : Expression) (x : Kind) → x ≡ kind t.types i.rest → x ≢ k.CloseParen → read (an_expression t d 2 1) i ≡ got y j.rest j.meter →
    read (all_arguments t d) i ≡ mapped (expressions y) (read (more_arguments t d) j)
arguments_first t d i j y x is other e =
    arguments_performs t d i
    ∙ ap (λ z. perform (arguments_by t d z) i) (sym is)
    ∙ ap (λ b. perform b i) (arguments_some t d x other)
    ∙ ap (λ o. and_then o (λ v us m. and_then (read (more_arguments t d) (at us m)) (λ ys vs n. got (expressions v ys) vs n))) e
    ∙ tail_mapped (expressions y) (read (more_arguments t d) j)

-- the list of all of them
pub before_none : (xs : List Expression) → before expressions xs no_expressions ≡ expressions_of xs
before_none [] = refl
before_none (x ∷ xs) = ap (expressions x) (before_none xs)
