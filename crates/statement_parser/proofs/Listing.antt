-- The statements of a block, one by one.
use Rattle.std.proofs.Common.{◌≡◌, ◌≢◌, ◌<◌, ℕ, nat_lt, cond, Bool, true, false, List, [], ◌∷◌, length, refl, sym, ap, ◌∙◌, subst, arith}
use Rattle.std.proofs.lemmas.Bool.Decides.{nat_tests}
use Rattle.c_tree.specs.Shape.{Context}
use Rattle.c_tree.specs.Tree.{StatementTree, Statements, no_statements, statements}
use Rattle.c_tree.specs.Marks.{Tokens}
use Rattle.c_tree.specs.StatementView.{statements_of}
use Rattle.c_grammar.specs.declared.kind.Kind.{Kind}
use Rattle.c_grammar.specs.declared.kind.Kind.TheVariants as k
use Rattle.c_grammar.specs.Kind.{kind, same_kind}
use Rattle.c_grammar.specs.Body.{done, strict, Outcome, got, refused, exceeded, and_then, Reader}
use Rattle.c_grammar.specs.Body as body
use Rattle.c_grammar.specs.Gauge.{Meter}
use Rattle.c_grammar.specs.Input.{Input, next}
use Rattle.c_grammar.specs.Reading.{read}
use Rattle.c_grammar.specs.Rules.{NameEnvironment, a_statement, all_statements, statements_by}
use Rattle.c_grammar.proofs.KindLemmas.{same_true, same_false}
use Rattle.c_grammar.specs.declared.refusal.Refusal.{Refusal}
use Rattle.c_grammar.specs.Gives.{Fails}
use Rattle.c_grammar.specs.Lists.{mapped, before}
use Rattle.c_grammar.specs.Performing.{perform, at}
use Rattle.c_grammar.proofs.Joining.{tail_mapped, then_fails}
use Rattle.c_grammar.proofs.Loops.{Turn}
use Rattle.c_grammar.proofs.Opens.{statements_performs}
use Rattle.statement_parser.specs.Parts.{one_statement}

-- fewer tokens are left
abbrev Under : {A : Type 0} → ℕ → Outcome Meter A → Type 0
Under n (got a ts m) = length ts < n
Under n (refused ts) = Unit {0}
Under n (exceeded ts) = Unit {0}

tested_under : {A : Type 0} (b : Bool) (n : ℕ) (v : A) (us : Tokens) (m : Meter) → (b ≡ true → length us < n) → Under n (cond b (got v us m) (refused us))
tested_under true n v us m h = h refl
tested_under false n v us m h = tt

strict_under : {A : Type 0} (n : ℕ) (o : Outcome Meter A) → Under n (and_then o (λ v us m. cond (nat_lt (length us) n) (got v us m) (refused us)))
strict_under n (got v us m) = tested_under (nat_lt (length us) n) n v us m (λ is. grind (arith, nat_tests))
strict_under n (refused us) = tt
strict_under n (exceeded us) = tt

module _ (t : NameEnvironment) (d : ℕ) (p : Context) where
  abbrev others : StatementTree → Reader Meter Statements
  others x us m = mapped (statements x) (read (all_statements t d p) (at us m))

  statements_some : (x : Kind) → x ≢ k.CloseBrace → statements_by t d p x ≡ strict (a_statement t d p 1) (λ y. body.call (all_statements t d p) (λ ys. done (statements y ys)))
  statements_some k.CloseBrace other = absurd (other refl)
  statements_some _ other = refl

  tested_on : (b : Bool) (x : StatementTree) (us : Tokens) (m : Meter) →
      cond b (and_then (read (all_statements t d p) (at us m)) (λ ys vs n. got (statements x ys) vs n)) (refused us) ≡ and_then (cond b (got x us m) (refused us)) others
  tested_on true x us m = tail_mapped (statements x) (read (all_statements t d p) (at us m))
  tested_on false x us m = refl

  strict_on : (n : ℕ) (o : Outcome Meter StatementTree) →
      and_then o (λ v us m. cond (nat_lt (length us) n) (and_then (read (all_statements t d p) (at us m)) (λ ys vs q. got (statements v ys) vs q)) (refused us))
      ≡ and_then (and_then o (λ v us m. cond (nat_lt (length us) n) (got v us m) (refused us))) others
  strict_on n (got v us m) = tested_on (nat_lt (length us) n) v us m
  strict_on n (refused us) = refl
  strict_on n (exceeded us) = refl

  statements_on : (i : Input) → same_kind (kind t.types i.rest) k.CloseBrace ≡ false → read (all_statements t d p) i ≡ and_then (perform (one_statement t d p) i) others
  statements_on i other =
      statements_performs t d p i
      ∙ ap (λ b. perform b i) (statements_some (kind t.types i.rest) (same_false (kind t.types i.rest) k.CloseBrace other))
      ∙ strict_on (length i.rest) (read (a_statement t d p 1) i)

  -- one statement more
  pub statements_turn : (i j : Input) (x : StatementTree) → same_kind (kind t.types i.rest) k.CloseBrace ≡ false → perform (one_statement t d p) i ≡ got x j.rest j.meter →
      Turn statements x (read (all_statements t d p) i) (read (all_statements t d p) j)
  statements_turn i j x other e = record { is = statements_on i other ∙ ap (λ o. and_then o others) e }

  pub statements_fail : (i : Input) (e : Refusal) → same_kind (kind t.types i.rest) k.CloseBrace ≡ false → Fails (perform (one_statement t d p) i) e → Fails (read (all_statements t d p) i) e
  statements_fail i e other h = subst (λ o. Fails o e) (sym (statements_on i other)) (then_fails others h)

  pub statements_shorter : (i j : Input) (x : StatementTree) → perform (one_statement t d p) i ≡ got x j.rest j.meter → length j.rest < length i.rest
  statements_shorter i j x e = subst (λ o. Under (length i.rest) o) e (strict_under (length i.rest) (read (a_statement t d p 1) i))

  -- the closing brace
  pub statements_end : (i j : Input) → same_kind (kind t.types i.rest) k.CloseBrace ≡ true → j ≡ next i → read (all_statements t d p) i ≡ got no_statements j.rest j.meter
  statements_end i j is go =
      statements_performs t d p i
      ∙ ap (λ x. perform (statements_by t d p x) i) (same_true (kind t.types i.rest) k.CloseBrace is)
      ∙ ap (λ z. got no_statements z.rest z.meter) (sym go)

-- the list of all of them
pub statements_none : (xs : List StatementTree) → before statements xs no_statements ≡ statements_of xs
statements_none [] = refl
statements_none (x ∷ xs) = ap (statements x) (statements_none xs)
