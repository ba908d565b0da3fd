-- The enumerators, one by one.
use Rattle.std.proofs.Common.{◌≡◌, ◌<◌, ℕ, ◌+◌, Bool, List, [], ◌∷◌, length, Option, Some, None, refl, sym, ap, ◌∙◌, subst, arith}
use Rattle.c_tree.specs.Tree.{Name, Expression, Enumerators, no_enumerators}
use Rattle.c_tree.specs.View.{enumerators_of}
use Rattle.c_grammar.specs.declared.kind.Kind.{Kind}
use Rattle.c_grammar.specs.declared.kind.Kind.TheVariants as k
use Rattle.c_grammar.specs.Kind.{kind}
use Rattle.c_grammar.specs.Body.{done, look, Outcome, got, refused, exceeded, and_then, and_paid, Reader}
use Rattle.c_grammar.specs.Body as body
use Rattle.c_grammar.specs.Gauge.{Meter, within, added}
use Rattle.c_grammar.specs.Input.{Input, next, metered}
use Rattle.c_grammar.specs.Reading.{read}
use Rattle.c_grammar.specs.Rules.{NameEnvironment, rule, all_enumerators, more_enumerators, enumerator_by, more_enumerators_by, next_enumerator_by, barred}
use Rattle.c_grammar.specs.declared.refusal.Refusal.{Refusal}
use Rattle.c_grammar.specs.Gives.{Fails}
use Rattle.c_grammar.specs.Lists.{mapped, before}
use Rattle.c_grammar.specs.Performing.{perform, at}
use Rattle.c_grammar.proofs.Joining.{same_mapped, Joins, join_spend, join_skip, join_call, join_name, then_fails}
use Rattle.c_grammar.proofs.Loops.{Turn}
use Rattle.c_grammar.proofs.Opens.{enumerators_performs, more_enumerators_performs}
use Rattle.type_parser.specs.Tagged.{OneEnumerator, one_enumerator, valued_by, behind_enumerator_by, next_by, with_enumerator}
use Rattle.type_parser.proofs.TaggedShorter.{Under, name_under}

tail_twice : {A B : Type 0} (g : A → B) (o : Outcome Meter A) → and_then (and_then o (λ v us m. got v us m)) (λ v us m. got (g v) us m) ≡ mapped g o
tail_twice g (got v us m) = refl
tail_twice g (refused us) = refl
tail_twice g (exceeded us) = refl

module _ (t : NameEnvironment) (d : ℕ) where
  abbrev others : OneEnumerator → Reader Meter (Enumerators × Bool)
  others (x, None) us m = mapped (with_enumerator x) (read (all_enumerators t d) (at us m))
  others (x, Some b) us m = got (with_enumerator x (no_enumerators, b)) us m

  paid_on : (x : Name × Option Expression) (o : Option Meter) (j : Input) →
      and_then (and_paid o j.rest (λ m. perform (body.call (all_enumerators t d) done) (metered m j))) (λ es us m. got (with_enumerator x es) us m)
      ≡ and_then (mapped (λ y. y) (and_paid o j.rest (λ m. perform (done (x, None)) (metered m j)))) others
  paid_on x None j = refl
  paid_on x (Some m) j = tail_twice (with_enumerator x) (read (all_enumerators t d) (at j.rest m))

  next_on : (x : Name × Option Expression) (y : Kind) (j : Input) →
      and_then (perform (next_enumerator_by t d y) j) (λ es us m. got (with_enumerator x es) us m) ≡ and_then (mapped (λ y. y) (perform (next_by t d x y) j)) others
  next_on x k.CloseBrace j = refl
  next_on x k.Name j = paid_on x (within (added 1 (d + 1) j.meter)) j
  next_on x _ j = refl

  behind_by : (x : Name × Option Expression) (y : Kind) (j : Input) →
      and_then (perform (more_enumerators_by t d y) j) (λ es us m. got (with_enumerator x es) us m) ≡ and_then (mapped (λ y. y) (perform (behind_enumerator_by t d x y) j)) others
  behind_by x k.CloseBrace j = refl
  behind_by x k.Comma j = next_on x (kind (barred t) (next j).rest) (next j)
  behind_by x _ j = refl

  behind_on : {x : Name × Option Expression} {j : Input} → Joins (λ y. y) others (body.call (more_enumerators t d) (λ es. done (with_enumerator x es))) (look [] (behind_enumerator_by t d x)) j
  behind_on {x = x} {j = j} =
      record { is = ap (λ o. and_then o (λ es us m. got (with_enumerator x es) us m)) (more_enumerators_performs t d j) ∙ behind_by x (kind [] j.rest) j }

  value_on : (n : Name) (y : Kind) (j : Input) → Joins (λ y. y) others (enumerator_by t d n y) (valued_by t d n y) j
  value_on n k.Assign j = join_spend (λ m. join_skip (join_call (λ x us p. behind_on {x = (n, Some x)})))
  value_on n _ j = record { is = (behind_on {x = (n, None)} {j = j}).is }

  name_on : {n : Name} {j : Input} → Joins (λ y. y) others (look [] (enumerator_by t d n)) (look [] (valued_by t d n)) j
  name_on {n = n} {j = j} = record { is = (value_on n (kind [] j.rest) j).is }

  enumerators_on : (i : Input) → read (all_enumerators t d) i ≡ and_then (perform (one_enumerator t d) i) others
  enumerators_on i =
      let h : Joins (λ y. y) others (rule (all_enumerators t d)) (one_enumerator t d) i = join_name (barred t) (λ n. name_on) in
      enumerators_performs t d i ∙ h.is ∙ ap (λ o. and_then o others) (same_mapped (perform (one_enumerator t d) i))

  -- one enumerator more
  pub enumerators_turn : (i j : Input) (x : Name × Option Expression) → perform (one_enumerator t d) i ≡ got (x, None) j.rest j.meter → Turn with_enumerator x (read (all_enumerators t d) i) (read (all_enumerators t d) j)
  enumerators_turn i j x e = record { is = enumerators_on i ∙ ap (λ o. and_then o others) e }

  -- the last
  pub enumerators_last : (i j : Input) (x : Name × Option Expression) (b : Bool) → perform (one_enumerator t d) i ≡ got (x, Some b) j.rest j.meter →
      Turn with_enumerator x (read (all_enumerators t d) i) (got (no_enumerators, b) j.rest j.meter)
  enumerators_last i j x b e = record { is = enumerators_on i ∙ ap (λ o. and_then o others) e }

  pub enumerators_fail : (i : Input) (e : Refusal) → Fails (perform (one_enumerator t d) i) e → Fails (read (all_enumerators t d) i) e
  enumerators_fail i e h = subst (λ o. Fails o e) (sym (enumerators_on i)) (then_fails others h)

  pub enumerators_shorter : (i j : Input) (x : OneEnumerator) → perform (one_enumerator t d) i ≡ got x j.rest j.meter → length j.rest < length i.rest
  enumerators_shorter i j x e = subst (λ o. Under (length i.rest) o) e (name_under (length i.rest) (barred t) (λ n. look [] (valued_by t d n)) i (omega arith))

-- the list of all of them
pub enumerators_none : (xs : List (Name × Option Expression)) (b : Bool) → before with_enumerator xs (no_enumerators, b) ≡ (enumerators_of xs, b)
enumerators_none [] b = refl
enumerators_none ((n, None) ∷ xs) b = ap (with_enumerator (n, None)) (enumerators_none xs b)
enumerators_none ((n, Some x) ∷ xs) b = ap (with_enumerator (n, Some x)) (enumerators_none xs b)
