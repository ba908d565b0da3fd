-- What a rule reads, step by step, as code reads it.
use Rattle.std.proofs.Common.{◌≡◌, ◌≢◌, ℕ, ◌<◌, nat_lt, Bool, true, false, ◌||◌, cond, List, [], ◌∷◌, length, Some, None, refl, sym, ap, ◌∙◌, subst, arith}
use Rattle.std.proofs.lemmas.Bool.Decides.{nat_tests}
use Rattle.c_tree.specs.Tree.{Name}
use Rattle.c_tree.specs.Marks.{Tokens}
use Rattle.c_grammar.specs.declared.kind.Kind.{Kind}
use Rattle.c_grammar.specs.Kind.{kind, token_of, head_text, tail_of, IsReal}
use Rattle.c_grammar.specs.Body.{done, stop, look, take, spend, rise, call, strict, scope, Outcome, got, refused, exceeded, and_then, and_paid, exec}
use Rattle.c_grammar.specs.Gauge.{Meter, limited, within, added, raised, entered, left}
use Rattle.c_grammar.specs.Input.{Input, next}
use Rattle.c_grammar.specs.Reading.{read, Failure, failure_of}
use Rattle.c_grammar.specs.Rules.{Rule, Result, Reads, rule, rank, top, expect}
use Rattle.c_grammar.proofs.KindLemmas.{same_refl, false_same, head_is}
use Rattle.c_grammar.proofs.Parse.{bounded}
use Rattle.c_grammar.proofs.Opening.{opened}

abbrev handled : (r : Rule) → Tokens → Meter → Outcome Meter (Result r)
handled r ts m = read r (record { rest = ts; meter = m })

-- What a body comes to from an input has the property P. free: a token was taken; limit: else the rules that it calls rank
-- lower.
pub record Runs (A : Type 0) (free : Bool) (limit : ℕ) (b : Reads A) (i : Input) (P : Outcome Meter A → Type 0) : Type 0 where
  pub is : P (exec Rule Result rank Meter limited handled free limit b i.rest i.meter)

-- what a body comes to
abbrev pub Does : {A : Type 0} → Bool → ℕ → Reads A → Tokens → Meter → Outcome Meter A
Does free limit b ts m = exec Rule Result rank Meter limited handled free limit b ts m

-- what a rule reads, with its body opened
pub opens : (r : Rule) (i : Input) → read r i ≡ Does false (rank r) (rule r) i.rest i.meter
unfolding read
opens r i = opened Rule Result rank rule Meter limited top bounded r i.rest i.meter

-- A rule reads what its body does.
pub read_rule : (r : Rule) (i : Input) (P : Outcome Meter (Result r) → Type 0) → Runs (Result r) false (rank r) (rule r) i P → P (read r i)
read_rule r i P h = subst P (sym (opens r i)) h.is

then_same : {A B : Type 0} (b : Bool) (o p : Outcome Meter A) (f : A → Tokens → Meter → Outcome Meter B) (ts : Tokens) → b ≡ true → o ≡ p → cond b (and_then o f) (refused ts) ≡ and_then p f
then_same true o p f ts is e = ap (λ z. and_then z f) e
then_same false o p f ts is e = absurd cc

moved : {A : Type 0} (free : Bool) (limit : ℕ) (P : Outcome Meter A → Type 0) (f : Name → Reads A) (i : Input) (ts : Tokens) (n : Name) (us : Tokens) (e : Kind) → ts ≡ token_of e n ∷ us →
    P (Does true limit (f (head_text ts)) (tail_of ts) i.meter) → P (Does free limit (take f) ts i.meter)
moved free limit P f i ts n us e at h =
    subst (λ vs. P (Does true limit (f (head_text vs)) (tail_of vs) i.meter) → P (Does free limit (take f) vs i.meter)) (sym at) (λ p. p) h

module _ {A : Type 0} {free : Bool} {limit : ℕ} {i : Input} {P : Outcome Meter A → Type 0} where
  pub run_done : {a : A} → P (got a i.rest i.meter) → Runs A free limit (done a) i P
  run_done h = record { is = h }

  pub run_stop : P (refused i.rest) → Runs A free limit stop i P
  run_stop h = record { is = h }

  -- by the kind of the next token
  pub run_look : {types : List Name} {f : Kind → Reads A} (e : Kind) → kind types i.rest ≡ e → Runs A free limit (f e) i P → Runs A free limit (look types f) i P
  run_look {f = f} e is h = record { is = subst (λ z. P (Does free limit (f z) i.rest i.meter)) (sym is) h.is }

  -- a token is taken
  pub run_take : {f : Name → Reads A} (types : List Name) (e : Kind) (j : Input) → kind types i.rest ≡ e → IsReal e → j ≡ next i → Runs A true limit (f (head_text i.rest)) j P → Runs A free limit (take f) i P
  run_take {f = f} types e j is real go h =
      let at = head_is types i.rest e is real in
      record { is = moved free limit P f i i.rest at.0 at.1 e at.2 (subst (λ z. P (Does true limit (f (head_text i.rest)) z.rest z.meter)) go h.is) }

  pub run_spend : {n d : ℕ} {b : Reads A} (j : Input) → j.rest ≡ i.rest → within (added n d i.meter) ≡ Some j.meter → Runs A free limit b j P → Runs A free limit (spend n d b) i P
  run_spend {b = b} j same paid h =
      record { is = subst P (sym (ap (λ z. and_paid z i.rest (λ y. Does free limit b i.rest y)) paid ∙ ap (λ z. Does free limit b z j.meter) (sym same))) h.is }

  pub run_rise : {b : Reads A} (j : Input) → j.rest ≡ i.rest → within (raised i.meter) ≡ Some j.meter → Runs A free limit b j P → Runs A free limit (rise b) i P
  run_rise {b = b} j same paid h =
      record { is = subst P (sym (ap (λ z. and_paid z i.rest (λ y. Does free limit b i.rest y)) paid ∙ ap (λ z. Does free limit b z j.meter) (sym same))) h.is }

  -- a limit is passed
  pub run_unpaid : {n d : ℕ} (b : Reads A) → within (added n d i.meter) ≡ None → P (exceeded i.rest) → Runs A free limit (spend n d b) i P
  run_unpaid b is h = record { is = subst P (sym (ap (λ z. and_paid z i.rest (λ y. Does free limit b i.rest y)) is)) h }

  pub run_unraised : (b : Reads A) → within (raised i.meter) ≡ None → P (exceeded i.rest) → Runs A free limit (rise b) i P
  run_unraised b is h = record { is = subst P (sym (ap (λ z. and_paid z i.rest (λ y. Does free limit b i.rest y)) is)) h }

  -- another rule was read
  pub run_call : {r : Rule} {f : Result r → Reads A} (v : Result r) (j : Input) → free || nat_lt (rank r) limit ≡ true → read r i ≡ got v j.rest j.meter → Runs A free limit (f v) j P → Runs A free limit (call r f) i P
  run_call {r = r} {f = f} v j may e h =
      record { is = subst P (sym (then_same (free || nat_lt (rank r) limit) (read r i) (got v j.rest j.meter) (λ w us y. Does free limit (f w) us y) i.rest may e)) h.is }

  pub run_strict : {r : Rule} {f : Result r → Reads A} (v : Result r) (j : Input) → free || nat_lt (rank r) limit ≡ true → read r i ≡ got v j.rest j.meter → length j.rest < length i.rest →
      Runs A true limit (f v) j P → Runs A free limit (strict r f) i P
  run_strict {r = r} {f = f} v j may e fewer h =
      let less : nat_lt (length j.rest) (length i.rest) ≡ true = grind (arith, nat_tests) in
      record {
        is = subst P (sym (then_same (free || nat_lt (rank r) limit) (read r i) (got v j.rest j.meter) (λ w us y. cond (nat_lt (length us) (length i.rest)) (Does true limit (f w) us y) (refused us)) i.rest may e
            ∙ ap (λ z. cond z (Does true limit (f v) j.rest j.meter) (refused j.rest)) less)) h.is;
      }

  -- in a scope of its own: the input in it, behind it, and outside again
  pub run_scope : {n : ℕ} {r : Rule} {f : Result r → Reads A} (v : Result r) (inner behind j : Input) → free || nat_lt (rank r) limit ≡ true →
      inner.rest ≡ i.rest → inner.meter ≡ entered n i.meter → read r inner ≡ got v behind.rest behind.meter → j.rest ≡ behind.rest → j.meter ≡ left i.meter behind.meter →
      Runs A free limit (f v) j P → Runs A free limit (scope n r f) i P
  run_scope {n = n} {r = r} {f = f} v inner behind j may same entering e after leaving h =
      let inside : handled r i.rest (entered n i.meter) ≡ got v behind.rest behind.meter = ap (λ z. handled r z (entered n i.meter)) (sym same) ∙ ap (λ z. handled r inner.rest z) (sym entering) ∙ e in
      record {
        is = subst P (sym (then_same (free || nat_lt (rank r) limit) (handled r i.rest (entered n i.meter)) (got v behind.rest behind.meter) (λ w us y. Does free limit (f w) us (left i.meter y)) i.rest may inside
            ∙ ap (λ z. Does free limit (f v) z (left i.meter behind.meter)) (sym after) ∙ ap (λ z. Does free limit (f v) j.rest z) (sym leaving))) h.is;
      }

  pub run_true : {b : Bool} {p : Reads A} (q : Reads A) → b ≡ true → Runs A free limit p i P → Runs A free limit (cond b p q) i P
  run_true {b = true} q is h = h
  run_true {b = false} q is h = absurd cc

  pub run_false : {b : Bool} (p : Reads A) {q : Reads A} → b ≡ false → Runs A free limit q i P → Runs A free limit (cond b p q) i P
  run_false {b = true} p is h = absurd cc
  run_false {b = false} p is h = h

failed_same : {A B : Type 0} (o : Outcome Meter A) (f : A → Tokens → Meter → Outcome Meter B) (w : Failure) → failure_of o ≡ Some w → failure_of (and_then o f) ≡ Some w
failed_same (got a ts m) f w e = absurd cc
failed_same (refused ts) f w e = e
failed_same (exceeded ts) f w e = e

if_failed : {A : Type 0} (b : Bool) (o : Outcome Meter A) (ts : Tokens) (w : Failure) → b ≡ true → failure_of o ≡ Some w → failure_of (cond b o (refused ts)) ≡ Some w
if_failed true o ts w is e = e
if_failed false o ts w is e = absurd cc

module _ {A : Type 0} {free : Bool} {limit : ℕ} {i : Input} {P : Outcome Meter A → Type 0} where
  -- a token that is wanted
  pub run_expect : {f : Reads A} (e : Kind) (j : Input) → kind [] i.rest ≡ e → IsReal e → j ≡ next i → Runs A true limit f j P → Runs A free limit (expect e f) i P
  run_expect e j is real go h = run_look e is (run_true _ (same_refl e) (run_take [] e j is real go h))

  -- the token isn't the one that is wanted
  pub run_unexpected : (f : Reads A) (e : Kind) → kind [] i.rest ≢ e → P (refused i.rest) → Runs A free limit (expect e f) i P
  run_unexpected f e other h = run_look (kind [] i.rest) refl (run_false _ (false_same _ _ other) (run_stop h))

  -- another rule fails
  pub run_failed : {r : Rule} (f : Result r → Reads A) (w : Failure) → free || nat_lt (rank r) limit ≡ true → failure_of (read r i) ≡ Some w →
      ((o : Outcome Meter A) → failure_of o ≡ Some w → P o) → Runs A free limit (call r f) i P
  run_failed {r = r} f w may e h =
      record { is = h _ (if_failed (free || nat_lt (rank r) limit) _ i.rest w may (failed_same (read r i) (λ v us y. Does free limit (f v) us y) w e)) }

  pub run_strict_failed : {r : Rule} (f : Result r → Reads A) (w : Failure) → free || nat_lt (rank r) limit ≡ true → failure_of (read r i) ≡ Some w →
      ((o : Outcome Meter A) → failure_of o ≡ Some w → P o) → Runs A free limit (strict r f) i P
  run_strict_failed {r = r} f w may e h =
      record { is = h _ (if_failed (free || nat_lt (rank r) limit) _ i.rest w may (failed_same (read r i) (λ v us y. cond (nat_lt (length us) (length i.rest)) (Does true limit (f v) us y) (refused us)) w e)) }

  pub run_scope_failed : {n : ℕ} {r : Rule} (f : Result r → Reads A) (inner : Input) (w : Failure) → free || nat_lt (rank r) limit ≡ true → inner.rest ≡ i.rest → inner.meter ≡ entered n i.meter →
      failure_of (read r inner) ≡ Some w → ((o : Outcome Meter A) → failure_of o ≡ Some w → P o) → Runs A free limit (scope n r f) i P
  run_scope_failed {n = n} {r = r} f inner w may same entering e h =
      let inside : failure_of (handled r i.rest (entered n i.meter)) ≡ Some w =
      ap (λ z. failure_of (handled r z (entered n i.meter))) (sym same) ∙ ap (λ z. failure_of (handled r inner.rest z)) (sym entering) ∙ e in
      record { is = h _ (if_failed (free || nat_lt (rank r) limit) _ i.rest w may (failed_same (handled r i.rest (entered n i.meter)) (λ v us y. Does free limit (f v) us (left i.meter y)) w inside)) }
