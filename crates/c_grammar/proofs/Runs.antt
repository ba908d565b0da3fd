-- What the body of a rule comes to at given tokens, step by step, where nothing is counted.
use Rattle.std.proofs.Common.{◌≡◌, ℕ, nat_lt, Bool, true, false, ◌||◌, cond, List, [], ◌∷◌, refl, sym, subst, ◌∙◌}
use Rattle.std.proofs.lemmas.Bool.{cond-true, cond-false}
use Rattle.base_core.specs.declared.token.Token.{Token}
use Rattle.c_tree.specs.Tree.{Name, Expression}
use Rattle.c_tree.specs.TypeWords.{is_among}
use Rattle.c_tree.specs.Marks.{Tokens, name_token}
use Rattle.c_grammar.specs.declared.kind.Kind.{Kind}
use Rattle.c_grammar.specs.declared.kind.Kind.TheVariants as k
use Rattle.c_grammar.specs.Kind.{kind, token_of, IsFixed}
use Rattle.c_grammar.specs.Body.{done, look, take, spend, rise, call, scope, Outcome, got, refused, exceeded, and_then, exec}
use Rattle.c_grammar.specs.Gauge.{free}
use Rattle.c_grammar.specs.Rules.{NameEnvironment, Rule, Result, Reads, rule, rank, expect, a_rest, named_by, naming}
use Rattle.c_grammar.proofs.KindLemmas.{kind_at, kind_name, same_refl}
use Rattle.c_grammar.proofs.Parse.{parse, opening}

-- at these tokens the body comes to this; a token was taken before, or the rule has this rank
pub record Runs {A : Type 0} (taken : Bool) (limit : ℕ) (b : Reads A) (ts : Tokens) (o : Outcome (Unit {0}) A) : Type 0 where
  pub runs : exec Rule Result rank (Unit {0}) free (λ q vs y. parse q vs) taken limit b ts tt ≡ o

-- a rule comes to what its body does
pub ran : (r : Rule) (ts : Tokens) (o : Outcome (Unit {0}) (Result r)) → Runs false (rank r) (rule r) ts o → parse r ts ≡ o
ran r ts o h = opening r ts ∙ h.runs

-- what is done with the outcome alone changes nothing
pub then_done : {A : Type 0} (o : Outcome (Unit {0}) A) → and_then o (λ a us y. got a us y) ≡ o
then_done (got a us y) = refl
then_done (refused us) = refl
then_done (exceeded us) = refl

module _ {A : Type 0} {taken : Bool} {limit : ℕ} {o : Outcome (Unit {0}) A} where
  -- the body ends
  pub run_done : {a : A} {us : Tokens} → got a us tt ≡ o → Runs taken limit (done a) us o
  run_done h = record { runs = h }

  -- by the kind of the next token
  pub run_look : {types : List Name} {f : Kind → Reads A} {ts : Tokens} (e : Kind) → kind types ts ≡ e → Runs taken limit (f e) ts o → Runs taken limit (look types f) ts o
  run_look {types} {f} {ts} e is h = record { runs = subst (λ j. exec Rule Result rank (Unit {0}) free (λ q vs y. parse q vs) taken limit (f j) ts tt ≡ o) (sym is) h.runs }

  -- the same body
  pub run_as : {b c : Reads A} {ts : Tokens} → b ≡ c → Runs taken limit c ts o → Runs taken limit b ts o
  run_as {b} {c} {ts} e h = subst (λ d. Runs taken limit d ts o) (sym e) h

  -- the same body behind the kind of the next token
  pub run_seen : {types : List Name} {f : Kind → Reads A} {ts : Tokens} {b : Reads A} → f (kind types ts) ≡ b → Runs taken limit b ts o → Runs taken limit (look types f) ts o
  run_seen {types} {f} {ts} {b} e h = record { runs = (run_as e h).runs }

  -- the next token is taken
  pub run_take : {f : Name → Reads A} {t : Token} {ts : Tokens} → Runs true limit (f t.lexeme) ts o → Runs taken limit (take f) (t ∷ ts) o
  run_take h = record { runs = h.runs }

  -- nodes are paid for
  pub run_spend : {n d : ℕ} {b : Reads A} {ts : Tokens} → Runs taken limit b ts o → Runs taken limit (spend n d b) ts o
  run_spend h = record { runs = h.runs }

  -- what was read lies deeper
  pub run_rise : {b : Reads A} {ts : Tokens} → Runs taken limit b ts o → Runs taken limit (rise b) ts o
  run_rise h = record { runs = h.runs }

  -- what another rule reads
  pub run_call : {r : Rule} {f : Result r → Reads A} {ts : Tokens} {v : Result r} {vs : Tokens} → taken || nat_lt (rank r) limit ≡ true → parse r ts ≡ got v vs tt → Runs taken limit (f v) vs o →
      Runs taken limit (call r f) ts o
  run_call {r} {f} {ts} {v} {vs} goes is h = record { runs = rw (goes, is) h.runs }

  -- what another rule reads in a scope of its own
  pub run_scope : {n : ℕ} {r : Rule} {f : Result r → Reads A} {ts : Tokens} {v : Result r} {vs : Tokens} → taken || nat_lt (rank r) limit ≡ true → parse r ts ≡ got v vs tt →
      Runs taken limit (f v) vs o → Runs taken limit (scope n r f) ts o
  run_scope {n} {r} {f} {ts} {v} {vs} goes is h = record { runs = rw (goes, is) h.runs }

  -- a test
  pub run_then : {b : Bool} {p : Reads A} (q : Reads A) {ts : Tokens} → b ≡ true → Runs taken limit p ts o → Runs taken limit (cond b p q) ts o
  run_then {b} {p} q e h = run_as (cond-true b p q e) h

  -- a test that fails
  pub run_else : {b : Bool} (p : Reads A) {q : Reads A} {ts : Tokens} → b ≡ false → Runs taken limit q ts o → Runs taken limit (cond b p q) ts o
  run_else {b} p {q} e h = run_as (cond-false b p q e) h

  -- the next token is a given one
  pub run_at : {types : List Name} {f : Kind → Reads A} {ts : Tokens} (e : Kind) → IsFixed e → Runs taken limit (f e) (token_of e [] ∷ ts) o → Runs taken limit (look types f) (token_of e [] ∷ ts) o
  run_at {types} {f} {ts} e fixed h = run_look e (kind_at types e [] ts fixed) h

  -- a token that is wanted
  pub run_expect : {f : Reads A} {ts : Tokens} (e : Kind) → IsFixed e → Runs true limit f ts o → Runs taken limit (expect e f) (token_of e [] ∷ ts) o
  run_expect e fixed h = run_at e fixed (run_then _ (same_refl e) (run_take h))

  -- a name that is no type, as a rule wants one
  pub run_name : {types : List Name} {f : Name → Reads A} {n : Name} {ts : Tokens} → is_among types n ≡ false → Runs true limit (f n) ts o → Runs taken limit (look types (named_by [] f)) (name_token n ∷ ts) o
  run_name {types} {f} {n} {ts} new h = run_look k.Name (kind_name types n ts new) (run_take h)

  -- a name may have to follow
  pub run_naming : (b : Bool) (d : ℕ) {p : Reads A} {ts : Tokens} → Runs taken limit p ts o → Runs taken limit (naming b d p) ts o
  run_naming true d h = run_spend h
  run_naming false d h = h

-- a body that ends with how an expression goes on
pub run_rest : {t : NameEnvironment} {d l : ℕ} {x : Expression} {taken : Bool} {limit : ℕ} {ts : Tokens} {o : Outcome (Unit {0}) Expression} → taken || nat_lt 1 limit ≡ true → parse (a_rest t d l x) ts ≡ o →
    Runs taken limit (call (a_rest t d l x) (λ v. done v)) ts o
run_rest {t} {d} {l} {x} {taken} {limit} {ts} {o} goes is = record { runs = rw goes (then_done (parse (a_rest t d l x) ts) ∙ is) }
