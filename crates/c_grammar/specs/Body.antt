-- Rules of a grammar, as programs that read tokens one at a time. R names the rules, and V is what each reads.
use Rattle.std.specs.Prelude.{ℕ, zero, suc, ◌+◌, ◌*◌, Bool, true, false, ◌||◌, nat_lt, cond, List, [], ◌∷◌, length, Option, Some, None}
use Rattle.c_tree.specs.Tree.{Name}
use Rattle.c_tree.specs.Marks.{Tokens}
use Rattle.c_grammar.specs.declared.kind.Kind.{Kind}
use Rattle.c_grammar.specs.Kind.{kind}

pub data Body (R : Type 0) (V : R → Type 0) (A : Type 0) : Type 0 where
  -- what was read
  done : A → Body R V A
  -- no rule goes on with the next token
  stop : Body R V A
  -- goes on by the kind of the next token, where these names are types
  look : List Name → (Kind → Body R V A) → Body R V A
  -- takes the next token, and goes on by its text
  take : (Name → Body R V A) → Body R V A
  -- the next token makes so many nodes more necessary, of this depth at most
  spend : ℕ → ℕ → Body R V A → Body R V A
  -- with the next token all that was read in this scope lies one node deeper
  rise : Body R V A → Body R V A
  -- what another rule reads
  call : (r : R) → (V r → Body R V A) → Body R V A
  -- what another rule reads, which takes a token at least
  strict : (r : R) → (V r → Body R V A) → Body R V A
  -- what another rule reads in a scope of its own, whose deepest node has this depth at first
  scope : ℕ → (r : R) → (V r → Body R V A) → Body R V A

-- what reading comes to: a value, the tokens behind it and what was spent; or the next token is refused, since no rule
-- goes on with it, or since a limit is passed
pub data Outcome (X A : Type 0) : Type 0 where
  got : A → Tokens → X → Outcome X A
  refused : Tokens → Outcome X A
  exceeded : Tokens → Outcome X A

abbrev pub Reader : Type 0 → Type 0 → Type 0
Reader X A = Tokens → X → Outcome X A

-- how spending is counted: None where a limit is passed
pub record Gauge (X : Type 0) : Type 0 where
  pub spends : ℕ → ℕ → X → Option X
  pub rises : X → Option X
  pub enters : ℕ → X → X
  -- of the counts outside and inside a scope
  pub leaves : X → X → X

abbrev pub and_then : {X A B : Type 0} → Outcome X A → (A → Reader X B) → Outcome X B
and_then (got a ts x) f = f a ts x
and_then (refused ts) f = refused ts
and_then (exceeded ts) f = exceeded ts

abbrev pub and_paid : {X A : Type 0} → Option X → Tokens → (X → Outcome X A) → Outcome X A
and_paid None ts f = exceeded ts
and_paid (Some x) ts f = f x

module _ (R : Type 0) (V : R → Type 0) (rank : R → ℕ) (X : Type 0) (gauge : Gauge X) (handle : (r : R) → Reader X (V r)) where
  -- A rule calls others before it has taken a token only where they rank lower, so that reading ends.
  abbrev pub exec : {A : Type 0} → Bool → ℕ → Body R V A → Reader X A
  exec free limit (done a) ts x = got a ts x
  exec free limit stop ts x = refused ts
  exec free limit (look types f) ts x = exec free limit (f (kind types ts)) ts x
  exec free limit (take f) [] x = refused []
  exec free limit (take f) (t ∷ ts) x = exec true limit (f t.lexeme) ts x
  exec free limit (spend n d b) ts x = and_paid (gauge.spends n d x) ts (λ y. exec free limit b ts y)
  exec free limit (rise b) ts x = and_paid (gauge.rises x) ts (λ y. exec free limit b ts y)
  exec free limit (call r f) ts x = cond (free || nat_lt (rank r) limit) (and_then (handle r ts x) (λ v us y. exec free limit (f v) us y)) (refused ts)
  exec free limit (strict r f) ts x =
      cond (free || nat_lt (rank r) limit) (and_then (handle r ts x) (λ v us y. cond (nat_lt (length us) (length ts)) (exec true limit (f v) us y) (refused us))) (refused ts)
  exec free limit (scope n r f) ts x = cond (free || nat_lt (rank r) limit) (and_then (handle r ts (gauge.enters n x)) (λ v us y. exec free limit (f v) us (gauge.leaves x y))) (refused ts)

module _ (R : Type 0) (V : R → Type 0) (rank : R → ℕ) (rule : (r : R) → Body R V (V r)) (X : Type 0) (gauge : Gauge X) where
  -- with calls nested so deep at most
  unfoldable pub run : ℕ → (r : R) → Reader X (V r)
  run zero r ts x = refused ts
  run (suc n) r ts x = exec R V rank X gauge (run n) false (rank r) (rule r) ts x

  -- With top above every rank this nesting is never reached: a call takes a token, or calls a rule that ranks lower.
  unfoldable pub reads : ℕ → (r : R) → Reader X (V r)
  reads top r ts x = run (suc (top * length ts + rank r)) r ts x
