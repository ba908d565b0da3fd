-- Reading leaves no more tokens than there were.
use Rattle.std.proofs.Common.{◌≡◌, ℕ, zero, suc, ◌<◌, ◌≤◌, nat_lt, Bool, true, false, ◌||◌, cond, [], ◌∷◌, length, Option, Some, None, subst, arith}
use Rattle.c_tree.specs.Marks.{Tokens}
use Rattle.c_grammar.specs.Kind.{kind}
use Rattle.c_grammar.specs.Body.{Body, done, stop, look, take, spend, rise, call, strict, scope, Outcome, got, refused, exceeded, Reader, Gauge, and_then, and_paid, exec, run, reads}
use Rattle.c_grammar.specs.Gauge.{Meter, limited}
use Rattle.c_grammar.specs.Input.{Input}
use Rattle.c_grammar.specs.Reading.{read}
use Rattle.c_grammar.specs.Rules.{Rule, Result, rank, rule, top}

-- so many tokens are left at most
abbrev pub Leaves : {X A : Type 0} → ℕ → Outcome X A → Type 0
Leaves n (got a ts x) = length ts ≤ n
Leaves n (refused ts) = Unit {0}
Leaves n (exceeded ts) = Unit {0}

pub then_leaves : {X A B : Type 0} (n : ℕ) (o : Outcome X A) (f : A → Reader X B) → Leaves n o → ((a : A) (ts : Tokens) (x : X) → length ts ≤ n → Leaves n (f a ts x)) → Leaves n (and_then o f)
then_leaves n (got a ts x) f h k = k a ts x h
then_leaves n (refused ts) f h k = tt
then_leaves n (exceeded ts) f h k = tt

pub paid_leaves : {X A : Type 0} (n : ℕ) (o : Option X) (ts : Tokens) (f : X → Outcome X A) → ((x : X) → Leaves n (f x)) → Leaves n (and_paid o ts f)
paid_leaves n None ts f h = tt
paid_leaves n (Some x) ts f h = h x

pub if_leaves : {X A : Type 0} (n : ℕ) (b : Bool) (o : Outcome X A) (ts : Tokens) → Leaves n o → Leaves n (cond b o (refused ts))
if_leaves n true o ts h = h
if_leaves n false o ts h = tt

module _ (R : Type 0) (V : R → Type 0) (rank : R → ℕ) (X : Type 0) (gauge : Gauge X) (h : (r : R) → Reader X (V r)) (fewer : (n : ℕ) (r : R) (ts : Tokens) (x : X) → length ts ≤ n → Leaves n (h r ts x)) where
  exec_leaves : {A : Type 0} (free : Bool) (limit n : ℕ) (b : Body R V A) (ts : Tokens) (x : X) → length ts ≤ n → Leaves n (exec R V rank X gauge h free limit b ts x)
  exec_leaves free limit n (done a) ts x k = k
  exec_leaves free limit n stop ts x k = tt
  exec_leaves free limit n (look types f) ts x k = exec_leaves free limit n (f (kind types ts)) ts x k
  exec_leaves free limit n (take f) [] x k = tt
  exec_leaves free limit n (take f) (t ∷ ts) x k = exec_leaves true limit n (f t.lexeme) ts x (omega (arith, k))
  exec_leaves free limit n (spend m d b) ts x k = paid_leaves n (gauge.spends m d x) ts _ (λ y. exec_leaves free limit n b ts y k)
  exec_leaves free limit n (rise b) ts x k = paid_leaves n (gauge.rises x) ts _ (λ y. exec_leaves free limit n b ts y k)
  exec_leaves free limit n (call r f) ts x k =
      if_leaves n (free || nat_lt (rank r) limit) _ ts (then_leaves n (h r ts x) _ (fewer n r ts x k) (λ v us y p. exec_leaves free limit n (f v) us y p))
  exec_leaves free limit n (strict r f) ts x k =
      if_leaves n (free || nat_lt (rank r) limit) _ ts
      (then_leaves n (h r ts x) _ (fewer n r ts x k) (λ v us y p. if_leaves n (nat_lt (length us) (length ts)) _ us (exec_leaves true limit n (f v) us y p)))
  exec_leaves free limit n (scope m r f) ts x k =
      if_leaves n (free || nat_lt (rank r) limit) _ ts
      (then_leaves n (h r ts (gauge.enters m x)) _ (fewer n r ts (gauge.enters m x) k) (λ v us y p. exec_leaves free limit n (f v) us (gauge.leaves x y) p))

module _ (R : Type 0) (V : R → Type 0) (rank : R → ℕ) (rule : (r : R) → Body R V (V r)) (X : Type 0) (gauge : Gauge X) where
  run_leaves : (m n : ℕ) (r : R) (ts : Tokens) (x : X) → length ts ≤ n → Leaves n (run R V rank rule X gauge m r ts x)
  unfolding run
  run_leaves zero n r ts x k = tt
  run_leaves (suc m) n r ts x k = exec_leaves R V rank X gauge (run R V rank rule X gauge m) (run_leaves m) false (rank r) n (rule r) ts x k

  reads_leaves : (top n : ℕ) (r : R) (ts : Tokens) (x : X) → length ts ≤ n → Leaves n (reads R V rank rule X gauge top r ts x)
  unfolding reads
  reads_leaves t n r ts x k = run_leaves _ n r ts x k

pub read_leaves : (n : ℕ) (r : Rule) (i : Input) → length i.rest ≤ n → Leaves n (read r i)
unfolding read
read_leaves n r i k = reads_leaves Rule Result rank rule Meter limited top n r i.rest i.meter k

-- What is read leaves fewer tokens than there were before its first.
pub no_more : (r : Rule) (i : Input) (n : ℕ) (v : Result r) (ts : Tokens) (m : Meter) → length i.rest < n → read r i ≡ got v ts m → length ts < n
no_more r i n v ts m below e = omega (arith, below, subst (Leaves (length i.rest)) e (read_leaves (length i.rest) r i (omega arith)))
