-- Reading leaves no more tokens than there were, and with enough nested calls their bound makes no difference.
use Rattle.std.proofs.Common.{◌≡◌, ℕ, zero, suc, ◌+◌, ◌*◌, ◌<◌, ◌≤◌, nat_lt, Bool, true, false, ◌||◌, cond, [], ◌∷◌, length, Option, Some, None, refl, ap, ◌∙◌, le_refl, le_trans, arith}
use Rattle.std.proofs.lemmas.Bool.Decides.{nat_tests}
use Rattle.c_tree.specs.Marks.{Tokens}
use Rattle.c_grammar.specs.Kind.{kind}
use Rattle.c_grammar.specs.Body.{Body, done, stop, look, take, spend, rise, call, strict, scope, Outcome, got, refused, exceeded, Reader, Gauge, and_then, and_paid, exec, run, reads}

-- how many tokens are left
abbrev pub left_of : {X A : Type 0} → Outcome X A → ℕ
left_of (got a ts x) = length ts
left_of (refused ts) = length ts
left_of (exceeded ts) = length ts

pub then_shrinks : {X A B : Type 0} (o : Outcome X A) (f : A → Reader X B) (n : ℕ) → left_of o ≤ n → ((a : A) (ts : Tokens) (x : X) → left_of (f a ts x) ≤ length ts) → left_of (and_then o f) ≤ n
then_shrinks (got a ts x) f n few h = le_trans (h a ts x) few
then_shrinks (refused ts) f n few h = few
then_shrinks (exceeded ts) f n few h = few

paid_shrinks : {X A : Type 0} (o : Option X) (ts : Tokens) (f : X → Outcome X A) → ((x : X) → left_of (f x) ≤ length ts) → left_of (and_paid o ts f) ≤ length ts
paid_shrinks None ts f h = le_refl (length ts)
paid_shrinks (Some x) ts f h = h x

pub if_shrinks : {X A : Type 0} (b : Bool) (o : Outcome X A) (ts : Tokens) → left_of o ≤ length ts → left_of (cond b o (refused ts)) ≤ length ts
if_shrinks true o ts h = h
if_shrinks false o ts h = le_refl (length ts)

then_same : {X A B : Type 0} (o p : Outcome X A) (f g : A → Reader X B) (n : ℕ) → o ≡ p → left_of p ≤ n → ((a : A) (ts : Tokens) (x : X) → length ts ≤ n → f a ts x ≡ g a ts x) → and_then o f ≡ and_then p g
then_same o (got a ts x) f g n e few h = ap (λ q. and_then q f) e ∙ h a ts x few
then_same o (refused ts) f g n e few h = ap (λ q. and_then q f) e
then_same o (exceeded ts) f g n e few h = ap (λ q. and_then q f) e

paid_same : {X A : Type 0} (o : Option X) (ts : Tokens) (f g : X → Outcome X A) → ((x : X) → f x ≡ g x) → and_paid o ts f ≡ and_paid o ts g
paid_same None ts f g h = refl
paid_same (Some x) ts f g h = h x

if_same : {X A : Type 0} (b : Bool) (o p : Outcome X A) (ts : Tokens) → (b ≡ true → o ≡ p) → cond b o (refused ts) ≡ cond b p (refused ts)
if_same true o p ts h = h refl
if_same false o p ts h = refl

-- A call is nearer to the end than the rule that makes it: behind a token, or at a lower rank.
abbrev Nearer : Bool → ℕ → ℕ → Type 0
Nearer true few many = few < many
Nearer false few many = few ≤ many

nearer_lasts : (free : Bool) (few less many : ℕ) → less ≤ few → Nearer free few many → Nearer free less many
nearer_lasts true few less many h k = omega arith
nearer_lasts false few less many h k = omega arith

nearer_taken : (free : Bool) (few many : ℕ) → Nearer free (suc few) many → few < many
nearer_taken true few many h = omega arith
nearer_taken false few many h = omega arith

nearer_strict : (free : Bool) (few less many : ℕ) → nat_lt less few ≡ true → Nearer free few many → less < many
nearer_strict true few less many h k = let fewer : less < few = grind (arith, nat_tests) in omega arith
nearer_strict false few less many h k = let fewer : less < few = grind (arith, nat_tests) in omega arith

later : (top few many low limit : ℕ) → low < top → few < many → top * few + low < top * many + limit
later top few many low limit h k = grind arith

lower : (top few many low limit : ℕ) → low < limit → few ≤ many → top * few + low < top * many + limit
lower top few many low limit h k = grind arith

near : (top few many low limit : ℕ) (free : Bool) → low < top → Nearer free few many → free || nat_lt low limit ≡ true → top * few + low < top * many + limit
near top few many low limit true h k e = later top few many low limit h k
near top few many low limit false h k e = lower top few many low limit (grind (arith, nat_tests)) k

abbrev pub Handler : (R : Type 0) → (R → Type 0) → Type 0 → Type 0
Handler R V X = (r : R) → Reader X (V r)

-- what answers calls leaves no more tokens than there were
abbrev pub Shrinks : (R : Type 0) (V : R → Type 0) (X : Type 0) → Handler R V X → Type 0
Shrinks R V X h = (r : R) (ts : Tokens) (x : X) → left_of (h r ts x) ≤ length ts

module _ (R : Type 0) (V : R → Type 0) (rank : R → ℕ) (X : Type 0) (gauge : Gauge X) where
  -- no more tokens are left than there were
  pub exec_shrinks : {A : Type 0} (h : Handler R V X) → Shrinks R V X h → (free : Bool) (limit : ℕ) (b : Body R V A) (ts : Tokens) (x : X) →
      left_of (exec R V rank X gauge h free limit b ts x) ≤ length ts
  exec_shrinks h s free limit (done a) ts x = le_refl (length ts)
  exec_shrinks h s free limit stop ts x = le_refl (length ts)
  exec_shrinks h s free limit (look types f) ts x = exec_shrinks h s free limit (f (kind types ts)) ts x
  exec_shrinks h s free limit (take f) [] x = le_refl 0
  exec_shrinks h s free limit (take f) (t ∷ ts) x = le_trans (exec_shrinks h s true limit (f t.lexeme) ts x) (omega arith)
  exec_shrinks h s free limit (spend n d b) ts x = paid_shrinks (gauge.spends n d x) ts _ (λ y. exec_shrinks h s free limit b ts y)
  exec_shrinks h s free limit (rise b) ts x = paid_shrinks (gauge.rises x) ts _ (λ y. exec_shrinks h s free limit b ts y)
  exec_shrinks h s free limit (call r f) ts x =
      if_shrinks (free || nat_lt (rank r) limit) _ ts (then_shrinks (h r ts x) _ (length ts) (s r ts x) (λ v us y. exec_shrinks h s free limit (f v) us y))
  exec_shrinks h s free limit (strict r f) ts x =
      if_shrinks (free || nat_lt (rank r) limit) _ ts
      (then_shrinks (h r ts x) _ (length ts) (s r ts x) (λ v us y. if_shrinks (nat_lt (length us) (length ts)) _ us (exec_shrinks h s true limit (f v) us y)))
  exec_shrinks h s free limit (scope n r f) ts x =
      if_shrinks (free || nat_lt (rank r) limit) _ ts
      (then_shrinks (h r ts (gauge.enters n x)) _ (length ts) (s r ts (gauge.enters n x)) (λ v us y. exec_shrinks h s free limit (f v) us (gauge.leaves x y)))

  -- handlers that agree on every call that is nearer to the end are alike
  exec_same : {A : Type 0} (top many : ℕ) (h k : Handler R V X) → ((r : R) → rank r < top) → Shrinks R V X k → (free : Bool) (limit : ℕ) →
      ((r : R) (ts : Tokens) (x : X) → top * length ts + rank r < top * many + limit → h r ts x ≡ k r ts x) →
      (b : Body R V A) (ts : Tokens) (x : X) → Nearer free (length ts) many → exec R V rank X gauge h free limit b ts x ≡ exec R V rank X gauge k free limit b ts x
  exec_same top many h k bounded s free limit e (done a) ts x near_by = refl
  exec_same top many h k bounded s free limit e stop ts x near_by = refl
  exec_same top many h k bounded s free limit e (look types f) ts x near_by = exec_same top many h k bounded s free limit e (f (kind types ts)) ts x near_by
  exec_same top many h k bounded s free limit e (take f) [] x near_by = refl
  exec_same top many h k bounded s free limit e (take f) (t ∷ ts) x near_by = exec_same top many h k bounded s true limit e (f t.lexeme) ts x (nearer_taken free (length ts) many near_by)
  exec_same top many h k bounded s free limit e (spend n d b) ts x near_by = paid_same (gauge.spends n d x) ts _ _ (λ y. exec_same top many h k bounded s free limit e b ts y near_by)
  exec_same top many h k bounded s free limit e (rise b) ts x near_by = paid_same (gauge.rises x) ts _ _ (λ y. exec_same top many h k bounded s free limit e b ts y near_by)
  exec_same top many h k bounded s free limit e (call r f) ts x near_by =
      if_same (free || nat_lt (rank r) limit) _ _ ts (λ goes.
      then_same (h r ts x) (k r ts x) _ _ (length ts) (e r ts x (near top (length ts) many (rank r) limit free (bounded r) near_by goes)) (s r ts x)
      (λ v us y few. exec_same top many h k bounded s free limit e (f v) us y (nearer_lasts free (length ts) (length us) many few near_by)))
  exec_same top many h k bounded s free limit e (strict r f) ts x near_by =
      if_same (free || nat_lt (rank r) limit) _ _ ts (λ goes.
      then_same (h r ts x) (k r ts x) _ _ (length ts) (e r ts x (near top (length ts) many (rank r) limit free (bounded r) near_by goes)) (s r ts x)
      (λ v us y few. if_same (nat_lt (length us) (length ts)) _ _ us (λ fewer.
      exec_same top many h k bounded s true limit e (f v) us y (nearer_strict free (length ts) (length us) many fewer near_by))))
  exec_same top many h k bounded s free limit e (scope n r f) ts x near_by =
      if_same (free || nat_lt (rank r) limit) _ _ ts (λ goes.
      then_same (h r ts (gauge.enters n x)) (k r ts (gauge.enters n x)) _ _ (length ts) (e r ts (gauge.enters n x) (near top (length ts) many (rank r) limit free (bounded r) near_by goes)) (s r ts (gauge.enters n x))
      (λ v us y few. exec_same top many h k bounded s free limit e (f v) us (gauge.leaves x y) (nearer_lasts free (length ts) (length us) many few near_by)))

module _ (R : Type 0) (V : R → Type 0) (rank : R → ℕ) (rule : (r : R) → Body R V (V r)) (X : Type 0) (gauge : Gauge X) where
  pub run_shrinks : (n : ℕ) (r : R) (ts : Tokens) (x : X) → left_of (run R V rank rule X gauge n r ts x) ≤ length ts
  unfolding run
  run_shrinks zero r ts x = le_refl (length ts)
  run_shrinks (suc n) r ts x = exec_shrinks R V rank X gauge (run R V rank rule X gauge n) (run_shrinks n) false (rank r) (rule r) ts x

  -- reading leaves no more tokens than there were
  pub reads_shrinks : (top : ℕ) (r : R) (ts : Tokens) (x : X) → left_of (reads R V rank rule X gauge top r ts x) ≤ length ts
  unfolding reads
  reads_shrinks top r ts x = run_shrinks (suc (top * length ts + rank r)) r ts x

  run_same : (top : ℕ) → ((r : R) → rank r < top) → (bound n m : ℕ) → bound ≤ n → bound ≤ m → (r : R) (ts : Tokens) (x : X) → top * length ts + rank r < bound →
      run R V rank rule X gauge n r ts x ≡ run R V rank rule X gauge m r ts x
  unfolding run
  run_same top bounded zero n m h k r ts x less = absurd (omega arith)
  run_same top bounded (suc bound) zero m h k r ts x less = absurd (omega arith)
  run_same top bounded (suc bound) (suc n) zero h k r ts x less = absurd (omega arith)
  run_same top bounded (suc bound) (suc n) (suc m) h k r ts x less =
      exec_same R V rank X gauge top (length ts) (run R V rank rule X gauge n) (run R V rank rule X gauge m) bounded (run_shrinks m) false (rank r)
      (λ q us y before. run_same top bounded bound n m (omega arith) (omega arith) q us y (omega arith)) (rule r) ts x (le_refl (length ts))

  -- with enough nested calls their bound makes no difference
  pub run_reads : (top : ℕ) → ((r : R) → rank r < top) → (n : ℕ) (r : R) (ts : Tokens) (x : X) → top * length ts + rank r < n →
      run R V rank rule X gauge n r ts x ≡ reads R V rank rule X gauge top r ts x
  unfolding reads
  run_reads top bounded n r ts x less = run_same top bounded (suc (top * length ts + rank r)) n (suc (top * length ts + rank r)) less (le_refl _) r ts x (le_refl _)

  opening : (top : ℕ) (r : R) (ts : Tokens) (x : X) →
      reads R V rank rule X gauge top r ts x ≡ exec R V rank X gauge (run R V rank rule X gauge (top * length ts + rank r)) false (rank r) (rule r) ts x
  unfolding run reads
  opening top r ts x = refl

  -- A rule reads what its body does, where its calls are read likewise.
  pub opened : (top : ℕ) → ((r : R) → rank r < top) → (r : R) (ts : Tokens) (x : X) →
      reads R V rank rule X gauge top r ts x ≡ exec R V rank X gauge (reads R V rank rule X gauge top) false (rank r) (rule r) ts x
  opened top bounded r ts x =
      opening top r ts x
      ∙ exec_same R V rank X gauge top (length ts) (run R V rank rule X gauge (top * length ts + rank r)) (reads R V rank rule X gauge top) bounded (reads_shrinks top) false (rank r)
      (λ q us y before. run_reads top bounded (top * length ts + rank r) q us y before) (rule r) ts x (le_refl (length ts))
