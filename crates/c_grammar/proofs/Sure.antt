-- A property of all that is read, from a condition on each rule alone.
use Rattle.std.proofs.Common.{◌≡◌, ℕ, zero, suc, nat_lt, Bool, true, false, ◌||◌, cond, [], ◌∷◌, length, Option, Some, None, refl, subst}
use Rattle.c_tree.specs.Marks.{Tokens}
use Rattle.c_grammar.specs.Kind.{kind}
use Rattle.c_grammar.specs.Body.{Body, done, stop, look, take, spend, rise, call, strict, scope, Outcome, got, refused, exceeded, Reader, Gauge, and_then, and_paid, exec, run, reads}

-- what was read, if anything was, has the property
abbrev pub Holds : {X A : Type 0} → (A → Tokens → X → Type 0) → Outcome X A → Type 0
Holds P (got a ts x) = P a ts x
Holds P (refused ts) = Unit {0}
Holds P (exceeded ts) = Unit {0}

pub holds_got : {X A : Type 0} (P : A → Tokens → X → Type 0) (o : Outcome X A) (a : A) (ts : Tokens) (x : X) → Holds P o → o ≡ got a ts x → P a ts x
holds_got P o a ts x h e = subst (Holds P) e h

then_holds : {X A B : Type 0} (P : A → Tokens → X → Type 0) (Q : B → Tokens → X → Type 0) (o : Outcome X A) (f : A → Reader X B) → Holds P o →
    ((a : A) (ts : Tokens) (x : X) → P a ts x → Holds Q (f a ts x)) → Holds Q (and_then o f)
then_holds P Q (got a ts x) f h k = k a ts x h
then_holds P Q (refused ts) f h k = tt
then_holds P Q (exceeded ts) f h k = tt

paid_holds : {X A : Type 0} (Q : A → Tokens → X → Type 0) (o : Option X) (ts : Tokens) (f : X → Outcome X A) → ((x : X) → o ≡ Some x → Holds Q (f x)) → Holds Q (and_paid o ts f)
paid_holds Q None ts f h = tt
paid_holds Q (Some x) ts f h = h x refl

if_holds : {X A : Type 0} (Q : A → Tokens → X → Type 0) (b : Bool) (o : Outcome X A) (ts : Tokens) → Holds Q o → Holds Q (cond b o (refused ts))
if_holds Q true o ts h = h
if_holds Q false o ts h = tt

module _ (R : Type 0) (V : R → Type 0) (X : Type 0) (gauge : Gauge X) (Post : (r : R) → Tokens → X → V r → Tokens → X → Type 0) where
  -- what a body reads has the property Q, if what each call reads has its own
  abbrev pub Sure : {A : Type 0} → Body R V A → (A → Tokens → X → Type 0) → Tokens → X → Type 0
  Sure (done a) Q ts x = Q a ts x
  Sure stop Q ts x = Unit {0}
  Sure (look types f) Q ts x = Sure (f (kind types ts)) Q ts x
  Sure (take f) Q [] x = Unit {0}
  Sure (take f) Q (t ∷ ts) x = Sure (f t.lexeme) Q ts x
  Sure (spend n d b) Q ts x = (y : X) → gauge.spends n d x ≡ Some y → Sure b Q ts y
  Sure (rise b) Q ts x = (y : X) → gauge.rises x ≡ Some y → Sure b Q ts y
  Sure (call r f) Q ts x = (v : V r) (us : Tokens) (y : X) → Post r ts x v us y → Sure (f v) Q us y
  Sure (strict r f) Q ts x = (v : V r) (us : Tokens) (y : X) → Post r ts x v us y → Sure (f v) Q us y
  Sure (scope n r f) Q ts x = (v : V r) (us : Tokens) (y : X) → Post r ts (gauge.enters n x) v us y → Sure (f v) Q us (gauge.leaves x y)

  exec_holds : {A : Type 0} (rank : R → ℕ) (h : (r : R) → Reader X (V r)) → ((r : R) (ts : Tokens) (x : X) → Holds (Post r ts x) (h r ts x)) → (free : Bool) (limit : ℕ) →
      (b : Body R V A) (Q : A → Tokens → X → Type 0) (ts : Tokens) (x : X) → Sure b Q ts x → Holds Q (exec R V rank X gauge h free limit b ts x)
  exec_holds rank h s free limit (done a) Q ts x k = k
  exec_holds rank h s free limit stop Q ts x k = tt
  exec_holds rank h s free limit (look types f) Q ts x k = exec_holds rank h s free limit (f (kind types ts)) Q ts x k
  exec_holds rank h s free limit (take f) Q [] x k = tt
  exec_holds rank h s free limit (take f) Q (t ∷ ts) x k = exec_holds rank h s true limit (f t.lexeme) Q ts x k
  exec_holds rank h s free limit (spend n d b) Q ts x k = paid_holds Q (gauge.spends n d x) ts _ (λ y e. exec_holds rank h s free limit b Q ts y (k y e))
  exec_holds rank h s free limit (rise b) Q ts x k = paid_holds Q (gauge.rises x) ts _ (λ y e. exec_holds rank h s free limit b Q ts y (k y e))
  exec_holds rank h s free limit (call r f) Q ts x k =
      if_holds Q (free || nat_lt (rank r) limit) _ ts (then_holds (Post r ts x) Q (h r ts x) _ (s r ts x) (λ v us y p. exec_holds rank h s free limit (f v) Q us y (k v us y p)))
  exec_holds rank h s free limit (strict r f) Q ts x k =
      if_holds Q (free || nat_lt (rank r) limit) _ ts
      (then_holds (Post r ts x) Q (h r ts x) _ (s r ts x) (λ v us y p. if_holds Q (nat_lt (length us) (length ts)) _ us (exec_holds rank h s true limit (f v) Q us y (k v us y p))))
  exec_holds rank h s free limit (scope n r f) Q ts x k =
      if_holds Q (free || nat_lt (rank r) limit) _ ts
      (then_holds (Post r ts (gauge.enters n x)) Q (h r ts (gauge.enters n x)) _ (s r ts (gauge.enters n x)) (λ v us y p. exec_holds rank h s free limit (f v) Q us (gauge.leaves x y) (k v us y p)))

module _ (R : Type 0) (V : R → Type 0) (rank : R → ℕ) (rule : (r : R) → Body R V (V r)) (X : Type 0) (gauge : Gauge X) (Post : (r : R) → Tokens → X → V r → Tokens → X → Type 0) where
  run_holds : ((r : R) (ts : Tokens) (x : X) → Sure R V X gauge Post (rule r) (Post r ts x) ts x) → (n : ℕ) (r : R) (ts : Tokens) (x : X) →
      Holds (Post r ts x) (run R V rank rule X gauge n r ts x)
  unfolding run
  run_holds sure zero r ts x = tt
  run_holds sure (suc n) r ts x = exec_holds R V X gauge Post rank (run R V rank rule X gauge n) (run_holds sure n) false (rank r) (rule r) (Post r ts x) ts x (sure r ts x)

  -- Whatever is read has its property, if each rule keeps it.
  pub all_hold : ((r : R) (ts : Tokens) (x : X) → Sure R V X gauge Post (rule r) (Post r ts x) ts x) → (top : ℕ) (r : R) (ts : Tokens) (x : X) →
      Holds (Post r ts x) (reads R V rank rule X gauge top r ts x)
  unfolding reads
  all_hold sure top r ts x = run_holds sure _ r ts x

module _ (R : Type 0) (V : R → Type 0) (X : Type 0) (gauge : Gauge X) (Post : (r : R) → Tokens → X → V r → Tokens → X → Type 0) where
  -- what holds of everything holds of what a body reads
  pub sure_always : {A : Type 0} (b : Body R V A) (Q : A → Tokens → X → Type 0) → ((a : A) (ts : Tokens) (x : X) → Q a ts x) → (ts : Tokens) (x : X) → Sure R V X gauge Post b Q ts x
  sure_always (done a) Q h ts x = h a ts x
  sure_always stop Q h ts x = tt
  sure_always (look types f) Q h ts x = sure_always (f (kind types ts)) Q h ts x
  sure_always (take f) Q h [] x = tt
  sure_always (take f) Q h (t ∷ ts) x = sure_always (f t.lexeme) Q h ts x
  sure_always (spend n d b) Q h ts x = λ y e. sure_always b Q h ts y
  sure_always (rise b) Q h ts x = λ y e. sure_always b Q h ts y
  sure_always (call r f) Q h ts x = λ v us y p. sure_always (f v) Q h us y
  sure_always (strict r f) Q h ts x = λ v us y p. sure_always (f v) Q h us y
  sure_always (scope n r f) Q h ts x = λ v us y p. sure_always (f v) Q h us (gauge.leaves x y)

module _ (R : Type 0) (V : R → Type 0) (X : Type 0) (gauge : Gauge X) (First Second : (r : R) → Tokens → X → V r → Tokens → X → Type 0) where
  abbrev Pair : (r : R) → Tokens → X → V r → Tokens → X → Type 0
  Pair r ts x v us y = First r ts x v us y × Second r ts x v us y

  -- What a body reads has two properties, if what each call reads has its own two.
  pub sure_both : {A : Type 0} (b : Body R V A) (P Q : A → Tokens → X → Type 0) (ts : Tokens) (x : X) → Sure R V X gauge First b P ts x → Sure R V X gauge Second b Q ts x →
      Sure R V X gauge Pair b (λ v us y. P v us y × Q v us y) ts x
  sure_both (done a) P Q ts x h g = (h, g)
  sure_both stop P Q ts x h g = tt
  sure_both (look types f) P Q ts x h g = sure_both (f (kind types ts)) P Q ts x h g
  sure_both (take f) P Q [] x h g = tt
  sure_both (take f) P Q (t ∷ ts) x h g = sure_both (f t.lexeme) P Q ts x h g
  sure_both (spend n d b) P Q ts x h g = λ y e. sure_both b P Q ts y (h y e) (g y e)
  sure_both (rise b) P Q ts x h g = λ y e. sure_both b P Q ts y (h y e) (g y e)
  sure_both (call r f) P Q ts x h g = λ v us y p. sure_both (f v) P Q us y (h v us y p.0) (g v us y p.1)
  sure_both (strict r f) P Q ts x h g = λ v us y p. sure_both (f v) P Q us y (h v us y p.0) (g v us y p.1)
  sure_both (scope n r f) P Q ts x h g = λ v us y p. sure_both (f v) P Q us (gauge.leaves x y) (h v us y p.0) (g v us y p.1)
