-- What is read does not hang on how the nodes and the depth are counted, as long as no limit is passed.
use Rattle.std.proofs.Common.{◌≡◌, ℕ, zero, suc, nat_lt, Bool, true, false, ◌||◌, cond, [], ◌∷◌, length, Option, Some, None, refl, sym, ap, subst}
use Rattle.c_tree.specs.Marks.{Tokens}
use Rattle.c_grammar.specs.Kind.{kind}
use Rattle.c_grammar.specs.Body.{Body, done, stop, look, take, spend, rise, call, strict, scope, Outcome, got, refused, exceeded, Reader, Gauge, and_then, and_paid, exec, run, reads}

-- the second pays wherever the first does
abbrev pub Pays : {X Y : Type 0} → (X → Y → Type 0) → Option X → Option Y → Type 0
Pays Rel None o = Unit {0}
Pays Rel (Some x) o = (y : _) × (o ≡ Some y) × Rel x y

-- The second outcome is the first, where the first passed no limit.
abbrev pub Follows : {X Y A : Type 0} → (X → Y → Type 0) → Outcome X A → Outcome Y A → Type 0
Follows Rel (got a ts x) o = (y : _) × (o ≡ got a ts y) × Rel x y
Follows Rel (refused ts) o = o ≡ refused ts
Follows Rel (exceeded ts) o = Unit {0}

-- Counts that are related stay related, and the second passes a limit only where the first does.
pub record Tracks {X Y : Type 0} (gauge : Gauge X) (other : Gauge Y) (Rel : X → Y → Type 0) : Type 0 where
  pub spends : (n d : ℕ) (x : X) (y : Y) → Rel x y → Pays Rel (gauge.spends n d x) (other.spends n d y)
  pub rises : (x : X) (y : Y) → Rel x y → Pays Rel (gauge.rises x) (other.rises y)
  pub enters : (n : ℕ) (x : X) (y : Y) → Rel x y → Rel (gauge.enters n x) (other.enters n y)
  pub leaves : (x x' : X) (y y' : Y) → Rel x y → Rel x' y' → Rel (gauge.leaves x x') (other.leaves y y')

then_follows : {X Y A B : Type 0} (Rel : X → Y → Type 0) (o : Outcome X A) (p : Outcome Y A) (f : A → Reader X B) (g : A → Reader Y B) → Follows Rel o p →
    ((a : A) (ts : Tokens) (x : X) (y : Y) → Rel x y → Follows Rel (f a ts x) (g a ts y)) → Follows Rel (and_then o f) (and_then p g)
then_follows Rel (got a ts x) p f g h k = subst (λ q. Follows Rel (f a ts x) (and_then q g)) (sym h.1) (k a ts x h.0 h.2)
then_follows Rel (refused ts) p f g h k = ap (λ q. and_then q g) h
then_follows Rel (exceeded ts) p f g h k = tt

paid_follows : {X Y A : Type 0} (Rel : X → Y → Type 0) (o : Option X) (p : Option Y) (ts : Tokens) (f : X → Outcome X A) (g : Y → Outcome Y A) → Pays Rel o p →
    ((x : X) (y : Y) → Rel x y → Follows Rel (f x) (g y)) → Follows Rel (and_paid o ts f) (and_paid p ts g)
paid_follows Rel None p ts f g h k = tt
paid_follows Rel (Some x) p ts f g h k = subst (λ q. Follows Rel (f x) (and_paid q ts g)) (sym h.1) (k x h.0 h.2)

if_follows : {X Y A : Type 0} (Rel : X → Y → Type 0) (b : Bool) (o : Outcome X A) (p : Outcome Y A) (ts : Tokens) → Follows Rel o p → Follows Rel (cond b o (refused ts)) (cond b p (refused ts))
if_follows Rel true o p ts h = h
if_follows Rel false o p ts h = refl

module _ (R : Type 0) (V : R → Type 0) (rank : R → ℕ) (X : Type 0) (gauge : Gauge X) (Y : Type 0) (other : Gauge Y) (Rel : X → Y → Type 0) where
  exec_follows : {A : Type 0} → Tracks gauge other Rel → (h : (r : R) → Reader X (V r)) (k : (r : R) → Reader Y (V r)) →
      ((r : R) (ts : Tokens) (x : X) (y : Y) → Rel x y → Follows Rel (h r ts x) (k r ts y)) → (free : Bool) (limit : ℕ) (b : Body R V A) (ts : Tokens) (x : X) (y : Y) → Rel x y →
      Follows Rel (exec R V rank X gauge h free limit b ts x) (exec R V rank Y other k free limit b ts y)
  exec_follows t h k s free limit (done a) ts x y e = (y, refl, e)
  exec_follows t h k s free limit stop ts x y e = refl
  exec_follows t h k s free limit (look types f) ts x y e = exec_follows t h k s free limit (f (kind types ts)) ts x y e
  exec_follows t h k s free limit (take f) [] x y e = refl
  exec_follows t h k s free limit (take f) (w ∷ ts) x y e = exec_follows t h k s true limit (f w.lexeme) ts x y e
  exec_follows t h k s free limit (spend n d b) ts x y e =
      paid_follows Rel (gauge.spends n d x) (other.spends n d y) ts _ _ (t.spends n d x y e) (λ x' y' e'. exec_follows t h k s free limit b ts x' y' e')
  exec_follows t h k s free limit (rise b) ts x y e = paid_follows Rel (gauge.rises x) (other.rises y) ts _ _ (t.rises x y e) (λ x' y' e'. exec_follows t h k s free limit b ts x' y' e')
  exec_follows t h k s free limit (call r f) ts x y e =
      if_follows Rel (free || nat_lt (rank r) limit) _ _ ts
      (then_follows Rel (h r ts x) (k r ts y) _ _ (s r ts x y e) (λ v us x' y' e'. exec_follows t h k s free limit (f v) us x' y' e'))
  exec_follows t h k s free limit (strict r f) ts x y e =
      if_follows Rel (free || nat_lt (rank r) limit) _ _ ts
      (then_follows Rel (h r ts x) (k r ts y) _ _ (s r ts x y e)
      (λ v us x' y' e'. if_follows Rel (nat_lt (length us) (length ts)) _ _ us (exec_follows t h k s true limit (f v) us x' y' e')))
  exec_follows t h k s free limit (scope n r f) ts x y e =
      if_follows Rel (free || nat_lt (rank r) limit) _ _ ts
      (then_follows Rel (h r ts (gauge.enters n x)) (k r ts (other.enters n y)) _ _ (s r ts (gauge.enters n x) (other.enters n y) (t.enters n x y e))
      (λ v us x' y' e'. exec_follows t h k s free limit (f v) us (gauge.leaves x x') (other.leaves y y') (t.leaves x x' y y' e e')))

module _ (R : Type 0) (V : R → Type 0) (rank : R → ℕ) (rule : (r : R) → Body R V (V r)) (X : Type 0) (gauge : Gauge X) (Y : Type 0) (other : Gauge Y) (Rel : X → Y → Type 0) where
  run_follows : Tracks gauge other Rel → (n : ℕ) (r : R) (ts : Tokens) (x : X) (y : Y) → Rel x y →
      Follows Rel (run R V rank rule X gauge n r ts x) (run R V rank rule Y other n r ts y)
  unfolding run
  run_follows t zero r ts x y e = refl
  run_follows t (suc n) r ts x y e =
      exec_follows R V rank X gauge Y other Rel t (run R V rank rule X gauge n) (run R V rank rule Y other n) (run_follows t n) false (rank r) (rule r) ts x y e

  -- By the second count the same is read as by the first, as long as the first passes no limit.
  pub reads_follows : Tracks gauge other Rel → (top : ℕ) (r : R) (ts : Tokens) (x : X) (y : Y) → Rel x y →
      Follows Rel (reads R V rank rule X gauge top r ts x) (reads R V rank rule Y other top r ts y)
  unfolding reads
  reads_follows t top r ts x y e = run_follows t _ r ts x y e

  pub got_follows : Tracks gauge other Rel → (top : ℕ) (r : R) (ts : Tokens) (x : X) (y : Y) → Rel x y → (v : V r) (us : Tokens) (x' : X) →
      reads R V rank rule X gauge top r ts x ≡ got v us x' → (y' : Y) × (reads R V rank rule Y other top r ts y ≡ got v us y') × Rel x' y'
  got_follows t top r ts x y e v us x' h = subst (λ o. Follows Rel o (reads R V rank rule Y other top r ts y)) h (reads_follows t top r ts x y e)

  pub refused_follows : Tracks gauge other Rel → (top : ℕ) (r : R) (ts : Tokens) (x : X) (y : Y) → Rel x y → (us : Tokens) →
      reads R V rank rule X gauge top r ts x ≡ refused us → reads R V rank rule Y other top r ts y ≡ refused us
  refused_follows t top r ts x y e us h = subst (λ o. Follows Rel o (reads R V rank rule Y other top r ts y)) h (reads_follows t top r ts x y e)
