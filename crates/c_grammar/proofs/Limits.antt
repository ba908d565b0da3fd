-- The tree that is read, and the token at which reading fails, hang on no count as long as no limit is passed.
use Rattle.std.proofs.Common.{◌≡◌, ℕ, zero, suc, ◌≤◌, nat_lt, nat_le, Bool, true, false, ◌||◌, ◌&&◌, cond, [], ◌∷◌, length, Option, Some, None, refl, sym, ap, ◌∙◌, subst, arith}
use Rattle.std.specs.Prelude.{if◌then◌else◌}
use Rattle.std.proofs.lemmas.Option.{cond_some}
use Rattle.std.proofs.lemmas.Bool.Decides.{nat_tests}
use Rattle.c_tree.specs.Marks.{Tokens}
use Rattle.c_grammar.specs.Kind.{kind}
use Rattle.c_grammar.specs.Body.{Body, done, stop, look, take, spend, rise, call, strict, scope, Outcome, got, refused, exceeded, Reader, and_then, and_paid, exec, run, reads}
use Rattle.c_grammar.specs.Gauge.{Meter, free, added, raised, entered, left, fits, within, counted, limited}
use Rattle.c_grammar.proofs.Follow.{Pays, Tracks, got_follows, refused_follows}

abbrev Nothing : Meter → Unit {0} → Type 0
Nothing m u = Unit {0}

abbrev Anything : Unit {0} → Meter → Type 0
Anything u m = Unit {0}

abbrev Same : Meter → Meter → Type 0
Same m m' = m ≡ m'

pays_nothing : (o : Option Meter) → Pays Nothing o (Some tt)
pays_nothing None = tt
pays_nothing (Some m) = (tt, refl, tt)

within_same : (b : Bool) (m m' : Meter) → m ≡ m' → Pays Same (if b then Some m else None) (Some m')
within_same true m m' e = (m', refl, e)
within_same false m m' e = tt

pub free_tracks_limited : Tracks limited free Nothing
free_tracks_limited = record {
  spends = λ n d x y e. pays_nothing (within (added n d x));
  rises = λ x y e. pays_nothing (within (raised x));
  enters = λ n x y e. tt;
  leaves = λ x x' y y' e e'. tt;
}

pub free_tracks_counted : Tracks counted free Nothing
free_tracks_counted = record { spends = λ n d x y e. (tt, refl, tt); rises = λ x y e. (tt, refl, tt); enters = λ n x y e. tt; leaves = λ x x' y y' e e'. tt }

pub counted_tracks_free : Tracks free counted Anything
counted_tracks_free = record {
  spends = λ n d x y e. (added n d y, refl, tt);
  rises = λ x y e. (raised y, refl, tt);
  enters = λ n x y e. tt;
  leaves = λ x x' y y' e e'. tt;
}

pub counted_tracks_limited : Tracks limited counted Same
counted_tracks_limited = record {
  spends = λ n d x y e. within_same (fits (added n d x)) _ _ (ap (added n d) e);
  rises = λ x y e. within_same (fits (raised x)) _ _ (ap raised e);
  enters = λ n x y e. ap (limited.enters n) e;
  leaves = λ x x' y y' e e'. ap (λ z. limited.leaves z x') e ∙ ap (limited.leaves y) e';
}

-- counts that are no less
pub record Grows (m m' : Meter) : Type 0 where
  pub made : m.made ≤ m'.made
  pub peak : m.peak ≤ m'.peak

pub record Fits (m : Meter) : Type 0 where
  pub made : m.made ≤ 100000
  pub peak : m.peak ≤ 1000

both_true : (a b : Bool) → a && b ≡ true → (a ≡ true) × (b ≡ true)
both_true true b e = (refl, e)
both_true false b e = absurd cc

true_both : (a b : Bool) → a ≡ true → b ≡ true → a && b ≡ true
true_both a b e f = ap (λ c. c && b) e ∙ f

pub fits-Fits : (m : Meter) → fits m ≡ true → Fits m
fits-Fits m e =
    let h = both_true (nat_le m.made 100000) (nat_le m.peak 1000) e in
    record { made = grind (arith, nat_tests, h.0); peak = grind (arith, nat_tests, h.1) }

pub Fits-fits : (m : Meter) → Fits m → fits m ≡ true
Fits-fits m h = true_both (nat_le m.made 100000) (nat_le m.peak 1000) (grind (arith, nat_tests, h.made)) (grind (arith, nat_tests, h.peak))

grows_fits : (m m' : Meter) → Grows m m' → fits m' ≡ true → fits m ≡ true
grows_fits m m' g e =
    let h = fits-Fits m' e in
    Fits-fits m (record { made = omega arith; peak = omega arith })

within_fits : (m y : Meter) → within m ≡ Some y → Fits m × (m ≡ y)
within_fits m y e =
    let h = cond_some (fits m) m y e in
    (fits-Fits m h.0, h.1)

-- The second outcome is the first, where that is within the limits.
abbrev Kept : {A : Type 0} → Meter → Outcome Meter A → Outcome Meter A → Type 0
Kept m (got a ts y) o = Grows m y × (fits y ≡ true → o ≡ got a ts y)
Kept m (refused ts) o = Unit {0}
Kept m (exceeded ts) o = Unit {0}

kept_more : {A : Type 0} (m y : Meter) (o p p' : Outcome Meter A) → Grows m y → (fits y ≡ true → p' ≡ p) → Kept y o p → Kept m o p'
kept_more m y (got a ts z) p p' g e h = (record { made = omega (arith, h.0.made); peak = omega (arith, h.0.peak) }, λ f. e (grows_fits y z h.0 f) ∙ h.1 f)
kept_more m y (refused ts) p p' g e h = tt
kept_more m y (exceeded ts) p p' g e h = tt

paid_kept : {A : Type 0} (m y : Meter) (o : Outcome Meter A) (ts : Tokens) (f : Meter → Outcome Meter A) → Grows m y → Kept y o (f y) → Kept m o (and_paid (within y) ts f)
paid_kept m y o ts f g h = kept_more m y o (f y) _ g (λ e. ap (λ b. and_paid (if b then Some y else None) ts f) e) h

then_kept : {A B : Type 0} (m e : Meter) (w : Meter → Meter) (o p : Outcome Meter A) (f g : A → Reader Meter B) → Kept e o p →
    ((y : Meter) → Grows e y → Grows m (w y)) → ((y : Meter) → Grows y (w y)) → ((a : A) (ts : Tokens) (y : Meter) → Kept (w y) (f a ts y) (g a ts y)) → Kept m (and_then o f) (and_then p g)
then_kept m e w (got a ts y) p f g h i j k = kept_more m (w y) (f a ts y) (g a ts y) (and_then p g) (i y h.0) (λ t. ap (λ q. and_then q g) (h.1 (grows_fits y (w y) (j y) t))) (k a ts y)
then_kept m e w (refused ts) p f g h i j k = tt
then_kept m e w (exceeded ts) p f g h i j k = tt

if_kept : {A : Type 0} (m : Meter) (b : Bool) (o p : Outcome Meter A) (ts : Tokens) → Kept m o p → Kept m (cond b o (refused ts)) (cond b p (refused ts))
if_kept m true o p ts h = h
if_kept m false o p ts h = tt

grows_self : (m : Meter) → Grows m m
grows_self m = record { made = omega arith; peak = omega arith }

grows_left : (n : ℕ) (m y : Meter) → Grows (entered n m) y → Grows m (left m y)
grows_left n m y h = record { made = h.made; peak = omega arith }

module _ (R : Type 0) (V : R → Type 0) (rank : R → ℕ) where
  exec_kept : {A : Type 0} (h k : (r : R) → Reader Meter (V r)) → ((r : R) (ts : Tokens) (m : Meter) → Kept m (h r ts m) (k r ts m)) → (began : Bool) (limit : ℕ) (b : Body R V A) (ts : Tokens) (m : Meter) →
      Kept m (exec R V rank Meter counted h began limit b ts m) (exec R V rank Meter limited k began limit b ts m)
  exec_kept h k s began limit (done a) ts m = (grows_self m, λ e. refl)
  exec_kept h k s began limit stop ts m = tt
  exec_kept h k s began limit (look types f) ts m = exec_kept h k s began limit (f (kind types ts)) ts m
  exec_kept h k s began limit (take f) [] m = tt
  exec_kept h k s began limit (take f) (t ∷ ts) m = exec_kept h k s true limit (f t.lexeme) ts m
  exec_kept h k s began limit (spend n d b) ts m =
      paid_kept m (added n d m) _ ts (λ y. exec R V rank Meter limited k began limit b ts y) (record { made = omega arith; peak = omega arith }) (exec_kept h k s began limit b ts (added n d m))
  exec_kept h k s began limit (rise b) ts m =
      paid_kept m (raised m) _ ts (λ y. exec R V rank Meter limited k began limit b ts y) (record { made = omega arith; peak = omega arith }) (exec_kept h k s began limit b ts (raised m))
  exec_kept h k s began limit (call r f) ts m =
      if_kept m (began || nat_lt (rank r) limit) _ _ ts
      (then_kept m m (λ y. y) (h r ts m) (k r ts m) _ _ (s r ts m) (λ y g. g) grows_self (λ v us y. exec_kept h k s began limit (f v) us y))
  exec_kept h k s began limit (strict r f) ts m =
      if_kept m (began || nat_lt (rank r) limit) _ _ ts
      (then_kept m m (λ y. y) (h r ts m) (k r ts m) _ _ (s r ts m) (λ y g. g) grows_self
      (λ v us y. if_kept y (nat_lt (length us) (length ts)) _ _ us (exec_kept h k s true limit (f v) us y)))
  exec_kept h k s began limit (scope n r f) ts m =
      if_kept m (began || nat_lt (rank r) limit) _ _ ts
      (then_kept m (entered n m) (left m) (h r ts (entered n m)) (k r ts (entered n m)) _ _ (s r ts (entered n m)) (grows_left n m)
      (λ y. record { made = omega arith; peak = omega arith }) (λ v us y. exec_kept h k s began limit (f v) us (left m y)))

module _ (R : Type 0) (V : R → Type 0) (rank : R → ℕ) (rule : (r : R) → Body R V (V r)) where
  run_kept : (n : ℕ) (r : R) (ts : Tokens) (m : Meter) → Kept m (run R V rank rule Meter counted n r ts m) (run R V rank rule Meter limited n r ts m)
  unfolding run
  run_kept zero r ts m = tt
  run_kept (suc n) r ts m = exec_kept R V rank (run R V rank rule Meter counted n) (run R V rank rule Meter limited n) (run_kept n) false (rank r) (rule r) ts m

  abbrev pub reads_free : ℕ → (r : R) → Tokens → Outcome (Unit {0}) (V r)
  reads_free top r ts = reads R V rank rule (Unit {0}) free top r ts tt

  abbrev pub reads_counted : ℕ → (r : R) → Reader Meter (V r)
  reads_counted top r ts m = reads R V rank rule Meter counted top r ts m

  abbrev pub reads_limited : ℕ → (r : R) → Reader Meter (V r)
  reads_limited top r ts m = reads R V rank rule Meter limited top r ts m

  -- What is read within the limits is read without them.
  pub limited_free : (top : ℕ) (r : R) (ts : Tokens) (m : Meter) (v : V r) (us : Tokens) (m' : Meter) → reads_limited top r ts m ≡ got v us m' → reads_free top r ts ≡ got v us tt
  limited_free top r ts m v us m' e = (got_follows R V rank rule Meter limited (Unit {0}) free Nothing free_tracks_limited top r ts m tt tt v us m' e).1

  pub limited_free-refused : (top : ℕ) (r : R) (ts : Tokens) (m : Meter) (us : Tokens) → reads_limited top r ts m ≡ refused us → reads_free top r ts ≡ refused us
  limited_free-refused top r ts m us e = refused_follows R V rank rule Meter limited (Unit {0}) free Nothing free_tracks_limited top r ts m tt tt us e

  pub counted_free : (top : ℕ) (r : R) (ts : Tokens) (m : Meter) (v : V r) (us : Tokens) (m' : Meter) → reads_counted top r ts m ≡ got v us m' → reads_free top r ts ≡ got v us tt
  counted_free top r ts m v us m' e = (got_follows R V rank rule Meter counted (Unit {0}) free Nothing free_tracks_counted top r ts m tt tt v us m' e).1

  pub counted_free-refused : (top : ℕ) (r : R) (ts : Tokens) (m : Meter) (us : Tokens) → reads_counted top r ts m ≡ refused us → reads_free top r ts ≡ refused us
  counted_free-refused top r ts m us e = refused_follows R V rank rule Meter counted (Unit {0}) free Nothing free_tracks_counted top r ts m tt tt us e

  -- All that can be read can be counted.
  pub free_counted : (top : ℕ) (r : R) (ts : Tokens) (m : Meter) (v : V r) (us : Tokens) → reads_free top r ts ≡ got v us tt → (m' : Meter) × (reads_counted top r ts m ≡ got v us m')
  free_counted top r ts m v us e =
      let h = got_follows R V rank rule (Unit {0}) free Meter counted Anything counted_tracks_free top r ts tt m tt v us tt e in
      (h.0, h.1)

  pub free_counted-refused : (top : ℕ) (r : R) (ts : Tokens) (m : Meter) (us : Tokens) → reads_free top r ts ≡ refused us → reads_counted top r ts m ≡ refused us
  free_counted-refused top r ts m us e = refused_follows R V rank rule (Unit {0}) free Meter counted Anything counted_tracks_free top r ts tt m tt us e

  -- What is read within the limits is counted likewise without them.
  pub limited_counted : (top : ℕ) (r : R) (ts : Tokens) (m : Meter) (v : V r) (us : Tokens) (m' : Meter) → reads_limited top r ts m ≡ got v us m' → reads_counted top r ts m ≡ got v us m'
  limited_counted top r ts m v us m' e =
      let h = got_follows R V rank rule Meter limited Meter counted Same counted_tracks_limited top r ts m m refl v us m' e in
      h.1 ∙ ap (got v us) (sym h.2)

  pub limited_counted-refused : (top : ℕ) (r : R) (ts : Tokens) (m : Meter) (us : Tokens) → reads_limited top r ts m ≡ refused us → reads_counted top r ts m ≡ refused us
  limited_counted-refused top r ts m us e = refused_follows R V rank rule Meter limited Meter counted Same counted_tracks_limited top r ts m m refl us e

  reads_kept : (top : ℕ) (r : R) (ts : Tokens) (m : Meter) → Kept m (reads_counted top r ts m) (reads_limited top r ts m)
  unfolding reads
  reads_kept top r ts m = run_kept _ r ts m

  -- What is read and is within the limits in the end was within them all along.
  pub within_limits : (top : ℕ) (r : R) (ts : Tokens) (m : Meter) (v : V r) (us : Tokens) (m' : Meter) → reads_counted top r ts m ≡ got v us m' → fits m' ≡ true → reads_limited top r ts m ≡ got v us m'
  within_limits top r ts m v us m' e = (subst (λ o. Kept m o (reads_limited top r ts m)) e (reads_kept top r ts m)).1

  -- counts only grow
  pub counts_grow : (top : ℕ) (r : R) (ts : Tokens) (m : Meter) (v : V r) (us : Tokens) (m' : Meter) → reads_counted top r ts m ≡ got v us m' → Grows m m'
  counts_grow top r ts m v us m' e = (subst (λ o. Kept m o (reads_limited top r ts m)) e (reads_kept top r ts m)).0
