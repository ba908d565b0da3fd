-- Limits are passed late where no body spends more than it has: each token that is taken pays for 100 nodes, and for one level.
--
-- A rule may be read where c nodes may still be made before a token pays for them, and where the deepest node may have a depth u.
-- Each rule tells what it wants of both. What it has kept of the nodes when it ends, and with its gain, goes back to who called it.
use Rattle.std.proofs.Common.{◌≡◌, ℕ, zero, suc, ◌+◌, ◌-◌, ◌*◌, ◌≤◌, nat_lt, nat_le, Bool, true, false, ◌||◌, ◌&&◌, cond, [], ◌∷◌, length, Some, None, refl, arith, ◌⊎◌, inl, inr}
use Rattle.std.proofs.lemmas.Bool.Decides.{nat_tests}
use Rattle.c_tree.specs.Tree.{Name}
use Rattle.c_tree.specs.Marks.{Tokens}
use Rattle.c_grammar.specs.declared.kind.Kind.{Kind}
use Rattle.c_grammar.specs.Kind.{kind}
use Rattle.c_grammar.specs.Body.{Body, done, stop, look, take, spend, rise, call, strict, scope, Outcome, got, refused, exceeded, Reader, and_then, and_paid, exec, run, reads}
use Rattle.c_grammar.specs.Gauge.{Meter, limited, added, raised, entered, left, fits, within}

-- what rules want and give: they owe so many nodes with their first token, want to have so many and so deep, give back so many
-- more, and leave the deepest node so much too deep
pub record Dues (R : Type 0) : Type 0 where
  pub owes : R → ℕ
  pub wants : R → ℕ
  pub depth : R → ℕ
  pub gain : R → ℕ
  pub over : R → ℕ

module _ (R : Type 0) (V : R → Type 0) (dues : Dues R) where
  -- A body keeps so many nodes, and leaves the deepest so much too deep, if it may begin with c nodes, the depth u, and the
  -- deepest so much too deep. What it calls may begin that much too deep, where the body may leave it so.
  abbrev pub Saves : {A : Type 0} → Body R V A → ℕ → ℕ → ℕ → ℕ → ℕ → Type 0
  Saves (done a) kept over u c s = (kept ≤ c) × (s ≤ over)
  Saves stop kept over u c s = Unit {0}
  Saves (look types f) kept over u c s = (e : Kind) → Saves (f e) kept over u c s
  Saves (take f) kept over u c s = (n : Name) → Saves (f n) kept over (u + 1) (c + 100) (s - 1)
  Saves (spend n d b) kept over u c s = (n ≤ c) × (d ≤ u) × Saves b kept over u (c - n) s
  Saves (rise b) kept over u c s = (s ≤ 0) × Saves b kept over u c 1
  Saves (call r f) kept over u c s = (dues.owes r ≤ 5) × (dues.wants r ≤ c) × (dues.depth r ≤ u) × (s + dues.over r ≤ over) × ((v : V r) → Saves (f v) kept over u (c + dues.gain r) (s + dues.over r))
  Saves (strict r f) kept over u c s = (dues.owes r ≤ 5) × (dues.wants r ≤ c) × (dues.depth r ≤ u) × (s + dues.over r ≤ over) × ((v : V r) → Saves (f v) kept over u (c + dues.gain r) (s + dues.over r))
  Saves (scope n r f) kept over u c s =
      (dues.owes r ≤ 5) × (dues.wants r ≤ c) × (dues.depth r + dues.over r ≤ u) × (n + dues.over r ≤ u) × (s ≤ 0) × ((v : V r) → Saves (f v) kept over u (c + dues.gain r) s)

-- the end of reading, of so many tokens: what was kept below this bound, and how deep the deepest node may be; or a limit was
-- passed late
abbrev pub Ends : {A : Type 0} → ℕ → ℕ → ℕ → ℕ → ℕ → ℕ → Outcome Meter A → Type 0
Ends all bound height kept over n (got a us y) = (length us ≤ n) × (y.peak + length us ≤ height + over) × (y.made + kept + 100 * length us ≤ bound)
Ends all bound height kept over n (refused us) = Unit {0}
Ends all bound height kept over n (exceeded us) = length us + 900 ≤ all

-- before a body, which may leave the deepest node so much too deep
pub record Before (all bound height over u c s : ℕ) (ts : Tokens) (m : Meter) : Type 0 where
  pub few : bound ≤ 100 * all + 100
  pub shallow : height + over ≤ all + 50
  pub made : m.made + c + 100 * length ts ≤ bound
  pub peak : m.peak + length ts ≤ height + s
  pub slight : s ≤ over + 1
  pub room : u + length ts ≤ height

ends_more : {A : Type 0} (all bound height kept over n l : ℕ) (o : Outcome Meter A) → l ≤ n → Ends all bound height kept over l o → Ends all bound height kept over n o
ends_more all bound height kept over n l (got a us y) less h = (omega (arith, h.0, less), h.1, h.2)
ends_more all bound height kept over n l (refused us) less h = tt
ends_more all bound height kept over n l (exceeded us) less h = h

if_ends : {A : Type 0} (all bound height kept over n : ℕ) (b : Bool) (o : Outcome Meter A) (us : Tokens) → Ends all bound height kept over n o → Ends all bound height kept over n (cond b o (refused us))
if_ends all bound height kept over n true o us h = h
if_ends all bound height kept over n false o us h = tt

both_or : (a b : Bool) → a && b ≡ false → (a ≡ false) ⊎ (b ≡ false)
both_or true b e = inr e
both_or false b e = inl refl

-- a count that is within these bounds fits, if fewer than 900 tokens are behind
late_by : (all n made peak : ℕ) → made + 100 * n ≤ 100 * all + 100 → peak + n ≤ all + 52 → (nat_le made 100000 ≡ false) ⊎ (nat_le peak 1000 ≡ false) → n + 900 ≤ all
late_by all n made peak few shallow (inl e) = grind (arith, nat_tests, e)
late_by all n made peak few shallow (inr e) = grind (arith, nat_tests, e)

late : (all n : ℕ) (m : Meter) → m.made + 100 * n ≤ 100 * all + 100 → m.peak + n ≤ all + 52 → fits m ≡ false → n + 900 ≤ all
late all n m few shallow e = late_by all n m.made m.peak few shallow (both_or (nat_le m.made 100000) (nat_le m.peak 1000) e)

-- a count that is within these bounds passes no limit before 900 tokens are behind
paid_ends : {A : Type 0} (all bound height kept over : ℕ) (ts : Tokens) (m : Meter) (f : Meter → Outcome Meter A) → m.made + 100 * length ts ≤ 100 * all + 100 → m.peak + length ts ≤ all + 52 →
    Ends all bound height kept over (length ts) (f m) → Ends all bound height kept over (length ts) (and_paid (within m) ts f)
paid_ends {A} all bound height kept over ts m f few shallow h = by_fits (fits m) refl
  where
    by_fits : (b : Bool) → fits m ≡ b → Ends all bound height kept over (length ts) (and_paid (cond b (Some m) None) ts f)
    by_fits true e = h
    by_fits false e = late all (length ts) m few shallow e

then_ends : {A B : Type 0} (all bound height kept over bound' height' kept' over' : ℕ) (n : ℕ) (o : Outcome Meter A) (f : A → Reader Meter B) → Ends all bound' height' kept' over' n o →
    ((a : A) (us : Tokens) (y : Meter) → length us ≤ n → y.peak + length us ≤ height' + over' → y.made + kept' + 100 * length us ≤ bound' → Ends all bound height kept over (length us) (f a us y)) →
    Ends all bound height kept over n (and_then o f)
then_ends all bound height kept over bound' height' kept' over' n (got a us y) f h k = ends_more all bound height kept over n (length us) (f a us y) h.0 (k a us y h.0 h.1 h.2)
then_ends all bound height kept over bound' height' kept' over' n (refused us) f h k = tt
then_ends all bound height kept over bound' height' kept' over' n (exceeded us) f h k = h

module _ (R : Type 0) (V : R → Type 0) (dues : Dues R) (all : ℕ) where
  -- a reader keeps to what is due
  abbrev pub Keeps : ((r : R) → Reader Meter (V r)) → Type 0
  Keeps h = (bound height : ℕ) (r : R) (ts : Tokens) (m : Meter) → dues.owes r ≤ 5 → Before all bound height (dues.over r) (dues.depth r) (dues.wants r) 0 ts m →
      Ends all bound height (dues.wants r + dues.gain r) (dues.over r) (length ts) (h r ts m)

  exec_ends : (rank : R → ℕ) (h : (r : R) → Reader Meter (V r)) → Keeps h → {A : Type 0} (bound height kept over : ℕ) (free : Bool) (limit : ℕ) (b : Body R V A) (u c s : ℕ) (ts : Tokens) (m : Meter) →
      Saves R V dues b kept over u c s → Before all bound height over u c s ts m → Ends all bound height kept over (length ts) (exec R V rank Meter limited h free limit b ts m)
  exec_ends rank h keeps bound height kept over free limit (done a) u c s ts m k i = (omega arith, omega (arith, i, k), omega (arith, i, k))
  exec_ends rank h keeps bound height kept over free limit stop u c s ts m k i = tt
  exec_ends rank h keeps bound height kept over free limit (look types f) u c s ts m k i = exec_ends rank h keeps bound height kept over free limit (f (kind types ts)) u c s ts m (k (kind types ts)) i
  exec_ends rank h keeps bound height kept over free limit (take f) u c s [] m k i = tt
  exec_ends rank h keeps bound height kept over free limit (take f) u c s (t ∷ ts) m k i =
      ends_more all bound height kept over (length (t ∷ ts)) (length ts) _ (omega arith) (exec_ends rank h keeps bound height kept over true limit (f t.lexeme) (u + 1) (c + 100) (s - 1) ts m (k t.lexeme)
      (record { few = i.few; shallow = i.shallow; made = omega (arith, i); peak = omega (arith, i); slight = omega (arith, i); room = omega (arith, i) }))
  exec_ends rank h keeps bound height kept over free limit (spend n d b) u c s ts m k i =
      paid_ends all bound height kept over ts (added n d m) _ (omega (arith, i, k)) (omega (arith, i, k)) (exec_ends rank h keeps bound height kept over free limit b u (c - n) s ts (added n d m) k.2
      (record { few = i.few; shallow = i.shallow; made = omega (arith, i, k); peak = omega (arith, i, k); slight = i.slight; room = i.room }))
  exec_ends rank h keeps bound height kept over free limit (rise b) u c s ts m k i =
      paid_ends all bound height kept over ts (raised m) _ (omega (arith, i, k)) (omega (arith, i, k)) (exec_ends rank h keeps bound height kept over free limit b u c 1 ts (raised m) k.1
      (record { few = i.few; shallow = i.shallow; made = omega (arith, i, k); peak = omega (arith, i, k.0); slight = omega arith; room = i.room }))
  exec_ends rank h keeps bound height kept over free limit (call r f) u c s ts m k i =
      if_ends all bound height kept over (length ts) (free || nat_lt (rank r) limit) _ ts (then_ends all bound height kept over (m.made + dues.wants r + 100 * length ts) (height + s) (dues.wants r + dues.gain r) (dues.over r) (length ts) (h r ts m) _
      (keeps (m.made + dues.wants r + 100 * length ts) (height + s) r ts m k.0
      (record { few = omega (arith, i, k); shallow = omega (arith, i, k); made = omega arith; peak = omega (arith, i, k); slight = omega arith; room = omega (arith, i, k) }))
      (λ v us y less deep few. exec_ends rank h keeps bound height kept over free limit (f v) u (c + dues.gain r) (s + dues.over r) us y (k.4 v)
      (record { few = i.few; shallow = i.shallow; made = omega (arith, i, k, few); peak = omega (arith, i, k, deep); slight = omega (arith, k); room = omega (arith, i, less) })))
  exec_ends rank h keeps bound height kept over free limit (strict r f) u c s ts m k i =
      if_ends all bound height kept over (length ts) (free || nat_lt (rank r) limit) _ ts (then_ends all bound height kept over (m.made + dues.wants r + 100 * length ts) (height + s) (dues.wants r + dues.gain r) (dues.over r) (length ts) (h r ts m) _
      (keeps (m.made + dues.wants r + 100 * length ts) (height + s) r ts m k.0
      (record { few = omega (arith, i, k); shallow = omega (arith, i, k); made = omega arith; peak = omega (arith, i, k); slight = omega arith; room = omega (arith, i, k) }))
      (λ v us y less deep few. if_ends all bound height kept over (length us) (nat_lt (length us) (length ts)) _ us (exec_ends rank h keeps bound height kept over true limit (f v) u (c + dues.gain r) (s + dues.over r) us y (k.4 v)
      (record { few = i.few; shallow = i.shallow; made = omega (arith, i, k, few); peak = omega (arith, i, k, deep); slight = omega (arith, k); room = omega (arith, i, less) }))))
  exec_ends rank h keeps bound height kept over free limit (scope n r f) u c s ts m k i =
      if_ends all bound height kept over (length ts) (free || nat_lt (rank r) limit) _ ts
      (then_ends all bound height kept over (m.made + dues.wants r + 100 * length ts) (height - dues.over r) (dues.wants r + dues.gain r) (dues.over r) (length ts) (h r ts (entered n m)) _
      (keeps (m.made + dues.wants r + 100 * length ts) (height - dues.over r) r ts (entered n m) k.0
      (record { few = omega (arith, i, k); shallow = omega (arith, i); made = omega arith; peak = omega (arith, i, k); slight = omega arith; room = omega (arith, i, k) }))
      (λ v us y less deep few. exec_ends rank h keeps bound height kept over free limit (f v) u (c + dues.gain r) s us (left m y) (k.5 v)
      (record { few = i.few; shallow = i.shallow; made = omega (arith, i, k, few); peak = omega (arith, i, k, deep, less); slight = i.slight; room = omega (arith, i, less) })))

-- each rule keeps to what is due
abbrev pub Saving : (R : Type 0) (V : R → Type 0) (rule : (r : R) → Body R V (V r)) (dues : Dues R) → R → Type 0
Saving R V rule dues r = dues.owes r ≤ 5 → Saves R V dues (rule r) (dues.wants r + dues.gain r) (dues.over r) (dues.depth r) (dues.wants r) 0

module _ (R : Type 0) (V : R → Type 0) (rank : R → ℕ) (rule : (r : R) → Body R V (V r)) (dues : Dues R) (all : ℕ) where
  run_ends : ((r : R) → Saving R V rule dues r) → (n : ℕ) → Keeps R V dues all (run R V rank rule Meter limited n)
  unfolding run
  run_ends saving zero bound height r ts m low i = tt
  run_ends saving (suc n) bound height r ts m low i =
      exec_ends R V dues all rank (run R V rank rule Meter limited n) (run_ends saving n) bound height (dues.wants r + dues.gain r) (dues.over r) false (rank r) (rule r) (dues.depth r) (dues.wants r) 0 ts m (saving r low) i

  -- Whatever is read ends within its bounds, if each rule keeps to what is due.
  pub reads_ends : ((r : R) → Saving R V rule dues r) → (top : ℕ) → Keeps R V dues all (reads R V rank rule Meter limited top)
  unfolding reads
  reads_ends saving top bound height r ts m low i = run_ends saving _ bound height r ts m low i
