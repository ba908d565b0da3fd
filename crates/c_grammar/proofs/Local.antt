-- An outcome hangs on the tokens before its end and on the one that stands there, on no later one.
use Rattle.std.proofs.Common.{◌≡◌, ℕ, zero, suc, ◌+◌, ◌*◌, ◌<◌, ◌≤◌, nat_lt, Bool, true, false, ◌||◌, cond, List, [], ◌∷◌, ◌++◌, length, Option, Some, None, refl, sym, ap, subst, ◌∙◌, length-append, arith, ⊎_elim, ◌⊎◌, inl, inr}
use Rattle.std.proofs.lemmas.Bool.Decides.{nat_tests}
use Rattle.base_core.specs.declared.token.Token.{Token}
use Rattle.c_tree.specs.Tree.{Name}
use Rattle.c_tree.specs.Marks.{Tokens}
use Rattle.c_grammar.specs.Kind.{kind}
use Rattle.c_grammar.specs.Body.{Body, done, stop, look, take, spend, rise, call, strict, scope, Outcome, got, refused, exceeded, Reader, Gauge, and_then, and_paid, exec, run, reads}
use Rattle.c_grammar.proofs.Opening.{left_of, Handler, then_shrinks, if_shrinks, Shrinks, exec_shrinks, run_shrinks, run_reads}

lt_shift : (a b c : ℕ) → nat_lt (a + c) (b + c) ≡ nat_lt a b
lt_shift a b c = by_test (nat_lt (a + c) (b + c)) (nat_lt a b) (λ h. grind (arith, nat_tests)) (λ h. grind (arith, nat_tests))
  where
    by_test : (p q : Bool) → (p ≡ true → q ≡ true) → (q ≡ true → p ≡ true) → p ≡ q
    by_test true q f g = sym (f refl)
    by_test false true f g = g refl
    by_test false false f g = refl

-- a token, and two ways to go on behind it
module _ (t : Token) (s s' : Tokens) where
  abbrev pub Alike : {X A : Type 0} → Outcome X A → Outcome X A → Type 0
  Alike (got a ts x) o = (u : Tokens) × (ts ≡ u ++ t ∷ s) × (o ≡ got a (u ++ t ∷ s') x)
  Alike (refused ts) o = (u : Tokens) × (ts ≡ u ++ t ∷ s) × (o ≡ refused (u ++ t ∷ s'))
  Alike (exceeded ts) o = (u : Tokens) × (ts ≡ u ++ t ∷ s) × (o ≡ exceeded (u ++ t ∷ s'))

  -- The first outcome lies behind the token, or the second is like it.
  abbrev pub Goes : {X A : Type 0} → Outcome X A → Outcome X A → Type 0
  Goes o o' = (left_of o ≤ length s) ⊎ Alike o o'

  same_kind : (types : List Name) (u : Tokens) → kind types (u ++ t ∷ s) ≡ kind types (u ++ t ∷ s')
  unfolding kind
  same_kind types [] = refl
  same_kind types (w ∷ u) = refl

  paid_goes : {X A : Type 0} (o : Option X) (u : Tokens) (f g : X → Outcome X A) → ((x : X) → Goes (f x) (g x)) → Goes (and_paid o (u ++ t ∷ s) f) (and_paid o (u ++ t ∷ s') g)
  paid_goes None u f g h = inr (u, refl, refl)
  paid_goes (Some x) u f g h = h x

  if_goes : {X A : Type 0} (b : Bool) (o p : Outcome X A) (u : Tokens) → Goes o p → Goes (cond b o (refused (u ++ t ∷ s))) (cond b p (refused (u ++ t ∷ s')))
  if_goes true o p u h = h
  if_goes false o p u h = inr (u, refl, refl)

  alike_goes : {X A B : Type 0} (o p : Outcome X A) (f : A → Reader X B) → Alike o p → ((a : A) (u : Tokens) (x : X) → Goes (f a (u ++ t ∷ s) x) (f a (u ++ t ∷ s') x)) → Goes (and_then o f) (and_then p f)
  alike_goes (got a ts x) p f h k = rw (h.1, h.2) (k a h.0 x)
  alike_goes (refused ts) p f h k = inr (h.0, h.1, ap (λ q. and_then q f) h.2)
  alike_goes (exceeded ts) p f h k = inr (h.0, h.1, ap (λ q. and_then q f) h.2)

  -- whether fewer tokens are left is seen alike
  fewer_alike : (w u : Tokens) → nat_lt (length (w ++ t ∷ s)) (length (u ++ t ∷ s)) ≡ nat_lt (length (w ++ t ∷ s')) (length (u ++ t ∷ s'))
  fewer_alike w u =
      rw (length-append w (t ∷ s), length-append u (t ∷ s), length-append w (t ∷ s'), length-append u (t ∷ s'))
      (lt_shift (length w) (length u) (suc (length s)) ∙ sym (lt_shift (length w) (length u) (suc (length s'))))

  alike_goes_by : {X A B : Type 0} (o p : Outcome X A) (f g : A → Reader X B) → Alike o p → ((a : A) (u : Tokens) (x : X) → Goes (f a (u ++ t ∷ s) x) (g a (u ++ t ∷ s') x)) → Goes (and_then o f) (and_then p g)
  alike_goes_by (got a ts x) p f g h k = rw (h.1, h.2) (k a h.0 x)
  alike_goes_by (refused ts) p f g h k = inr (h.0, h.1, ap (λ q. and_then q g) h.2)
  alike_goes_by (exceeded ts) p f g h k = inr (h.0, h.1, ap (λ q. and_then q g) h.2)

  then_goes_by : {X A B : Type 0} (o p : Outcome X A) (f g : A → Reader X B) → Goes o p → ((a : A) (ts : Tokens) (x : X) → left_of (f a ts x) ≤ length ts) →
      ((a : A) (u : Tokens) (x : X) → Goes (f a (u ++ t ∷ s) x) (g a (u ++ t ∷ s') x)) → Goes (and_then o f) (and_then p g)
  then_goes_by o p f g h few k = ⊎_elim (λ past. inl (then_shrinks o f (length s) past few)) (λ alike. alike_goes_by o p f g alike k) h

  then_goes : {X A B : Type 0} (o p : Outcome X A) (f : A → Reader X B) → Goes o p → ((a : A) (ts : Tokens) (x : X) → left_of (f a ts x) ≤ length ts) →
      ((a : A) (u : Tokens) (x : X) → Goes (f a (u ++ t ∷ s) x) (f a (u ++ t ∷ s') x)) → Goes (and_then o f) (and_then p f)
  then_goes o p f h few k = ⊎_elim (λ past. inl (then_shrinks o f (length s) past few)) (λ alike. alike_goes o p f alike k) h

  module _ (R : Type 0) (V : R → Type 0) (rank : R → ℕ) (X : Type 0) (gauge : Gauge X) where
    exec_goes : {A : Type 0} (h : Handler R V X) → Shrinks R V X h → ((r : R) (u : Tokens) (x : X) → Goes (h r (u ++ t ∷ s) x) (h r (u ++ t ∷ s') x)) →
        (free : Bool) (limit : ℕ) (b : Body R V A) (u : Tokens) (x : X) →
        Goes (exec R V rank X gauge h free limit b (u ++ t ∷ s) x) (exec R V rank X gauge h free limit b (u ++ t ∷ s') x)
    exec_goes h few k free limit (done a) u x = inr (u, refl, refl)
    exec_goes h few k free limit stop u x = inr (u, refl, refl)
    exec_goes h few k free limit (look types f) u x =
        subst (λ e. Goes (exec R V rank X gauge h free limit (f (kind types (u ++ t ∷ s))) (u ++ t ∷ s) x) (exec R V rank X gauge h free limit (f e) (u ++ t ∷ s') x)) (same_kind types u)
        (exec_goes h few k free limit (f (kind types (u ++ t ∷ s))) u x)
    exec_goes h few k free limit (take f) [] x = inl (exec_shrinks R V rank X gauge h few true limit (f t.lexeme) s x)
    exec_goes h few k free limit (take f) (w ∷ u) x = exec_goes h few k true limit (f w.lexeme) u x
    exec_goes h few k free limit (spend n d b) u x = paid_goes (gauge.spends n d x) u _ _ (λ y. exec_goes h few k free limit b u y)
    exec_goes h few k free limit (rise b) u x = paid_goes (gauge.rises x) u _ _ (λ y. exec_goes h few k free limit b u y)
    exec_goes h few k free limit (call r f) u x =
        if_goes (free || nat_lt (rank r) limit) _ _ u
        (then_goes (h r (u ++ t ∷ s) x) (h r (u ++ t ∷ s') x) _ (k r u x) (λ v ts y. exec_shrinks R V rank X gauge h few free limit (f v) ts y) (λ v u' y. exec_goes h few k free limit (f v) u' y))
    exec_goes h few k free limit (strict r f) u x =
        if_goes (free || nat_lt (rank r) limit) _ _ u
        (then_goes_by (h r (u ++ t ∷ s) x) (h r (u ++ t ∷ s') x) _ _ (k r u x)
        (λ v ts y. if_shrinks (nat_lt (length ts) (length (u ++ t ∷ s))) _ ts (exec_shrinks R V rank X gauge h few true limit (f v) ts y))
        (λ v w y. subst (λ b. Goes (cond (nat_lt (length (w ++ t ∷ s)) (length (u ++ t ∷ s))) (exec R V rank X gauge h true limit (f v) (w ++ t ∷ s) y) (refused (w ++ t ∷ s)))
        (cond b (exec R V rank X gauge h true limit (f v) (w ++ t ∷ s') y) (refused (w ++ t ∷ s')))) (fewer_alike w u)
        (if_goes (nat_lt (length (w ++ t ∷ s)) (length (u ++ t ∷ s))) _ _ w (exec_goes h few k true limit (f v) w y))))
    exec_goes h few k free limit (scope n r f) u x =
        if_goes (free || nat_lt (rank r) limit) _ _ u
        (then_goes (h r (u ++ t ∷ s) (gauge.enters n x)) (h r (u ++ t ∷ s') (gauge.enters n x)) _ (k r u (gauge.enters n x))
        (λ v ts y. exec_shrinks R V rank X gauge h few free limit (f v) ts (gauge.leaves x y)) (λ v u' y. exec_goes h few k free limit (f v) u' (gauge.leaves x y)))

module _ (R : Type 0) (V : R → Type 0) (rank : R → ℕ) (rule : (r : R) → Body R V (V r)) (X : Type 0) (gauge : Gauge X) where
  run_goes : (t : Token) (s s' : Tokens) (n : ℕ) (r : R) (u : Tokens) (x : X) → Goes t s s' (run R V rank rule X gauge n r (u ++ t ∷ s) x) (run R V rank rule X gauge n r (u ++ t ∷ s') x)
  unfolding run
  run_goes t s s' zero r u x = inr (u, refl, refl)
  run_goes t s s' (suc n) r u x =
      exec_goes t s s' R V rank X gauge (run R V rank rule X gauge n) (run_shrinks R V rank rule X gauge n) (run_goes t s s' n) false (rank r) (rule r) u x

  module _ (top : ℕ) (bounded : (r : R) → rank r < top) where
    -- Reading ends behind a token, or it ends alike whatever follows that token.
    pub reads_goes : (u s s' : Tokens) (t : Token) (r : R) (x : X) →
        Goes t s s' (reads R V rank rule X gauge top r (u ++ t ∷ s) x) (reads R V rank rule X gauge top r (u ++ t ∷ s') x)
    reads_goes u s s' t r x =
        let many = suc (top * length (u ++ t ∷ s) + top * length (u ++ t ∷ s') + rank r) in
        let one = run_reads R V rank rule X gauge top bounded many r (u ++ t ∷ s) x (omega arith) in
        let other = run_reads R V rank rule X gauge top bounded many r (u ++ t ∷ s') x (omega arith) in
        rw (← one, ← other) (run_goes t s s' many r u x)

    -- what is refused before or at a token is refused at the same place whatever follows that token
    pub refused_early : (u s s' : Tokens) (t : Token) (r : R) (x : X) (us : Tokens) → reads R V rank rule X gauge top r (u ++ t ∷ s) x ≡ refused us → length s < length us →
        (before : Tokens) × (us ≡ before ++ t ∷ s) × (reads R V rank rule X gauge top r (u ++ t ∷ s') x ≡ refused (before ++ t ∷ s'))
    refused_early u s s' t r x us e far =
        let h = subst (λ o. Goes t s s' o (reads R V rank rule X gauge top r (u ++ t ∷ s') x)) e (reads_goes u s s' t r x) in
        ⊎_elim (λ past. absurd (omega arith)) (λ alike. alike) h

    pub exceeded_early : (u s s' : Tokens) (t : Token) (r : R) (x : X) (us : Tokens) → reads R V rank rule X gauge top r (u ++ t ∷ s) x ≡ exceeded us → length s < length us →
        (before : Tokens) × (us ≡ before ++ t ∷ s) × (reads R V rank rule X gauge top r (u ++ t ∷ s') x ≡ exceeded (before ++ t ∷ s'))
    exceeded_early u s s' t r x us e far =
        let h = subst (λ o. Goes t s s' o (reads R V rank rule X gauge top r (u ++ t ∷ s') x)) e (reads_goes u s s' t r x) in
        ⊎_elim (λ past. absurd (omega arith)) (λ alike. alike) h

    pub got_early : (u s s' : Tokens) (t : Token) (r : R) (x : X) (v : V r) (us : Tokens) (y : X) → reads R V rank rule X gauge top r (u ++ t ∷ s) x ≡ got v us y → length s < length us →
        (before : Tokens) × (us ≡ before ++ t ∷ s) × (reads R V rank rule X gauge top r (u ++ t ∷ s') x ≡ got v (before ++ t ∷ s') y)
    got_early u s s' t r x v us y e far =
        let h = subst (λ o. Goes t s s' o (reads R V rank rule X gauge top r (u ++ t ∷ s') x)) e (reads_goes u s s' t r x) in
        ⊎_elim (λ past. absurd (omega arith)) (λ alike. alike) h
