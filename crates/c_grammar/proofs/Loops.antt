-- Lists that a loop reads.
use Rattle.std.proofs.Common.{Ok, List, [], ◌∷◌, ◌++◌, map, ◌≡◌, ℕ, nat_lt, Bool, true, false, ◌||◌, cond, refl, sym, ap, ◌∙◌, subst}
use Rattle.c_grammar.specs.Body.{done, call, Outcome, got, refused, exceeded, and_then}
use Rattle.c_grammar.specs.Gauge.{Meter}
use Rattle.c_grammar.specs.Input.{Input}
use Rattle.c_grammar.specs.Reading.{read, failure_of}
use Rattle.c_grammar.specs.Rules.{Rule, Result, rank}
use Rattle.c_grammar.proofs.Running.{Runs}
use Rattle.c_grammar.specs.declared.refusal.Refusal.{Refusal}
use Rattle.c_grammar.specs.Lists.{mapped, before}
use Rattle.c_grammar.specs.Gives.{Says, Fails, Gives}

pub mapped_same : {A : Type 0} (o : Outcome Meter A) → mapped (λ x. x) o ≡ o
mapped_same (got a ts m) = refl
mapped_same (refused ts) = refl
mapped_same (exceeded ts) = refl

mapped_twice : {A B C : Type 0} (g : B → C) (h : A → B) (k : A → C) (o : Outcome Meter A) → ((x : A) → g (h x) ≡ k x) → mapped k o ≡ mapped g (mapped h o)
mapped_twice g h k (got a ts m) same = ap (λ x. got x ts m) (sym (same a))
mapped_twice g h k (refused ts) same = refl
mapped_twice g h k (exceeded ts) same = refl

mapped_failure : {A B : Type 0} (g : A → B) (o : Outcome Meter A) → failure_of (mapped g o) ≡ failure_of o
mapped_failure g (got a ts m) = refl
mapped_failure g (refused ts) = refl
mapped_failure g (exceeded ts) = refl

-- what lies before it was read, and then one more part
pub loop_more : {A B C : Type 0} (g : B → C) (h : A → B) (k : A → C) (o : Outcome Meter B) (p : Outcome Meter A) (whole : Outcome Meter C) →
    ((x : A) → g (h x) ≡ k x) → mapped g o ≡ whole → o ≡ mapped h p → mapped k p ≡ whole
loop_more g h k o p whole same is e = mapped_twice g h k p same ∙ ap (mapped g) (sym e) ∙ is

-- the rest was read
pub loop_ok : {A B C : Type 0} (g : B → C) (view : A → C) (o : Outcome Meter B) (whole : Outcome Meter C) (b : B) (a : A) (j : Input) → mapped g o ≡ whole → o ≡ got b j.rest j.meter → g b ≡ view a → Gives view whole (Ok a) j
loop_ok g view o whole b a j is e same = sym is ∙ ap (mapped g) e ∙ ap (λ x. got x j.rest j.meter) same

-- reading the rest fails
pub loop_err : {B C : Type 0} (g : B → C) (o : Outcome Meter B) (whole : Outcome Meter C) (e : Refusal) → mapped g o ≡ whole → Fails o e → Fails whole e
loop_err g o whole e is h = record { says = subst (Says e) (sym (mapped_failure g o) ∙ ap failure_of is) h.says }

then_mapped : {A B : Type 0} (b : Bool) (o : Outcome Meter A) (g : A → B) (ts : _) → b ≡ true → mapped g o ≡ cond b (and_then o (λ v us y. got (g v) us y)) (refused ts)
then_mapped true (got a us m) g ts may = refl
then_mapped true (refused us) g ts may = refl
then_mapped true (exceeded us) g ts may = refl
then_mapped false o g ts may = absurd cc

then_same : {A : Type 0} (b : Bool) (o : Outcome Meter A) (ts : _) → b ≡ true → o ≡ cond b (and_then o (λ v us y. got v us y)) (refused ts)
then_same true (got a us m) ts may = refl
then_same true (refused us) ts may = refl
then_same true (exceeded us) ts may = refl
then_same false o ts may = absurd cc

module _ {A : Type 0} {free : Bool} {limit : ℕ} {i : Input} {P : Outcome Meter A → Type 0} where
  -- the last call of a body, whatever it comes to
  pub run_tail : {r : Rule} {g : Result r → A} → free || nat_lt (rank r) limit ≡ true → P (mapped g (read r i)) → Runs A free limit (call r (λ v. done (g v))) i P
  run_tail {r = r} {g = g} may h = record { is = subst P (then_mapped (free || nat_lt (rank r) limit) (read r i) g i.rest may) h }

pub run_last : {free : Bool} {limit : ℕ} {i : Input} {r : Rule} {P : Outcome Meter (Result r) → Type 0} → free || nat_lt (rank r) limit ≡ true → P (read r i) → Runs (Result r) free limit (call r done) i P
run_last {free = free} {limit = limit} {i = i} {r = r} {P = P} may h = record { is = subst P (then_same (free || nat_lt (rank r) limit) (read r i) i.rest may) h }

-- ---- lists

before_push : {X T : Type 0} (cons : X → T → T) (xs : List X) (x : X) (t : T) → before cons xs (cons x t) ≡ before cons (xs ++ x ∷ []) t
before_push cons [] x t = refl
before_push cons (y ∷ ys) x t = ap (cons y) (before_push cons ys x t)

pub before_same : {X : Type 0} (xs : List X) → before ◌∷◌ xs [] ≡ xs
before_same [] = refl
before_same (x ∷ xs) = ap (λ ys. x ∷ ys) (before_same xs)

map_append : {A B : Type 0} (f : A → B) (xs : List A) (y : A) → map f (xs ++ y ∷ []) ≡ map f xs ++ f y ∷ []
map_append f [] y = refl
map_append f (x ∷ xs) y = ap (λ ys. f x ∷ ys) (map_append f xs y)

-- a list with one more item, item by item
pub pushed : {A B : Type 0} (f : A → B) (xs new : List A) (y : A) → new ≡ xs ++ y ∷ [] → map f new ≡ map f xs ++ f y ∷ []
pushed f xs new y e = ap (map f) e ∙ map_append f xs y

-- these were read, and then the rest; all of it is the whole
pub record Loop {X T : Type 0} (cons : X → T → T) (xs : List X) (rest whole : Outcome Meter T) : Type 0 where
  pub is : mapped (before cons xs) rest ≡ whole

-- one more is read, and then the rest
pub record Turn {X T : Type 0} (cons : X → T → T) (x : X) (o rest : Outcome Meter T) : Type 0 where
  pub is : o ≡ mapped (cons x) rest

module _ {X T : Type 0} {cons : X → T → T} {o whole : Outcome Meter T} where
  pub loop_turn : {xs : List X} {x : X} {rest : Outcome Meter T} (new : List X) → Loop cons xs o whole → Turn cons x o rest → new ≡ xs ++ x ∷ [] → Loop cons new rest whole
  loop_turn {xs = xs} {x = x} {rest = rest} new l t push =
      record { is = ap (λ ys. mapped (before cons ys) rest) push ∙ loop_more (before cons xs) (cons x) (before cons (xs ++ x ∷ [])) o rest whole (λ t. before_push cons xs x t) l.is t.is }

  pub loop_ends : {A : Type 0} {xs : List X} (view : A → T) (t : T) (a : A) (j : Input) → Loop cons xs o whole → o ≡ got t j.rest j.meter → before cons xs t ≡ view a → whole ≡ got (view a) j.rest j.meter
  loop_ends {xs = xs} view t a j l e same = loop_ok (before cons xs) view o whole t a j l.is e same

  pub loop_fails : {xs : List X} {e : Refusal} → Loop cons xs o whole → Fails o e → Fails whole e
  loop_fails {xs = xs} {e = e} l h = loop_err (before cons xs) o whole e l.is h

-- nothing was read before
pub loop_begins : {X T : Type 0} {cons : X → T → T} (xs : List X) (o : Outcome Meter T) → xs ≡ [] → Loop cons xs o o
loop_begins {cons = cons} xs o none = record { is = ap (λ ys. mapped (before cons ys) o) none ∙ mapped_same o }
