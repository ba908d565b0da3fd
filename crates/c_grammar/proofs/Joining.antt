-- What two bodies read that begin in the same way, and how many tokens they leave.
use Rattle.std.proofs.Common.{◌≡◌, ◌≤◌, ℕ, Bool, true, false, nat_lt, cond, List, [], ◌∷◌, length, Option, Some, None, Result as Res, Ok, Err, IsErr, IsErrAnd, refl, sym, subst, arith}
use Rattle.c_tree.specs.Tree.{Name}
use Rattle.c_tree.specs.Marks.{Tokens}
use Rattle.c_grammar.specs.declared.kind.Kind.{Kind}
use Rattle.c_grammar.specs.declared.kind.Kind.TheVariants as k
use Rattle.c_grammar.specs.Kind.{kind, same_kind, tail_of, head_text}
use Rattle.c_grammar.specs.Body.{Body, done, stop, look, take, spend, rise, strict, scope, Outcome, got, refused, exceeded, and_then, and_paid, Reader}
use Rattle.c_grammar.specs.Body as body
use Rattle.c_grammar.specs.Gauge.{Meter, within, added, raised, entered, left}
use Rattle.c_grammar.specs.Input.{Input, next, metered}
use Rattle.c_grammar.specs.Reading.{read, failure_of}
use Rattle.c_grammar.specs.Rules.{Rule, Result, Reads, expect, named_by}
use Rattle.c_grammar.specs.declared.refusal.Refusal.{Refusal}
use Rattle.c_grammar.specs.declared.refusal.Refusal.TheVariants.{Syntax, Large, NoMemory}
use Rattle.c_grammar.specs.Gives.{Says, Fails, Gives}
use Rattle.c_grammar.specs.Lists.{mapped}
use Rattle.c_grammar.specs.Performing.{perform, at}
use Rattle.c_grammar.proofs.Shorter.{Leaves, read_leaves, then_leaves, paid_leaves, if_leaves}

-- ---- what goes on

paid_joined : {A B C : Type 0} (g : B → C) (go : C → Reader Meter A) (o : Option Meter) (ts : Tokens) (f : Meter → Outcome Meter A) (h : Meter → Outcome Meter B) →
    ((m : Meter) → f m ≡ and_then (mapped g (h m)) go) → and_paid o ts f ≡ and_then (mapped g (and_paid o ts h)) go
paid_joined g go None ts f h same = refl
paid_joined g go (Some m) ts f h same = same m

then_joined : {A B C X : Type 0} (g : B → C) (go : C → Reader Meter A) (o : Outcome Meter X) (f : X → Reader Meter A) (h : X → Reader Meter B) →
    ((x : X) (us : Tokens) (m : Meter) → f x us m ≡ and_then (mapped g (h x us m)) go) → and_then o f ≡ and_then (mapped g (and_then o h)) go
then_joined g go (got x us m) f h same = same x us m
then_joined g go (refused us) f h same = refl
then_joined g go (exceeded us) f h same = refl

expect_joined : {A B C : Type 0} (g : B → C) (go : C → Reader Meter A) (f : Reads A) (h : Reads B) (j : Input) (b : Bool) →
    perform f (next j) ≡ and_then (mapped g (perform h (next j))) go →
    perform (cond b (take (λ n. f)) stop) j ≡ and_then (mapped g (perform (cond b (take (λ n. h)) stop) j)) go
expect_joined g go f h j true same = same
expect_joined g go f h j false same = refl

named_joined : {A B C : Type 0} (g : B → C) (go : C → Reader Meter A) (x : Kind) (f : Name → Reads A) (h : Name → Reads B) (j : Input) →
    ((n : Name) → perform (f n) (next j) ≡ and_then (mapped g (perform (h n) (next j))) go) →
    perform (named_by [] f x) j ≡ and_then (mapped g (perform (named_by [] h x) j)) go
named_joined g go k.Name f h j same = same _
named_joined g go _ f h j same = refl

-- nothing comes behind the last call
pub last : {A : Type 0} (o : Outcome Meter A) → and_then o (λ v us m. got v us m) ≡ o
last (got v us m) = refl
last (refused us) = refl
last (exceeded us) = refl

-- f reads what h does, and goes on from what is made of it
pub record Joins {A B C : Type 0} (g : B → C) (go : C → Reader Meter A) (f : Reads A) (h : Reads B) (j : Input) : Type 0 where
  pub is : perform f j ≡ and_then (mapped g (perform h j)) go

module _ {A B C : Type 0} {g : B → C} {go : C → Reader Meter A} {j : Input} where
  pub join_rise : {f : Reads A} {h : Reads B} → ((m : Meter) → Joins g go f h (metered m j)) → Joins g go (rise f) (rise h) j
  join_rise same = record { is = paid_joined g go (within (raised j.meter)) j.rest _ _ (λ m. (same m).is) }

  pub join_spend : {n d : ℕ} {f : Reads A} {h : Reads B} → ((m : Meter) → Joins g go f h (metered m j)) → Joins g go (spend n d f) (spend n d h) j
  join_spend {n = n} {d = d} same = record { is = paid_joined g go (within (added n d j.meter)) j.rest _ _ (λ m. (same m).is) }

  pub join_skip : {f : Reads A} {h : Reads B} → Joins g go f h (next j) → Joins g go (take (λ n. f)) (take (λ n. h)) j
  join_skip same = record { is = same.is }

  pub join_call : {r : Rule} {f : Result r → Reads A} {h : Result r → Reads B} → ((x : Result r) (us : Tokens) (m : Meter) → Joins g go (f x) (h x) (at us m)) → Joins g go (body.call r f) (body.call r h) j
  join_call {r = r} same = record { is = then_joined g go (read r j) _ _ (λ x us m. (same x us m).is) }

  pub join_expect : (e : Kind) {f : Reads A} {h : Reads B} → Joins g go f h (next j) → Joins g go (expect e f) (expect e h) j
  join_expect e {f = f} {h = h} same = record { is = expect_joined g go f h j (same_kind (kind [] j.rest) e) same.is }

  pub join_name : (types : List Name) {f : Name → Reads A} {h : Name → Reads B} → ((n : Name) → Joins g go (f n) (h n) (next j)) → Joins g go (look types (named_by [] f)) (look types (named_by [] h)) j
  join_name types {f = f} {h = h} same = record { is = named_joined g go (kind types j.rest) f h j (λ n. (same n).is) }

pub same_mapped : {A : Type 0} (o : Outcome Meter A) → mapped (λ x. x) o ≡ o
same_mapped (got v us m) = refl
same_mapped (refused us) = refl
same_mapped (exceeded us) = refl

-- something is made of what the last call reads
pub tail_mapped : {A B : Type 0} (g : A → B) (o : Outcome Meter A) → and_then o (λ v us m. got (g v) us m) ≡ mapped g o
tail_mapped g (got v us m) = refl
tail_mapped g (refused us) = refl
tail_mapped g (exceeded us) = refl

then_says : {A B : Type 0} (o : Outcome Meter A) (f : A → Reader Meter B) (e : Refusal) → Says e (failure_of o) → Says e (failure_of (and_then o f))
then_says o f NoMemory h = tt
then_says (got v us m) f (Syntax n) h = absurd cc
then_says (refused us) f (Syntax n) h = h
then_says (exceeded us) f (Syntax n) h = h
then_says (got v us m) f (Large n) h = absurd cc
then_says (refused us) f (Large n) h = h
then_says (exceeded us) f (Large n) h = h

-- what begins by failing fails
pub then_fails : {A B : Type 0} {o : Outcome Meter A} {e : Refusal} (f : A → Reader Meter B) → Fails o e → Fails (and_then o f) e
then_fails {o = o} {e = e} f h = record { says = then_says o f e h.says }

-- what `?` answers for a refusal
pub erred : {A B : Type 0} (view : A → B) (out : Outcome Meter B) (r : Res A Refusal) (e : Refusal) (j : Input) → IsErr r × IsErrAnd r (λ x. x ≡ e) → Fails out e → Gives view out r j
erred view out (Ok a) e j q h = absurd q.1
erred view out (Err x) e j q h = subst (λ z. Fails out z) (sym q.1) h

-- ---- how many tokens are left

pub perform_leaves : {A : Type 0} (n : ℕ) (b : Reads A) (i : Input) → length i.rest ≤ n → Leaves n (perform b i)
perform_leaves n (done a) i k = k
perform_leaves n stop i k = tt
perform_leaves n (look types f) i k = perform_leaves n (f (kind types i.rest)) i k
perform_leaves n (take f) i k = perform_leaves n (f (head_text i.rest)) (next i) (tail_leaves i.rest k)
  where
    tail_leaves : (ts : Tokens) → length ts ≤ n → length (tail_of ts) ≤ n
    tail_leaves [] h = h
    tail_leaves (t ∷ ts) h = omega (arith, h)
perform_leaves n (spend m d b) i k = paid_leaves n (within (added m d i.meter)) i.rest _ (λ y. perform_leaves n b (metered y i) k)
perform_leaves n (rise b) i k = paid_leaves n (within (raised i.meter)) i.rest _ (λ y. perform_leaves n b (metered y i) k)
perform_leaves n (body.call r f) i k = then_leaves n (read r i) _ (read_leaves n r i k) (λ v us m p. perform_leaves n (f v) (at us m) p)
perform_leaves n (strict r f) i k =
    then_leaves n (read r i) _ (read_leaves n r i k) (λ v us m p. if_leaves n (nat_lt (length us) (length i.rest)) _ us (perform_leaves n (f v) (at us m) p))
perform_leaves n (scope l r f) i k = then_leaves n (read r (metered (entered l i.meter) i)) _ (read_leaves n r (metered (entered l i.meter) i) k) (λ v us m p. perform_leaves n (f v) (at us (left i.meter m)) p)

pub mapped_leaves : {A B : Type 0} (n : ℕ) (g : A → B) (o : Outcome Meter A) → Leaves n o → Leaves n (mapped g o)
mapped_leaves n g (got v us m) h = h
mapped_leaves n g (refused us) h = tt
mapped_leaves n g (exceeded us) h = tt

-- what it reads leaves so many tokens at most
pub record Leaving {A : Type 0} (n : ℕ) (b : Reads A) (i : Input) : Type 0 where
  pub is : Leaves n (perform b i)

pub taken : {A : Type 0} {n m d : ℕ} {b : Reads A} {i : Input} → length (tail_of i.rest) ≤ n → Leaving n (rise (spend m d (take (λ z. b)))) i
taken {n = n} {m = m} {d = d} {b = b} {i = i} k =
    record { is = paid_leaves n (within (raised i.meter)) i.rest _ (λ y. paid_leaves n (within (added m d y)) i.rest _ (λ z. perform_leaves n b (next (metered z i)) k)) }

pub made : {A B : Type 0} {n : ℕ} {b : Reads A} {i : Input} (g : A → B) → Leaving n b i → Leaves n (mapped g (perform b i))
made {n = n} {b = b} {i = i} g h = mapped_leaves n g (perform b i) h.is

-- the same, where nothing rises
pub spent_taken : {A : Type 0} {n m d : ℕ} {b : Reads A} {i : Input} → length (tail_of i.rest) ≤ n → Leaving n (spend m d (take (λ z. b))) i
spent_taken {n = n} {m = m} {d = d} {b = b} {i = i} k =
    record { is = paid_leaves n (within (added m d i.meter)) i.rest _ (λ z. perform_leaves n b (next (metered z i)) k) }
