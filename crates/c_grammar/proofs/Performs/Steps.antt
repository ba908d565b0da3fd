-- Code performs what a body reads, where it takes a token only if one stands there, and the body calls as its rank allows.
use Rattle.std.proofs.Common.{◌≡◌, ◌≢◌, ℕ, nat_lt, Bool, true, false, ◌||◌, cond, List, [], ◌∷◌, length, Option, Some, None, refl, sym, ap, ◌∙◌, subst}
use Rattle.c_tree.specs.Tree.{Name}
use Rattle.c_tree.specs.Marks.{Tokens}
use Rattle.c_grammar.specs.declared.kind.Kind.{Kind}
use Rattle.c_grammar.specs.declared.kind.Kind.TheVariants as k
use Rattle.c_grammar.specs.Kind.{kind, same_kind, IsReal}
use Rattle.c_grammar.specs.Body.{done, stop, look, take, spend, rise, call, strict, scope, Outcome, got, refused, exceeded, and_then, and_paid}
use Rattle.c_grammar.specs.Gauge.{Meter, within, added, raised, entered, left}
use Rattle.c_grammar.specs.Input.{Input}
use Rattle.c_grammar.specs.Reading.{read}
use Rattle.c_grammar.specs.Rules.{Rule, Result, Reads, rule, rank, expect, named_by, naming}
use Rattle.c_grammar.specs.Performing.{at, perform}
use Rattle.c_grammar.proofs.KindLemmas.{kind_end, false_same}
use Rattle.c_grammar.proofs.Running.{Does, opens}

-- a token has this kind
abbrev pub is_there : Kind → Bool
is_there k.Nothing = false
is_there _ = true

-- free: a token was taken; limit: else the rules that are called rank lower; seen: a token stands next
abbrev Sound : {A : Type 0} → Bool → ℕ → Bool → Reads A → Type 0
Sound free limit seen (done a) = Unit {0}
Sound free limit seen stop = Unit {0}
Sound free limit seen (look types f) = (e : Kind) → Sound free limit (is_there e) (f e)
Sound free limit seen (take f) = (seen ≡ true) × ((n : Name) → Sound true limit false (f n))
Sound free limit seen (spend n d b) = Sound free limit seen b
Sound free limit seen (rise b) = Sound free limit seen b
Sound free limit seen (call r f) = (free || nat_lt (rank r) limit ≡ true) × ((v : Result r) → Sound free limit false (f v))
Sound free limit seen (strict r f) = (free || nat_lt (rank r) limit ≡ true) × ((v : Result r) → Sound true limit false (f v))
Sound free limit seen (scope n r f) = (free || nat_lt (rank r) limit ≡ true) × ((v : Result r) → Sound free limit false (f v))

-- the same, as a record
pub record Fine (A : Type 0) (free : Bool) (limit : ℕ) (seen : Bool) (b : Reads A) : Type 0 where
  pub sound : Sound free limit seen b

-- the body of a rule is fine
abbrev pub IsFine : Rule → Type 0
IsFine r = Fine (Result r) false (rank r) false (rule r)

-- ---- what is fine is performed

then_each : {A B : Type 0} (o : Outcome Meter A) (f g : A → Tokens → Meter → Outcome Meter B) → ((v : A) (us : Tokens) (m : Meter) → f v us m ≡ g v us m) → and_then o f ≡ and_then o g
then_each (got a ts m) f g h = h a ts m
then_each (refused ts) f g h = refl
then_each (exceeded ts) f g h = refl

paid_each : {A : Type 0} (o : Option Meter) (ts : Tokens) (f g : Meter → Outcome Meter A) → ((m : Meter) → f m ≡ g m) → and_paid o ts f ≡ and_paid o ts g
paid_each None ts f g h = refl
paid_each (Some m) ts f g h = h m

if_each : {A : Type 0} (b : Bool) (o p : Outcome Meter A) (ts : Tokens) → o ≡ p → cond b o (refused ts) ≡ cond b p (refused ts)
if_each true o p ts h = h
if_each false o p ts h = refl

when_true : {A : Type 0} (b : Bool) (o p : Outcome Meter A) (ts : Tokens) → b ≡ true → o ≡ p → cond b o (refused ts) ≡ p
when_true true o p ts is h = h
when_true false o p ts is h = absurd cc

there : (types : List Name) (ts : Tokens) → is_there (kind types ts) ≡ true → ts ≢ []
there types ts is none =
    let no : is_there k.Nothing ≡ true = ap is_there (sym (ap (kind types) none ∙ kind_end types)) ∙ is in
    absurd cc

performs : {A : Type 0} (free : Bool) (limit : ℕ) (seen : Bool) (b : Reads A) (ts : Tokens) (m : Meter) → Sound free limit seen b → (seen ≡ true → ts ≢ []) →
    Does free limit b ts m ≡ perform b (at ts m)
performs free limit seen (done a) ts m h some = refl
performs free limit seen stop ts m h some = refl
performs free limit seen (look types f) ts m h some = performs free limit (is_there (kind types ts)) (f (kind types ts)) ts m (h (kind types ts)) (there types ts)
performs free limit seen (take f) [] m h some = absurd (some h.0 refl)
performs free limit seen (take f) (t ∷ ts) m h some = performs true limit false (f t.lexeme) ts m (h.1 t.lexeme) (λ is. absurd cc)
performs free limit seen (spend n d b) ts m h some = paid_each (within (added n d m)) ts _ _ (λ y. performs free limit seen b ts y h some)
performs free limit seen (rise b) ts m h some = paid_each (within (raised m)) ts _ _ (λ y. performs free limit seen b ts y h some)
performs free limit seen (call r f) ts m h some =
    when_true (free || nat_lt (rank r) limit) _ _ ts h.0 (then_each (read r (at ts m)) _ _ (λ v us y. performs free limit false (f v) us y (h.1 v) (λ is. absurd cc)))
performs free limit seen (strict r f) ts m h some =
    when_true (free || nat_lt (rank r) limit) _ _ ts h.0 (then_each (read r (at ts m)) _ _
    (λ v us y. if_each (nat_lt (length us) (length ts)) _ _ us (performs true limit false (f v) us y (h.1 v) (λ is. absurd cc))))
performs free limit seen (scope n r f) ts m h some =
    when_true (free || nat_lt (rank r) limit) _ _ ts h.0
    (then_each (read r (at ts (entered n m))) _ _ (λ v us y. performs free limit false (f v) us (left m y) (h.1 v) (λ is. absurd cc)))

-- A rule whose body is fine reads what code performs.
pub rule_performs : (r : Rule) → IsFine r → (i : Input) → read r i ≡ perform (rule r) i
rule_performs r h i = opens r i ∙ performs false (rank r) false (rule r) i.rest i.meter h.sound (λ is. absurd cc)

-- ---- the steps of a body

by_kind : {A : Type 0} {free : Bool} {limit : ℕ} {f : Kind → Reads A} → Fine A free limit false (f k.Nothing) → ((e : Kind) → Fine A free limit true (f e)) → (e : Kind) → Sound free limit (is_there e) (f e)
by_kind none some k.Nothing = none.sound
by_kind none some _ = (some _).sound

module _ {A : Type 0} {free : Bool} {limit : ℕ} {seen : Bool} where
  -- what was read
  pub fine_done : {a : A} → Fine A free limit seen (done a)
  fine_done = record { sound = tt }

  -- no rule goes on
  pub fine_stop : Fine A free limit seen stop
  fine_stop = record { sound = tt }

  -- where nothing stands next, and where a token does
  pub fine_look : {types : List Name} {f : Kind → Reads A} → Fine A free limit false (f k.Nothing) → ((e : Kind) → Fine A free limit true (f e)) → Fine A free limit seen (look types f)
  fine_look none some = record { sound = by_kind none some }

  -- whichever kind the next token has, and whether or not one stands there
  pub fine_each : {types : List Name} {f : Kind → Reads A} → ((there : Bool) (e : Kind) → Fine A free limit there (f e)) → Fine A free limit seen (look types f)
  fine_each h = record { sound = λ e. (h (is_there e) e).sound }

  -- nodes are counted
  pub fine_spend : {n d : ℕ} {b : Reads A} → Fine A free limit seen b → Fine A free limit seen (spend n d b)
  fine_spend h = record { sound = h.sound }

  -- all lies one node deeper
  pub fine_rise : {b : Reads A} → Fine A free limit seen b → Fine A free limit seen (rise b)
  fine_rise h = record { sound = h.sound }

  -- a rule is called that ranks lower, or behind a token
  pub fine_call : {r : Rule} {f : Result r → Reads A} → free || nat_lt (rank r) limit ≡ true → ((v : Result r) → Fine A free limit false (f v)) → Fine A free limit seen (call r f)
  fine_call may h = record { sound = (may, λ v. (h v).sound) }

  -- likewise, where it takes a token
  pub fine_strict : {r : Rule} {f : Result r → Reads A} → free || nat_lt (rank r) limit ≡ true → ((v : Result r) → Fine A true limit false (f v)) → Fine A free limit seen (strict r f)
  fine_strict may h = record { sound = (may, λ v. (h v).sound) }

  -- likewise, in a scope of its own
  pub fine_scope : {n : ℕ} {r : Rule} {f : Result r → Reads A} → free || nat_lt (rank r) limit ≡ true → ((v : Result r) → Fine A free limit false (f v)) → Fine A free limit seen (scope n r f)
  fine_scope may h = record { sound = (may, λ v. (h v).sound) }

  -- a name has to follow, or not
  pub fine_naming : (b : Bool) (d : ℕ) {p : Reads A} → Fine A free limit seen p → Fine A free limit seen (naming b d p)
  fine_naming true d h = fine_spend h
  fine_naming false d h = h

  -- both ways of a test
  pub fine_if : (b : Bool) {p q : Reads A} → Fine A free limit seen p → Fine A free limit seen q → Fine A free limit seen (cond b p q)
  fine_if true h g = h
  fine_if false h g = g

-- a token that stands next is taken
pub fine_take : {A : Type 0} {free : Bool} {limit : ℕ} {f : Name → Reads A} → ((n : Name) → Fine A true limit false (f n)) → Fine A free limit true (take f)
fine_take h = record { sound = (refl, λ n. (h n).sound) }

-- where nothing stands next, a token of this kind isn't met
pub unmet_else : {A : Type 0} {free : Bool} {limit : ℕ} (e : Kind) (p : Reads A) {q : Reads A} → IsReal e → Fine A free limit false q → Fine A free limit false (cond (same_kind k.Nothing e) p q)
unmet_else {A} {free} {limit} e p {q} real h =
    subst (λ b. Fine A free limit false (cond b p q)) (sym (false_same k.Nothing e (λ is. subst IsReal (sym is) real))) h

module _ {A : Type 0} {free : Bool} {limit : ℕ} where
  -- a token of a kind that is wanted
  pub fine_expect : {seen : Bool} (e : Kind) {f : Reads A} → IsReal e → Fine A true limit false f → Fine A free limit seen (expect e f)
  fine_expect e real h = fine_look (unmet_else e _ real fine_stop) (λ j. fine_if _ (fine_take (λ n. h)) fine_stop)

  -- a name that is wanted
  pub fine_named : (ns : List Name) {f : Name → Reads A} (e : Kind) → ((n : Name) → Fine A true limit false (f n)) → Fine A free limit true (named_by ns f e)
  fine_named ns k.Name h = fine_take (λ n. fine_if _ fine_stop (h n))
  fine_named ns _ h = fine_stop

  -- likewise, at the next token
  pub fine_name : {seen : Bool} {types : List Name} (ns : List Name) {f : Name → Reads A} → ((n : Name) → Fine A true limit false (f n)) → Fine A free limit seen (look types (named_by ns f))
  fine_name ns h = fine_look fine_stop (λ e. fine_named ns e h)
