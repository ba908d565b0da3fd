-- The conditions on rules, step by step: what is read has a property where each step keeps it.
use Rattle.std.proofs.Common.{◌≡◌, ℕ, Bool, true, false, cond, List, [], ◌∷◌, Some, refl, sym, subst}
use Rattle.c_tree.specs.Tree.{Name}
use Rattle.c_tree.specs.Marks.{Tokens, name_token}
use Rattle.c_tree.specs.TypeWords.{is_among}
use Rattle.c_grammar.specs.declared.kind.Kind.{Kind}
use Rattle.c_grammar.specs.declared.kind.Kind.TheVariants as k
use Rattle.c_grammar.specs.Kind.{kind, token_of, IsReal}
use Rattle.c_grammar.specs.Body.{done, stop, look, take, spend, rise, call, strict, scope, Gauge, reads}
use Rattle.c_grammar.specs.Rules.{Rule, Result, Reads, rule, rank, top, expect, named_by}
use Rattle.c_grammar.proofs.KindLemmas.{same_true, head_is, name_head}
use Rattle.c_grammar.proofs.Sure.{Holds, Sure, all_hold, sure_always, sure_both}

abbrev pub Property : Type 0 → Type 1
Property X = (r : Rule) → Tokens → X → Result r → Tokens → X → Type 0

-- what a body reads has the property Q, if what each rule reads has its own
pub record Goes (X : Type 0) (gauge : Gauge X) (Post : Property X) (A : Type 0) (b : Reads A) (Q : A → Tokens → X → Type 0) (ts : Tokens) (x : X) : Type 0 where
  pub sure : Sure Rule Result X gauge Post b Q ts x

pub all_go : (X : Type 0) (gauge : Gauge X) (Post : Property X) → ((r : Rule) (ts : Tokens) (x : X) → Goes X gauge Post (Result r) (rule r) (Post r ts x) ts x) → (r : Rule) (ts : Tokens) (x : X) →
    Holds (Post r ts x) (reads Rule Result rank rule X gauge top r ts x)
all_go X gauge Post h r ts x = all_hold Rule Result rank rule X gauge Post (λ q us y. (h q us y).sure) top r ts x

-- what a body reads has two properties, if what each rule reads has its own two
pub go_both : {X : Type 0} {gauge : Gauge X} {First Second : Property X} {A : Type 0} {b : Reads A} {P Q : A → Tokens → X → Type 0} {ts : Tokens} {x : X} →
    Goes X gauge First A b P ts x → Goes X gauge Second A b Q ts x →
    Goes X gauge (λ r us y v vs z. First r us y v vs z × Second r us y v vs z) A b (λ v us y. P v us y × Q v us y) ts x
go_both {X} {gauge} {First} {Second} {A} {b} {P} {Q} {ts} {x} h g = record { sure = sure_both Rule Result X gauge First Second b P Q ts x h.sure g.sure }

passes : (X : Type 0) (gauge : Gauge X) (Post : Property X) (A : Type 0) (Q : A → Tokens → X → Type 0) (f : Name → Reads A) (ts : Tokens) (x : X) →
    ((n : Name) (us : Tokens) → Goes X gauge Post A (f n) Q us x) → Sure Rule Result X gauge Post (take f) Q ts x
passes X gauge Post A Q f [] x h = tt
passes X gauge Post A Q f (t ∷ ts) x h = (h t.lexeme ts).sure

module _ {X : Type 0} {gauge : Gauge X} {Post : Property X} {A : Type 0} {Q : A → Tokens → X → Type 0} {ts : Tokens} {x : X} where
  pub go_done : {a : A} → Q a ts x → Goes X gauge Post A (done a) Q ts x
  go_done h = record { sure = h }

  pub go_stop : Goes X gauge Post A stop Q ts x
  go_stop = record { sure = tt }

  -- what holds of everything
  pub go_always : {b : Reads A} → ((a : A) (us : Tokens) (y : X) → Q a us y) → Goes X gauge Post A b Q ts x
  go_always {b} h = record { sure = sure_always Rule Result X gauge Post b Q h ts x }

  -- by the kind of the next token
  pub go_look : {types : List Name} {f : Kind → Reads A} → ((e : Kind) → kind types ts ≡ e → Goes X gauge Post A (f e) Q ts x) → Goes X gauge Post A (look types f) Q ts x
  go_look {types = types} h = record { sure = (h (kind types ts) refl).sure }

  pub go_spend : {n d : ℕ} {b : Reads A} → ((y : X) → gauge.spends n d x ≡ Some y → Goes X gauge Post A b Q ts y) → Goes X gauge Post A (spend n d b) Q ts x
  go_spend h = record { sure = λ y e. (h y e).sure }

  pub go_rise : {b : Reads A} → ((y : X) → gauge.rises x ≡ Some y → Goes X gauge Post A b Q ts y) → Goes X gauge Post A (rise b) Q ts x
  go_rise h = record { sure = λ y e. (h y e).sure }

  pub go_call : {r : Rule} {f : Result r → Reads A} → ((v : Result r) (us : Tokens) (y : X) → Post r ts x v us y → Goes X gauge Post A (f v) Q us y) → Goes X gauge Post A (call r f) Q ts x
  go_call h = record { sure = λ v us y p. (h v us y p).sure }

  pub go_strict : {r : Rule} {f : Result r → Reads A} → ((v : Result r) (us : Tokens) (y : X) → Post r ts x v us y → Goes X gauge Post A (f v) Q us y) → Goes X gauge Post A (strict r f) Q ts x
  go_strict h = record { sure = λ v us y p. (h v us y p).sure }

  pub go_scope : {n : ℕ} {r : Rule} {f : Result r → Reads A} →
      ((v : Result r) (us : Tokens) (y : X) → Post r ts (gauge.enters n x) v us y → Goes X gauge Post A (f v) Q us (gauge.leaves x y)) → Goes X gauge Post A (scope n r f) Q ts x
  go_scope h = record { sure = λ v us y p. (h v us y p).sure }

  -- a test
  pub go_if : {b : Bool} {p q : Reads A} → (b ≡ true → Goes X gauge Post A p Q ts x) → (b ≡ false → Goes X gauge Post A q Q ts x) → Goes X gauge Post A (cond b p q) Q ts x
  go_if {b = true} h g = h refl
  go_if {b = false} h g = g refl

  moved : {f : Name → Reads A} (e : Kind) (n : Name) (us : Tokens) → ts ≡ token_of e n ∷ us → Goes X gauge Post A (f (token_of e n).lexeme) Q us x → Goes X gauge Post A (take f) Q ts x
  moved {f = f} e n us is h = record { sure = subst (λ vs. Sure Rule Result X gauge Post (take f) Q vs x) (sym is) h.sure }

  -- a token is taken, whatever it is
  pub go_any : {f : Name → Reads A} → ((n : Name) (us : Tokens) → Goes X gauge Post A (f n) Q us x) → Goes X gauge Post A (take f) Q ts x
  go_any {f} h = record { sure = passes X gauge Post A Q f ts x h }

  -- a token of a kind is taken
  pub go_take : {f : Name → Reads A} (types : List Name) (e : Kind) → kind types ts ≡ e → IsReal e →
      ((n : Name) (us : Tokens) → ts ≡ token_of e n ∷ us → Goes X gauge Post A (f (token_of e n).lexeme) Q us x) → Goes X gauge Post A (take f) Q ts x
  go_take types e is real h = let at = head_is types ts e is real in moved e at.0 at.1 at.2 (h at.0 at.1 at.2)

  -- a name that is no type is taken
  pub go_name : {f : Name → Reads A} (types : List Name) → kind types ts ≡ k.Name →
      ((n : Name) (us : Tokens) → ts ≡ name_token n ∷ us → is_among types n ≡ false → Goes X gauge Post A (f n) Q us x) → Goes X gauge Post A (take f) Q ts x
  go_name types is h = let at = name_head types ts is in moved k.Name at.0 at.1 at.2 (h at.0 at.1 at.2 at.3)

  -- a token of a kind that is wanted
  pub go_expect : (e : Kind) {f : Reads A} → IsReal e → ((n : Name) (us : Tokens) → ts ≡ token_of e n ∷ us → Goes X gauge Post A f Q us x) → Goes X gauge Post A (expect e f) Q ts x
  go_expect e real h = go_look (λ j is. go_if (λ same. go_take [] e (subst (λ i. kind [] ts ≡ i) (same_true _ _ same) is) real h) (λ other. go_stop))

  -- the same, whatever its text
  pub go_wanted : (e : Kind) {f : Reads A} → ((us : Tokens) → Goes X gauge Post A f Q us x) → Goes X gauge Post A (expect e f) Q ts x
  go_wanted e h = go_look (λ j is. go_if (λ same. go_any (λ n us. h us)) (λ other. go_stop))

  by_kind : {f : Name → Reads A} (types : List Name) (e : Kind) → kind types ts ≡ e →
      ((n : Name) (us : Tokens) → ts ≡ name_token n ∷ us → is_among types n ≡ false → Goes X gauge Post A (f n) Q us x) → Goes X gauge Post A (named_by [] f e) Q ts x
  by_kind types k.Name is h = go_name types is h
  by_kind types _ is h = go_stop

  -- a name that is no type, as a rule wants one
  pub go_a_name : {types : List Name} {f : Name → Reads A} →
      ((n : Name) (us : Tokens) → ts ≡ name_token n ∷ us → is_among types n ≡ false → Goes X gauge Post A (f n) Q us x) → Goes X gauge Post A (look types (named_by [] f)) Q ts x
  go_a_name {types = types} h = go_look (λ e is. by_kind types e is h)
