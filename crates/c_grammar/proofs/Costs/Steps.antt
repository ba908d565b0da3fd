-- The steps of counting: what a body counts is known from what each step adds, whatever tokens it takes.
use Rattle.std.proofs.Common.{ℕ, List, [], ◌∷◌, Option, Some, None, ap, subst}
use Rattle.c_tree.specs.Tree.{Name}
use Rattle.c_tree.specs.Marks.{Tokens}
use Rattle.c_grammar.specs.declared.kind.Kind.{Kind}
use Rattle.c_grammar.specs.declared.kind.Kind.TheVariants as k
use Rattle.c_grammar.specs.Body.{look, take, spend, rise}
use Rattle.c_grammar.specs.Gauge.{Meter, counted, added, raised}
use Rattle.c_grammar.specs.Rules.{Rule, Result, Reads, rule, expect, named_by}
use Rattle.c_grammar.proofs.Conditions.{Goes, go_stop, go_look, go_if}
use Rattle.c_grammar.proofs.Costs.Counting.{Costs}
use Rattle.c_grammar.proofs.Sure.{Sure}

-- what a body counts has the property Q
abbrev pub Counts : {A : Type 0} → Reads A → (A → Tokens → Meter → Type 0) → Tokens → Meter → Type 0
Counts {A} b Q ts m = Goes Meter counted Costs A b Q ts m

-- what a rule counts is as it costs
abbrev pub Cost : (r : Rule) → Type 0
Cost r = (ts : Tokens) (m : Meter) → Goes Meter counted Costs (Result r) (rule r) (Costs r ts m) ts m

from_some : Meter → Option Meter → Meter
from_some m (Some y) = y
from_some m None = m

taken : {A : Type 0} (Q : A → Tokens → Meter → Type 0) (m : Meter) (f : Name → Reads A) (us : Tokens) → ((n : Name) (vs : Tokens) → Counts (f n) Q vs m) → Sure Rule Result Meter counted Costs (take f) Q us m
taken Q m f [] h = tt
taken Q m f (t ∷ vs) h = (h t.lexeme vs).sure

module _ {A : Type 0} {Q : A → Tokens → Meter → Type 0} {ts : Tokens} {m : Meter} where
  -- nodes are counted
  pub pay : {n d : ℕ} {b : Reads A} → Counts b Q ts (added n d m) → Counts (spend n d b) Q ts m
  unfolding from_some
  pay {n} {d} {b} h = record { sure = λ y e. subst (λ z. Sure Rule Result Meter counted Costs b Q ts z) (ap (from_some m) e) h.sure }

  -- all lies one node deeper
  pub lift : {b : Reads A} → Counts b Q ts (raised m) → Counts (rise b) Q ts m
  unfolding from_some
  lift {b} h = record { sure = λ y e. subst (λ z. Sure Rule Result Meter counted Costs b Q ts z) (ap (from_some m) e) h.sure }

  -- a token is taken
  pub skips : {f : Name → Reads A} → ((n : Name) (us : Tokens) → Counts (f n) Q us m) → Counts (take f) Q ts m
  skips {f} h = record { sure = taken Q m f ts h }

  -- a token of some kind is taken
  pub wants : (e : Kind) {f : Reads A} → ((us : Tokens) → Counts f Q us m) → Counts (expect e f) Q ts m
  wants e h = go_look (λ j is. go_if (λ same. skips (λ n us. h us)) (λ other. go_stop))

  -- a name is taken, but for these
  pub names : (ns : List Name) {f : Name → Reads A} (e : Kind) → ((n : Name) (us : Tokens) → Counts (f n) Q us m) → Counts (named_by ns f e) Q ts m
  names ns k.Name h = skips (λ n us. go_if (λ among. go_stop) (λ other. h n us))
  names ns _ h = go_stop

  -- a name is taken
  pub a_name_taken : {types : List Name} {f : Name → Reads A} → ((n : Name) (us : Tokens) → Counts (f n) Q us m) → Counts (look types (named_by [] f)) Q ts m
  a_name_taken h = go_look (λ e is. names [] e h)
