-- What is read within the limits is counted within them: what each rule keeps, and the steps of showing it.
use Rattle.std.proofs.Common.{◌≡◌, ℕ, ◌+◌, ◌≤◌, Bool, true, false, List, [], ◌∷◌, Some, arith, subst}
use Rattle.std.proofs.lemmas.Option.{cond_some}
use Rattle.c_tree.specs.Tree.{Name, no_specifiers, specifiers}
use Rattle.c_tree.specs.TypeWords.{is_one_type, has_tag}
use Rattle.c_tree.specs.Marks.{Tokens}
use Rattle.c_grammar.specs.declared.kind.Kind.{Kind}
use Rattle.c_grammar.specs.declared.kind.Kind.TheVariants as k
use Rattle.c_grammar.specs.Body.{look, take, spend, rise}
use Rattle.c_grammar.specs.Gauge.{Meter, limited, added, raised, entered, left, within, fits}
use Rattle.c_grammar.specs.Rules.{Rule, Result, Reads, rule, expect, named_by, naming, an_expression, a_whole, a_prefix, an_opened, a_type, all_specifiers, a_struct, an_enum, all_members, all_declarators, a_declarator, all_parameters, some_parameters, more_parameters, a_parameter, a_bare, a_named}
use Rattle.c_grammar.proofs.Conditions.{Goes, Property, go_stop, go_look, go_if, go_spend, go_rise}
use Rattle.c_grammar.proofs.Limits.{Fits, fits-Fits}
use Rattle.c_grammar.proofs.Sure.{Sure}

-- A rule that begins a scope keeps within the limits if the depth that it is given is within them. The name that has to follow
-- a type without a struct or an enum was counted with its first word.
abbrev pub Stays : Property Meter
Stays (an_expression t d l o) ts m v us n = (d + 1 ≤ 1000) × (m.peak ≤ 1000 → Fits n)
Stays (a_whole t d l o) ts m v us n = (d + 1 ≤ 1000) × Fits n
Stays (a_prefix t d l o) ts m v us n = (d + 1 ≤ 1000) × Fits n
Stays (an_opened t d) ts m v us n = m.peak ≤ d + 1 → Fits n
Stays (a_type t d) ts m v us n = d ≤ 1000 → Fits m → Fits n
Stays (all_specifiers t d b ws) ts m v us n = (Fits m → Fits n) × (b ≡ true → is_one_type ws ≡ false → has_tag v ≡ false → d + 1 ≤ 1000)
Stays (a_struct t d) ts m v us n = (Fits m → Fits n) × (has_tag (specifiers v no_specifiers) ≡ true)
Stays (an_enum t d) ts m v us n = (Fits m → Fits n) × (has_tag (specifiers v no_specifiers) ≡ true)
Stays (all_members t d) ts m v us n = d + 1 ≤ 1000 → Fits m → Fits n
Stays (all_declarators t d) ts m v us n = d + 1 ≤ 1000 → Fits m → Fits n
Stays (a_declarator t d f y) ts m v us n = d ≤ 1000 → Fits m → Fits n
Stays (all_parameters t d) ts m v us n = d ≤ 1000 → Fits m → Fits n
Stays (some_parameters t d) ts m v us n = d ≤ 1000 → Fits m → Fits n
Stays (more_parameters t d) ts m v us n = d ≤ 1000 → Fits m → Fits n
Stays (a_parameter t d) ts m v us n = d ≤ 1000 → Fits m → Fits n
Stays (a_bare t d) ts m v us n = d ≤ 1000 → Fits m → Fits n
Stays (a_named t d) ts m v us n = d + 1 ≤ 1000 → Fits m → Fits n
Stays _ ts m v us n = Fits m → Fits n

-- what a body reads has the property Q
abbrev pub Safe : {A : Type 0} → Reads A → (A → Tokens → Meter → Type 0) → Tokens → Meter → Type 0
Safe {A} b Q ts m = Goes Meter limited Stays A b Q ts m

-- what a rule reads is as it keeps
abbrev pub Kept : (r : Rule) → Type 0
Kept r = (ts : Tokens) (m : Meter) → Goes Meter limited Stays (Result r) (rule r) (Stays r ts m) ts m

within_fits : (m y : Meter) → within m ≡ Some y → Fits m × (m ≡ y)
within_fits m y e =
    let h = cond_some (fits m) m y e in
    (fits-Fits m h.0, h.1)

-- behind a scope
pub fits-left : (m y : Meter) → m.peak ≤ 1000 → Fits y → Fits (left m y)
fits-left m y h f = record { made = f.made; peak = omega (arith, f.peak, h) }

pub fits-entered : (n : ℕ) (m : Meter) → n ≤ 1000 → Fits m → Fits (entered n m)
fits-entered n m h f = record { made = f.made; peak = h }

taken : {A : Type 0} (Q : A → Tokens → Meter → Type 0) (m : Meter) (f : Name → Reads A) (us : Tokens) → ((n : Name) (vs : Tokens) → Safe (f n) Q vs m) → Sure Rule Result Meter limited Stays (take f) Q us m
taken Q m f [] h = tt
taken Q m f (t ∷ vs) h = (h t.lexeme vs).sure

module _ {A : Type 0} {Q : A → Tokens → Meter → Type 0} {ts : Tokens} {m : Meter} where
  -- nodes are counted
  pub pays : {n d : ℕ} {b : Reads A} → ((y : Meter) → d ≤ 1000 → Fits y → Safe b Q ts y) → Safe (spend n d b) Q ts m
  pays {n} {d} {b} h = go_spend (λ y e. let f = within_fits (added n d m) y e in let peak = f.0.peak in h y (omega arith) (subst Fits f.1 f.0))

  -- a name is perhaps counted that has to follow
  pub pays_name : (b : Bool) (d : ℕ) {f : Reads A} → ((y : Meter) → (b ≡ true → d + 1 ≤ 1000) → (Fits m → Fits y) → Safe f Q ts y) → Safe (naming b d f) Q ts m
  pays_name true d h = pays (λ y deep g. h y (λ e. deep) (λ f. g))
  pays_name false d h = h m (λ e. absurd cc) (λ f. f)

  -- all lies one node deeper
  pub lifts : {b : Reads A} → ((y : Meter) → Fits y → Safe b Q ts y) → Safe (rise b) Q ts m
  lifts {b} h = go_rise (λ y e. let f = within_fits (raised m) y e in h y (subst Fits f.1 f.0))

  -- a token is taken
  pub skips : {f : Name → Reads A} → ((n : Name) (us : Tokens) → Safe (f n) Q us m) → Safe (take f) Q ts m
  skips {f} h = record { sure = taken Q m f ts h }

  -- a token of some kind is taken
  pub wants : (e : Kind) {f : Reads A} → ((us : Tokens) → Safe f Q us m) → Safe (expect e f) Q ts m
  wants e h = go_look (λ j is. go_if (λ same. skips (λ n us. h us)) (λ other. go_stop))

  -- a name is taken, but for these
  pub names : (ns : List Name) {f : Name → Reads A} (e : Kind) → ((n : Name) (us : Tokens) → Safe (f n) Q us m) → Safe (named_by ns f e) Q ts m
  names ns k.Name h = skips (λ n us. go_if (λ among. go_stop) (λ other. h n us))
  names ns _ h = go_stop

  -- a name is taken
  pub a_name_taken : {types : List Name} {f : Name → Reads A} → ((n : Name) (us : Tokens) → Safe (f n) Q us m) → Safe (look types (named_by [] f)) Q ts m
  a_name_taken h = go_look (λ e is. names [] e h)
