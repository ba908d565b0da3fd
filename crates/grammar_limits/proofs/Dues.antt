-- What the rules of the grammar want and give, and the steps of their bodies.
use Rattle.std.proofs.Common.{ℕ, ◌+◌, ◌-◌, ◌≤◌, Bool, true, false, cond, List, []}
use Rattle.c_tree.specs.Tree.{Name}
use Rattle.c_grammar.specs.declared.kind.Kind.{Kind}
use Rattle.c_grammar.specs.declared.kind.Kind.TheVariants as k
use Rattle.c_grammar.specs.Kind.{same_kind}
use Rattle.c_tree.specs.TypeWords.{is_among}
use Rattle.c_grammar.specs.Body.{done, stop, look, take, spend, rise, call, strict, scope}
use Rattle.c_grammar.specs.Rules.{Rule, Result, Reads, rule, expect, named_by, naming}
use Rattle.c_grammar.specs.Rules as r
use Rattle.grammar_limits.proofs.Saving.{Dues, Saves, Saving}

abbrev pub owes : Rule → ℕ
owes (r.an_expression t d l o) = o
owes (r.a_whole t d l o) = o
owes (r.a_prefix t d l o) = o
owes (r.an_initializer t d o) = o
owes (r.all_initializers t d o) = o
owes (r.a_statement t d p o) = o + 1
owes _ = 0

abbrev pub wants : Rule → ℕ
wants (r.more_members t d) = 20
wants (r.a_declaration t d) = 20
wants (r.a_declared t d c) = 20
wants (r.a_start t d) = 30
wants (r.a_statement t d p o) = 30
wants (r.all_statements t d p) = 30
wants (r.an_item s) = 20
wants (r.all_items s) = 20
wants _ = 10

abbrev pub depth : Rule → ℕ
depth (r.an_expression t d l o) = d + 20
depth (r.a_whole t d l o) = d + 20
depth (r.a_prefix t d l o) = d + 20
depth (r.a_rest t d l x) = d + 20
depth (r.an_opened t d) = d + 21
depth r.more_texts = 20
depth (r.all_arguments t d) = d + 20
depth (r.more_arguments t d) = d + 20
depth (r.a_type t d) = d + 20
depth (r.all_specifiers t d b ws) = d + 20
depth (r.a_struct t d) = d + 20
depth (r.all_members t d) = d + 21
depth (r.more_members t d) = d + 21
depth (r.all_declarators t d) = d + 21
depth (r.more_declarators t d) = d + 20
depth (r.an_enum t d) = d + 20
depth (r.all_enumerators t d) = d + 20
depth (r.more_enumerators t d) = d + 20
depth r.all_stars = 20
depth r.all_quals = 20
depth (r.a_declarator t d f y) = d + 20
depth (r.all_sizes t d) = d + 20
depth (r.at_most_one_size t d) = d + 20
depth (r.all_parameters t d) = d + 20
depth (r.some_parameters t d) = d + 20
depth (r.more_parameters t d) = d + 20
depth (r.a_parameter t d) = d + 20
depth (r.a_bare t d) = d + 20
depth (r.an_initializer t d o) = d + 20
depth (r.all_initializers t d o) = d + 20
depth (r.more_initializers t d) = d + 20
depth (r.a_declaration t d) = d + 21
depth (r.a_declared t d c) = d + 21
depth (r.a_named t d) = d + 21
depth (r.more_named t d) = d + 20
depth (r.an_optional t d e) = d + 20
depth (r.a_start t d) = d + 22
depth (r.a_statement t d p o) = d + 22
depth (r.all_statements t d p) = d + 22
depth (r.an_outer c s) = 24
depth (r.more_outer c s) = 30
depth (r.a_first t) = 22
depth (r.an_item s) = 30
depth (r.all_items s) = 30

abbrev pub gain : Rule → ℕ
gain (r.all_members t d) = 50
gain (r.a_declaration t d) = 40
gain (r.a_declared t d c) = 40
gain (r.more_named t d) = 50
gain (r.more_outer c s) = 50
gain _ = 0

abbrev pub surplus : Rule → ℕ
surplus (r.a_first t) = 1
surplus _ = 0

abbrev pub dues : Dues Rule
dues = record { owes = owes; wants = wants; depth = depth; gain = gain; over = surplus }

-- what a body keeps, where nothing or so much is left too deep
pub record Safe {A : Type 0} (b : Reads A) (kept over u c s : ℕ) : Type 0 where
  pub is : Saves Rule Result dues b kept over u c s

module _ {A : Type 0} {kept over u c s : ℕ} where
  pub safe_done : {a : A} → kept ≤ c → s ≤ over → Safe (done a) kept over u c s
  safe_done h i = record { is = (h, i) }

  pub safe_stop : Safe {A = A} stop kept over u c s
  safe_stop = record { is = tt }

  pub safe_look : {types : List Name} {f : Kind → Reads A} → ((e : Kind) → Safe (f e) kept over u c s) → Safe (look types f) kept over u c s
  safe_look h = record { is = λ e. (h e).is }

  pub safe_take : {f : Name → Reads A} → ((n : Name) → Safe (f n) kept over (u + 1) (c + 100) (s - 1)) → Safe (take f) kept over u c s
  safe_take h = record { is = λ n. (h n).is }

  pub safe_spend : {n d : ℕ} {b : Reads A} → n ≤ c → d ≤ u → Safe b kept over u (c - n) s → Safe (spend n d b) kept over u c s
  safe_spend h i j = record { is = (h, i, j.is) }

  pub safe_rise : {b : Reads A} → s ≤ 0 → Safe b kept over u c 1 → Safe (rise b) kept over u c s
  safe_rise h i = record { is = (h, i.is) }

  pub safe_call : {q : Rule} {f : Result q → Reads A} → owes q ≤ 5 → wants q ≤ c → depth q ≤ u → s + surplus q ≤ over → ((v : Result q) → Safe (f v) kept over u (c + gain q) (s + surplus q)) → Safe (call q f) kept over u c s
  safe_call h i j l m = record { is = (h, i, j, l, λ v. (m v).is) }

  pub safe_strict : {q : Rule} {f : Result q → Reads A} → owes q ≤ 5 → wants q ≤ c → depth q ≤ u → s + surplus q ≤ over → ((v : Result q) → Safe (f v) kept over u (c + gain q) (s + surplus q)) → Safe (strict q f) kept over u c s
  safe_strict h i j l m = record { is = (h, i, j, l, λ v. (m v).is) }

  pub safe_scope : {n : ℕ} {q : Rule} {f : Result q → Reads A} → owes q ≤ 5 → wants q ≤ c → depth q + surplus q ≤ u → n + surplus q ≤ u → s ≤ 0 →
      ((v : Result q) → Safe (f v) kept over u (c + gain q) s) → Safe (scope n q f) kept over u c s
  safe_scope h i j l m n = record { is = (h, i, j, l, m, λ v. (n v).is) }

  pub safe_if : (b : Bool) {p q : Reads A} → Safe p kept over u c s → Safe q kept over u c s → Safe (cond b p q) kept over u c s
  safe_if true h i = h
  safe_if false h i = i

  pub safe_expect : (e : Kind) {b : Reads A} → Safe b kept over (u + 1) (c + 100) (s - 1) → Safe (expect e b) kept over u c s
  safe_expect e h = safe_look (λ j. safe_if (same_kind j e) (safe_take (λ n. h)) safe_stop)

module _ {A : Type 0} {kept over u c s : ℕ} where
  pub safe_named : (ns : List Name) {f : Name → Reads A} → ((n : Name) → Safe (f n) kept over (u + 1) (c + 100) (s - 1)) → (e : Kind) → Safe (named_by ns f e) kept over u c s
  safe_named ns h k.Name = safe_take (λ n. safe_if (is_among ns n) safe_stop (h n))
  safe_named ns h _ = safe_stop

  pub safe_name : {types : List Name} {f : Name → Reads A} → ((n : Name) → Safe (f n) kept over (u + 1) (c + 100) (s - 1)) → Safe (look types (named_by [] f)) kept over u c s
  safe_name h = safe_look (λ e. safe_named [] h e)

  -- where the next token makes a name necessary, or does not
  pub safe_naming : (b : Bool) (d : ℕ) {p : Reads A} → 1 ≤ c → d + 1 ≤ u → Safe p kept over u (c - 1) s → Safe p kept over u c s → Safe (naming b d p) kept over u c s
  safe_naming true d h i j l = safe_spend h i j
  safe_naming false d h i j l = l

-- a rule keeps to what is due
abbrev pub Due : Rule → Type 0
Due q = owes q ≤ 5 → Safe (rule q) (wants q + gain q) (surplus q) (depth q) (wants q) 0

pub due_saving : (q : Rule) → Due q → Saving Rule Result rule dues q
due_saving q h low = (h low).is
