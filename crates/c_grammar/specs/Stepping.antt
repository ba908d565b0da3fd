-- What the steps of a rule ensure of the input before and behind them.
use Rattle.std.specs.Prelude.{◌≡◌, ◌≤◌, ℕ, [], length, Some, None, Result, Ok, Err, true, false}
use Rattle.base_core.specs.Limits.{most_depth}
use Rattle.c_tree.specs.Tree.{Name}
use Rattle.c_grammar.specs.declared.kind.Kind.{Kind}
use Rattle.c_grammar.specs.Kind.{kind, same_kind, head_text}
use Rattle.c_grammar.specs.Gauge.{added, raised, within}
use Rattle.c_grammar.specs.Input.{Input, next}
use Rattle.c_grammar.specs.declared.refusal.Refusal.{Refusal}
use Rattle.c_grammar.specs.declared.refusal.Refusal.TheVariants.{Syntax, Large, NoMemory}

-- nodes were added
pub record Spent (n d : ℕ) (i j : Input) : Type 0 where
  pub same : j.rest ≡ i.rest
  pub paid : within (added n d i.meter) ≡ Some j.meter
  pub small : d ≤ most_depth

-- they pass a limit
pub record Unspent (n d : ℕ) (i : Input) (e : Refusal) : Type 0 where
  pub unpaid : within (added n d i.meter) ≡ None
  pub large : e ≡ Large (length i.rest)

abbrev pub Spends : ℕ → ℕ → Input → Result (Unit {0}) Refusal → Input → Type 0
Spends n d i (Ok u) j = Spent n d i j
Spends n d i (Err e) j = Unspent n d i e

-- all in the scope lies one node deeper
pub record Raised (i j : Input) : Type 0 where
  pub same : j.rest ≡ i.rest
  pub paid : within (raised i.meter) ≡ Some j.meter

pub record Unraised (i : Input) (e : Refusal) : Type 0 where
  pub unpaid : within (raised i.meter) ≡ None
  pub large : e ≡ Large (length i.rest)

abbrev pub Raises : Input → Result (Unit {0}) Refusal → Input → Type 0
Raises i (Ok u) j = Raised i j
Raises i (Err e) j = Unraised i e

-- a token of this kind was taken
pub record Met (k : Kind) (i j : Input) : Type 0 where
  pub is : same_kind (kind [] i.rest) k ≡ true
  pub behind : j ≡ next i

pub record Unmet (k : Kind) (i : Input) (e : Refusal) : Type 0 where
  pub other : same_kind (kind [] i.rest) k ≡ false
  pub syntax : e ≡ Syntax (length i.rest)

abbrev pub Expects : Kind → Input → Result (Unit {0}) Refusal → Input → Type 0
Expects k i (Ok u) j = Met k i j
Expects k i (Err e) j = Unmet k i e

-- the text of a token, which was taken
pub record Taken (i : Input) (n : Name) (j : Input) : Type 0 where
  pub text : n ≡ head_text i.rest
  pub behind : j ≡ next i

abbrev pub Takes : Input → Result Name Refusal → Input → Type 0
Takes i (Ok n) j = Taken i n j
Takes i (Err e) j = e ≡ NoMemory
