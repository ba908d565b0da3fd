-- Small programs, written down as the ways that control goes: each from one position to the next, with what is done there.
use Rattle.std.specs.Prelude.{◌≡◌, ℕ, List, [], ◌∷◌, ◌++◌, length, Option, Some, None, Bool, true, false, cond, ◌&&◌, nat_eq, slice_get}
use Rattle.base_core.specs.declared.id.Pos.{Pos}
use Rattle.base_core.specs.declared.id.Phase.{Phase}
use Rattle.base_core.specs.declared.id.Phase.TheVariants.{Enter, In0, In1, Leave, Finish}
use Rattle.base_core.specs.declared.rules.Rule.{Rule}
use Rattle.base_core.specs.declared.rules.Rule.TheVariants.{U, S, E, F, A, M, R}
use Rattle.base_core.specs.declared.rules.Rules.{Rules}
use Rattle.posix_table.specs.declared.kind.Param.{Param}
use Rattle.posix_table.specs.declared.kind.ResultKind.{ResultKind}
use Rattle.posix_table.specs.declared.kind.Effect.{Effect}
use Rattle.c_arithmetic.specs.Types.{int}
use Rattle.run_model.specs.Kinds.{Kind, Void, Number}
use Rattle.run_model.specs.Code.{Guard, Edge, Place, Action, Pass, CallOf, NoCall, LibraryCall, Function, VariableInfo, Static, Code}
use Rattle.run_model.specs.World.{World}
use Rattle.run_model.specs.ProcessSteps.{Label}
use Rattle.run_model.specs.Runs.{Run, IsRun}
use Rattle.run_model.specs.Breaches.{breaks}

-- ---- programs

pub record Way : Type 0 where
  pub from : Pos
  pub guard : Guard
  pub does : Action
  pub to : Pos

-- what an outline says of a node
pub record Said (A : Type 0) : Type 0 where
  pub node : ℕ
  pub what : A

abbrev pub said : {A : Type 0} → ℕ → A → Said A
said n a = record { node = n; what = a }

pub record Outline : Type 0 where
  pub ways : List Way
  pub kinds : List (Said Kind)
  pub places : List (Said Place)
  pub calls : List (Said CallOf)
  pub functions : List Function
  pub variables : List VariableInfo
  pub statics : List Static
  pub fork_unsafe : Bool

abbrev pub same_phase : Phase → Phase → Bool
same_phase Enter Enter = true
same_phase In0 In0 = true
same_phase In1 In1 = true
same_phase Leave Leave = true
same_phase Finish Finish = true
same_phase _ _ = false

abbrev pub same_pos : Pos → Pos → Bool
same_pos p q = nat_eq p.node.0 q.node.0 && same_phase p.phase q.phase

abbrev pub edges_from : List Way → Pos → List Edge
edges_from [] p = []
edges_from (w ∷ ws) p = cond (same_pos w.from p) (record { to = w.to; guard = w.guard } ∷ edges_from ws p) (edges_from ws p)

abbrev pub done_between : List Way → Pos → Pos → Action
done_between [] p q = Pass
done_between (w ∷ ws) p q = cond (same_pos w.from p && same_pos w.to q) w.does (done_between ws p q)

abbrev pub about : {A : Type 0} → A → List (Said A) → ℕ → A
about a [] n = a
about a (s ∷ ss) n = cond (nat_eq s.node n) s.what (about a ss n)

abbrev pub about_place : List (Said Place) → ℕ → Option Place
about_place [] n = None
about_place (s ∷ ss) n = cond (nat_eq s.node n) (Some s.what) (about_place ss n)

abbrev pub no_variable : VariableInfo
no_variable = record { kind = Number int; constant = false; flag = false }

abbrev pub variable_or : Option VariableInfo → VariableInfo
variable_or None = no_variable
variable_or (Some v) = v

-- the program: its function 0 is main, its nodes are ints where nothing else is said, and values are kept everywhere
abbrev pub program : Outline → Code
program o = record {
  has = λ f p. true;
  next = edges_from o.ways;
  action = done_between o.ways;
  kind = about (Number int) (said 0 Void ∷ o.kinds);
  place = about_place o.places;
  pending = λ n p. true;
  call = about NoCall o.calls;
  functions = o.functions;
  main = 0;
  matches = λ n f. true;
  variable = λ v. variable_or (slice_get o.variables v);
  statics = o.statics;
  fork_unsafe = o.fork_unsafe;
}

-- a call of a library function with this row
abbrev pub library : List ℕ → (is_safe : Bool) → List Param → ResultKind → Effect → List ℕ → LibraryCall
library name is_safe letters result effect args = record {
  row = record { name = name; safe = is_safe; fewest = length letters; most = Some (length letters); parameters = letters; result = result; effect = effect };
  number = 0;
  letters = letters;
  args = args;
}

-- ---- runs

abbrev pub if_broken : Bool → Rule → List Rule
if_broken true r = r ∷ []
if_broken false r = []

-- the rules that a step breaks
abbrev pub broken : Code → Rules → Label → List Rule
broken code rules l =
    if_broken (breaks code rules l U) U ++ if_broken (breaks code rules l S) S ++ if_broken (breaks code rules l E) E ++ if_broken (breaks code rules l F) F
    ++ if_broken (breaks code rules l A) A ++ if_broken (breaks code rules l M) M ++ if_broken (breaks code rules l R) R

-- those that the steps of a run break, one after the other
abbrev pub all_broken : Code → Rules → Run → List Rule
all_broken code rules [] = []
all_broken code rules (s ∷ ss) = broken code rules s.0 ++ all_broken code rules ss

-- the program has a run of so many steps, which break exactly these rules
pub record HasRun (o : Outline) (rules : Rules) (steps : ℕ) (rs : List Rule) : Type 0 where
  pub first : World
  pub run : Run
  pub is : IsRun (program o) first run
  pub long : length run ≡ steps
  pub breaks : all_broken (program o) rules run ≡ rs
