-- A function value that reads what nests.
use Rattle.std.specs.Prelude.{◌≡◌, ◌≤◌, ℕ, map, Result, Ok, Err}
use Rattle.std.specs.declared.alloc.Global.{Global}
use Rattle.std.specs.Borrow.{Bor}
use denote.Ref.{MutBor}
use Rattle.c_tree.specs.View.{view_expression, view_type, view_member, view_parameters, members_of}
use Rattle.c_grammar.specs.Body.{got}
use Rattle.c_grammar.specs.Input.{Input}
use Rattle.c_grammar.specs.Reading.{read}
use Rattle.c_grammar.specs.Rules.{NameEnvironment, an_expression, a_type, all_members, all_parameters}
use Rattle.c_grammar.specs.declared.refusal.Refusal.{Refusal}
use Rattle.expression_parser.specs.declared.grammar.Nested.{Nested}
use Rattle.expression_parser.specs.declared.grammar.Nested.TheVariants as n
use Rattle.expression_parser.specs.declared.grammar.Found.{Found}
use Rattle.expression_parser.specs.declared.grammar.Found.TheVariants as f
use Rattle.c_grammar.specs.Gives.{Fails}

-- what was found is what nests
abbrev pub Finds : NameEnvironment → ℕ → Nested → Input → Result Found Refusal → Input → Type 0
Finds types d (n.Expression least owed) i (Ok (f.Expression x)) j = read (an_expression types d least owed) i ≡ got (view_expression x) j.rest j.meter
Finds types d n.TypeName i (Ok (f.TypeName y)) j = read (a_type types d) i ≡ got (view_type y) j.rest j.meter
Finds types d n.Members i (Ok (f.Members ms)) j = read (all_members types d) i ≡ got (members_of (map view_member ms)) j.rest j.meter
Finds types d n.Parameters i (Ok (f.Parameters ps)) j = read (all_parameters types d) i ≡ got (view_parameters ps) j.rest j.meter
Finds types d (n.Expression least owed) i (Err e) j = Fails (read (an_expression types d least owed) i) e
Finds types d n.TypeName i (Err e) j = Fails (read (a_type types d) i) e
Finds types d n.Members i (Err e) j = Fails (read (all_members types d) i) e
Finds types d n.Parameters i (Err e) j = Fails (read (all_parameters types d) i) e
Finds types d _ i (Ok _) j = ⊥

-- its depth and what it owes are counted in 32 bits
abbrev pub IsSmall : ℕ → Nested → Type 0
IsSmall d (n.Expression least owed) = (d ≤ 1001) × (owed ≤ 1000)
IsSmall d _ = d ≤ 1001

pub record Nests (budget : ℕ) (pre : Global → Bor NameEnvironment → MutBor Input → ℕ → ℕ → Nested → Type 0)
    (post : Global → Bor NameEnvironment → MutBor Input → ℕ → ℕ → Nested → Result Found Refusal → MutBor Input → Type 0) : Type 0 where
  pub callable : (alloc : Global) (types : Bor NameEnvironment) (old : MutBor Input) (d : ℕ) (x : Nested) → IsSmall d x → pre alloc types old budget d x
  pub finds : (alloc : Global) (types : Bor NameEnvironment) (old new : MutBor Input) (d : ℕ) (x : Nested) (r : Result Found Refusal) → post alloc types old budget d x r new
      → Finds types.now d x old.now r new.now
