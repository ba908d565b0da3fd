-- A function value that reads what nests.
use Rattle.std.specs.Prelude.{◌≡◌, ◌≤◌, ℕ, map, Result, Ok, Err}
use Rattle.std.specs.declared.alloc.Global.{Global}
use Rattle.std.specs.Borrow.{Bor}
use denote.Ref.{MutBor}
use Rattle.c_tree.specs.StatementView.{view_statement, statements_of}
use Rattle.c_grammar.specs.Body.{got}
use Rattle.c_grammar.specs.Input.{Input}
use Rattle.c_grammar.specs.Reading.{read}
use Rattle.c_grammar.specs.Rules.{NameEnvironment, a_statement, all_statements}
use Rattle.c_grammar.specs.declared.refusal.Refusal.{Refusal}
use Rattle.c_grammar.specs.Gives.{Fails}
use Rattle.statement_parser.specs.declared.reader.Nested.{Nested}
use Rattle.statement_parser.specs.declared.reader.Nested.TheVariants as n
use Rattle.statement_parser.specs.declared.reader.Found.{Found}
use Rattle.statement_parser.specs.declared.reader.Found.TheVariants as f

-- what was found is what nests
abbrev pub Finds : NameEnvironment → ℕ → Nested → Input → Result Found Refusal → Input → Type 0
Finds types d (n.Statement context owed) i (Ok (f.Statement x)) j = read (a_statement types d context owed) i ≡ got (view_statement x) j.rest j.meter
Finds types d (n.Block context) i (Ok (f.Block xs)) j = read (all_statements types d context) i ≡ got (statements_of (map view_statement xs)) j.rest j.meter
Finds types d (n.Statement context owed) i (Err e) j = Fails (read (a_statement types d context owed) i) e
Finds types d (n.Block context) i (Err e) j = Fails (read (all_statements types d context) i) e
Finds types d _ i (Ok _) j = ⊥

-- its depth and what it owes are counted in 32 bits
abbrev pub IsSmall : ℕ → Nested → Type 0
IsSmall d (n.Statement context owed) = (d ≤ 1000) × (owed ≤ 999)
IsSmall d (n.Block context) = d ≤ 1000

pub record Nests (budget : ℕ) (pre : Global → Bor NameEnvironment → MutBor Input → ℕ → ℕ → Nested → Type 0)
    (post : Global → Bor NameEnvironment → MutBor Input → ℕ → ℕ → Nested → Result Found Refusal → MutBor Input → Type 0) : Type 0 where
  pub callable : (alloc : Global) (types : Bor NameEnvironment) (old : MutBor Input) (d : ℕ) (x : Nested) → IsSmall d x → pre alloc types old budget d x
  pub finds : (alloc : Global) (types : Bor NameEnvironment) (old new : MutBor Input) (d : ℕ) (x : Nested) (r : Result Found Refusal) → post alloc types old budget d x r new
      → Finds types.now d x old.now r new.now
