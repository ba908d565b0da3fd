-- A function value that reads the initialisers inside others.
use Rattle.std.specs.Prelude.{◌≤◌, ℕ, Result}
use Rattle.std.specs.declared.alloc.Global.{Global}
use Rattle.std.specs.Borrow.{Bor}
use denote.Ref.{MutBor}
use Rattle.c_tree.specs.declared.tree.Init.{Init}
use Rattle.c_tree.specs.StatementView.{view_init}
use Rattle.c_grammar.specs.Input.{Input}
use Rattle.c_grammar.specs.Reading.{read}
use Rattle.c_grammar.specs.Rules.{NameEnvironment, an_initializer}
use Rattle.c_grammar.specs.declared.refusal.Refusal.{Refusal}
use Rattle.c_grammar.specs.Gives.{Gives}

pub record InitNests (budget : ℕ) (pre : Global → Bor NameEnvironment → MutBor Input → ℕ → ℕ → ℕ → Type 0)
    (post : Global → Bor NameEnvironment → MutBor Input → ℕ → ℕ → ℕ → Result Init Refusal → MutBor Input → Type 0) : Type 0 where
  pub callable : (alloc : Global) (types : Bor NameEnvironment) (old : MutBor Input) (d owed : ℕ) → d ≤ 1001 → owed ≤ 1000 → pre alloc types old budget d owed
  pub finds : (alloc : Global) (types : Bor NameEnvironment) (old new : MutBor Input) (d owed : ℕ) (r : Result Init Refusal) → post alloc types old budget d owed r new
      → Gives view_init (read (an_initializer types.now d owed) old.now) r new.now
