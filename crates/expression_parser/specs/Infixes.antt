-- What an expression goes on with.
use Rattle.std.specs.Prelude.{ℕ, Option, None, if◌then◌else◌}
use Rattle.c_grammar.specs.Rules.{goes_on}
use Rattle.c_grammar.specs.declared.infix.Infix.{Infix}

-- what an expression of at least a level goes on with behind one of that level
abbrev pub goes_on_with : ℕ → Option Infix → ℕ → Option Infix
goes_on_with least x l = if goes_on least x l then x else None
