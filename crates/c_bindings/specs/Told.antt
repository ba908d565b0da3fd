-- What is told of a node of a program, and the first node that breaks a rule.
use Rattle.std.specs.Prelude.{ℕ, suc, List, [], ◌∷◌, Option, Some, None, ℤ}
use Rattle.c_rules.specs.declared.misfit.MisfitKind.{MisfitKind}
use Rattle.c_rules.specs.Judgement.{Judgement, misfit}
use Rattle.c_bindings.specs.declared.binding.Binding.{Binding}

-- The judgement; what a name in an expression, a declared name or a parameter stands for; the value of a case or an enumerator.
pub record Told : Type 0 where
  pub judged : Judgement
  pub binding : Option Binding
  pub value : Option ℤ

-- of a node that is no name and has no value of its own
abbrev pub plainly : Judgement → Told
plainly j = record { judged = j; binding = None; value = None }

-- of a name
abbrev pub bound : Judgement → Option Binding → Told
bound j b = record { judged = j; binding = b; value = None }

-- of a case or an enumerator
abbrev pub of_value : Judgement → Option ℤ → Told
of_value j v = record { judged = j; binding = None; value = v }

-- ---- the first node that breaks a rule

-- one number further
abbrev pub one_further : Option (ℕ × MisfitKind) → Option (ℕ × MisfitKind)
one_further None = None
one_further (Some p) = Some (suc p.0, p.1)

-- at this node, or behind it
abbrev pub here_or : Option MisfitKind → Option (ℕ × MisfitKind) → Option (ℕ × MisfitKind)
here_or (Some m) o = Some (0, m)
here_or None o = one_further o

-- the first in the list that breaks a rule, by its number, and which
abbrev pub first_misfit : List Told → Option (ℕ × MisfitKind)
first_misfit [] = None
first_misfit (t ∷ ts) = here_or (misfit t.judged) (first_misfit ts)
