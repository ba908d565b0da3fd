-- What is said of a small program.
use Rattle.std.specs.Prelude.{◌≡◌, ℕ, List, Some, None, map}
use Rattle.posix_table.specs.Profile.{profile_rows}
use Rattle.c_tree.specs.Tree.{Name, ItemTree}
use Rattle.c_rules.specs.declared.misfit.MisfitKind.{MisfitKind}
use Rattle.c_judged.specs.Program.{program_misfit}

-- the names of the library functions
abbrev names : List Name
names = map (λ row. row.name) profile_rows

-- no node breaks a rule
abbrev pub Fits : List ItemTree → Type 0
Fits items = program_misfit names profile_rows items ≡ None

-- the node of this number, in preorder from 0, is the first that breaks a rule, and breaks this one
abbrev pub Breaks : ℕ → MisfitKind → List ItemTree → Type 0
Breaks at m items = program_misfit names profile_rows items ≡ Some (at, m)
