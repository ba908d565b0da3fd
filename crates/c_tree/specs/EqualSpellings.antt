-- The law that a program's tokens determine it.
use Rattle.std.specs.Prelude.{◌≡◌, List}
use Rattle.c_tree.specs.Tree.{ItemTree}
use Rattle.c_tree.specs.Spelling.{spell}
use Rattle.c_tree.specs.Shape.{Shape}

-- two programs of that shape with equal spelling are equal
abbrev pub EqualSpellingsAreEqualTrees : Type 0
EqualSpellingsAreEqualTrees = (a b : List ItemTree) → Shape a → Shape b → spell a ≡ spell b → a ≡ b
