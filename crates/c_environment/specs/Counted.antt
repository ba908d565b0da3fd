-- Names that are numbered one after the other.
use Rattle.std.specs.Prelude.{ℕ, suc, List, [], ◌∷◌}
use Rattle.c_scopes.specs.Scope.{Name, Scope, declare}
use Rattle.c_tree.specs.Tree.{ItemTree, function_item, declaration_item}
use Rattle.c_environment.specs.Start.{defined_names}
use Rattle.c_environment.specs.declared.unit.Numbering.{Numbering}

-- the next number, and the names
abbrev pub Count : Type 0
Count = ℕ × Scope

abbrev pub seen_numbering : Numbering → Count
seen_numbering x = (x.next, x.names)

-- with these names besides
abbrev pub counted : Count → List Name → Count
counted p [] = p
counted p (n ∷ ns) = counted (suc p.0, declare n p.0 p.1) ns

-- the objects that an item defines
abbrev pub item_objects : ItemTree → List Name
item_objects (function_item f) = []
item_objects (declaration_item d) = defined_names d.storage d.names
