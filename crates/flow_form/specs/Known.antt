-- The labels of a function, found by their names.
use Rattle.std.specs.Prelude.{◌≡◌, ℕ, List, Option, option_map, bytes_eq}
use Rattle.std.specs.Borrow.{Bor}
use Rattle.std.specs.HashMap.{HashMap, get_by}
use Rattle.base_core.specs.declared.id.Pos.{Pos}
use Rattle.c_tree.specs.Tree.{Name}
use Rattle.flow_form.specs.declared.targets.Label.{Label}
use Rattle.flow_form.specs.Positions.{enter}
use Rattle.flow_form.specs.Statements.{label}

abbrev pub label_of : Label → Name × ℕ
label_of l = (l.name.now, l.node)

-- the Enter of the label that a table has by this name
abbrev pub known_label : {S : Type 0} → HashMap (Bor (List ℕ)) ℕ S → Name → Option Pos
known_label known m = option_map enter (get_by (λ k. bytes_eq m k.now) known)

-- a table has the labels of a list
abbrev pub AreKnown : {S : Type 0} → HashMap (Bor (List ℕ)) ℕ S → List (Name × ℕ) → Type 0
AreKnown known ls = (m : Name) → known_label known m ≡ label m ls
