-- What holds of the rows of a program.
use Rattle.std.specs.Prelude.{◌≡◌, ◌<◌, ℕ, List, [], ◌∷◌, true, false, All}
use Rattle.base_core.specs.declared.id.Pos.{Pos}
use Rattle.flow_form.specs.declared.edge.Edge.{Edge}
use Rattle.c_tree.specs.Tree.{FunctionTree}
use Rattle.flow_form.specs.Pending.{is_pending}
use Rattle.flow_form.specs.Positions.{Ways, enter}
use Rattle.flow_form.specs.Statements.{function_ways}
use Rattle.flow_form.specs.Table.{next, has}
use Rattle.flow_form.specs.Typing.{Typing}

abbrev pub IsBelow : Edge → List Edge → Type 0
IsBelow e [] = Unit {0}
IsBelow e (f ∷ fs) = e.to.node.0 < f.to.node.0

-- the edges lead to nodes with growing numbers
abbrev pub IsOrdered : List Edge → Type 0
IsOrdered [] = Unit {0}
IsOrdered (e ∷ es) = IsBelow e es × IsOrdered es

-- the edges of each position stand in order of the positions to which they lead
abbrev pub IsInOrder : List Ways → Type 0
IsInOrder rows = (p : Pos) → IsOrdered (next rows p)

-- each edge leads to a position that is there
abbrev pub IsClosed : List Ways → Type 0
IsClosed rows = (p : Pos) → All (λ e. has rows e.to ≡ true) (next rows p)

-- no value is pending at the Enter of a node that comes before its own: so no value of a function at the function's Enter
abbrev pub IsLate : Typing → List Ways → Type 0
IsLate t rows = (n f : ℕ) → f < n → is_pending t rows n (enter f) ≡ false

-- each edge of a function leads to a position of that function
abbrev pub EdgesStay : Type 0
EdgesStay = (t : Typing) (n : ℕ) (f : FunctionTree) → IsClosed (function_ways t n f)
