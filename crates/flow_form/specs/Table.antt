-- The ways on from a position, by its number: the positions are numbered node by node, and phase by phase.
use Rattle.std.specs.Prelude.{◌≡◌, ℕ, ◌+◌, ◌*◌, List, [], ◌∷◌, Option, Some, None, Bool, is_some, nat_eq, slice_get, if◌then◌else◌}
use Rattle.base_core.specs.declared.id.Pos.{Pos}
use Rattle.base_core.specs.declared.id.Phase.{Phase}
use Rattle.base_core.specs.declared.id.Phase.TheVariants.{Enter, In0, In1, Leave, Finish}
use Rattle.flow_form.specs.declared.edge.Edge.{Edge}
use Rattle.flow_form.specs.Positions.{Ways}

abbrev pub phase_number : Phase → ℕ
phase_number Enter = 0
phase_number In0 = 1
phase_number In1 = 2
phase_number Leave = 3
phase_number Finish = 4

abbrev pub number : Pos → ℕ
number p = 5 * p.node.0 + phase_number p.phase

abbrev pub hit : ℕ → Ways → Option Ways
hit k r = if nat_eq (number r.source.at) k then Some r else None

abbrev pub or_else : Option Ways → Option Ways → Option Ways
or_else (Some r) other = Some r
or_else None other = other

-- the row of the position of this number, if it is there
abbrev pub found : ℕ → List Ways → Option Ways
found k [] = None
found k (r ∷ rs) = or_else (found k rs) (hit k r)

abbrev pub edges : Option Ways → List Edge
edges None = []
edges (Some r) = r.next

-- the edges of a position, none where it is not there
abbrev pub next : List Ways → Pos → List Edge
next rs p = edges (found (number p) rs)

-- the position is there
abbrev pub has : List Ways → Pos → Bool
has rs p = is_some (found (number p) rs)

-- an index has the place of the row of each number's position
abbrev pub pick : Option (Option ℕ) → List Ways → Option Ways
pick None rs = None
pick (Some None) rs = None
pick (Some (Some j)) rs = slice_get rs j

abbrev pub IsIndex : List (Option ℕ) → List Ways → Type 0
IsIndex index rs = (k : ℕ) → pick (slice_get index k) rs ≡ found k rs
