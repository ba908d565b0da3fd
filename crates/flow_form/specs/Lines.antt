-- Where a position stands in the text, and which library function is called there.
use Rattle.std.specs.Prelude.{ℕ, ◌+◌, List, Option, None, Bool, true, false, ◌&&◌, ◌||◌, slice_get, option_map, if◌then◌else◌}
use Rattle.base_core.specs.declared.id.Pos.{Pos}
use Rattle.base_core.specs.declared.id.Phase.{Phase}
use Rattle.base_core.specs.declared.id.Phase.TheVariants.{Finish}
use Rattle.base_core.specs.declared.place.Place.{Place}
use Rattle.c_tree.specs.ProgramTree.{ProgramTree, close_at}
use Rattle.posix_table.specs.declared.row.Row.{Row}
use Rattle.flow_form.specs.declared.meaning.Callee.{Callee}
use Rattle.flow_form.specs.declared.meaning.Callee.TheVariants as callee
use Rattle.flow_form.specs.declared.meaning.Meaning.{Meaning}
use Rattle.flow_form.specs.Positions.{Ways, in0, otherwise}
use Rattle.flow_form.specs.Pending.{is_given}
use Rattle.flow_form.specs.Table.{has}
use Rattle.flow_form.specs.Typing.{callee_at}

abbrev pub is_finish : Phase → Bool
is_finish Finish = true
is_finish _ = false

-- the end of a function: its own Leave, and for main the Finish
abbrev pub is_end : List Ways → Pos → Bool
is_end rows p = is_given rows p.node.0 p || is_finish p.phase

-- the first token of a node, and for the end of a function its closing brace
abbrev pub place_at : ProgramTree → ℕ → (is_end : Bool) → Place
place_at program n true = otherwise (otherwise program.end (slice_get program.places n)) (close_at program n)
place_at program n false = otherwise program.end (slice_get program.places n)

-- the place of a position; for one that the program lacks the end of the text
abbrev pub line_at : ProgramTree → List Ways → Pos → Place
line_at program rows p = if has rows p then place_at program p.node.0 (is_end rows p) else program.end

abbrev pub row_name : Callee → List Row → Option (List ℕ)
row_name (callee.Library k) rows = option_map (λ r. r.name) (slice_get rows k)
row_name _ rows = None

-- the library function that is called by its plain name where p is a position of the call: a node with an In0 is a call, whose callee
-- is the next node
abbrev pub called_at : Meaning → List Ways → Pos → Option (List ℕ)
called_at m rows p = if has rows p && has rows (in0 p.node.0) then row_name (callee_at m.names.now (p.node.0 + 1)) m.table.now else None
