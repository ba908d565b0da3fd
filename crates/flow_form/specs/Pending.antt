-- Which values are pending: evaluated, and not yet used. They are read off the rows: the row of a node's Leave tells which node
-- uses its value.
use Rattle.std.specs.Prelude.{ℕ, ◌+◌, List, Option, Some, None, Bool, true, false, not, ◌&&◌, ◌||◌, nat_eq, nat_lt}
use Rattle.base_core.specs.declared.id.Pos.{Pos}
use Rattle.base_core.specs.declared.id.Phase.{Phase}
use Rattle.base_core.specs.declared.id.Phase.TheVariants.{In0, In1, Leave}
use Rattle.flow_form.specs.declared.edge.Use.{Use}
use Rattle.flow_form.specs.declared.meaning.Call.{Call}
use Rattle.flow_form.specs.declared.meaning.Call.TheVariants.{Waits}
use Rattle.flow_form.specs.Positions.{Ways, leave}
use Rattle.flow_form.specs.Table.{number, found, has}
use Rattle.flow_form.specs.Typing.{Typing}

abbrev pub is_leave : Phase → Bool
is_leave Leave = true
is_leave _ = false

abbrev pub is_in_call : Phase → Bool
is_in_call In0 = true
is_in_call In1 = true
is_in_call _ = false

-- the row of the Leave of n
abbrev pub leave_row : List Ways → ℕ → Option Ways
leave_row rows n = found (number (leave n)) rows

-- the number behind the node of a Leave
abbrev pub past_of : Option Ways → ℕ
past_of None = 0
past_of (Some r) = r.source.past

-- p is at a part of the user behind the number b, which comes behind the node of the value
abbrev pub at_later : List Ways → Use → (b : ℕ) → Pos → Bool
at_later rows u b p = u.later && (not (nat_lt p.node.0 b) && nat_lt p.node.0 (past_of (leave_row rows u.user)))

-- a used value waits at its node's own Leave, where later parts of its user are evaluated, and where the user is a call, in the call
abbrev pub waits : List Ways → Option Use → (n b : ℕ) → Pos → Bool
waits rows None n b p = false
waits rows (Some u) n b p = (is_leave p.phase && nat_eq p.node.0 n) || (at_later rows u b p || (is_in_call p.phase && nat_eq p.node.0 u.user))

abbrev pub is_awaited_in : List Ways → Option Ways → ℕ → Pos → Bool
is_awaited_in rows None n p = false
is_awaited_in rows (Some r) n p = waits rows r.source.used n r.source.past p

-- the value of n waits at p for the node that uses it
abbrev pub is_awaited : List Ways → ℕ → Pos → Bool
is_awaited rows n p = is_awaited_in rows (leave_row rows n) n p

abbrev pub is_number : Option ℕ → ℕ → Bool
is_number None n = false
is_number (Some f) n = nat_eq f n

abbrev pub gives_in : Option Ways → ℕ → Bool
gives_in None n = false
gives_in (Some r) n = is_number r.source.gives n

-- n is a function that has its result at p: the Leave of a return with an operand, or its own
abbrev pub is_given : List Ways → ℕ → Pos → Bool
is_given rows n p = gives_in (found (number p) rows) n

abbrev pub is_waiting : Call → Bool
is_waiting Waits = true
is_waiting _ = false

abbrev pub in_own_call : Phase → Call → Bool
in_own_call In0 c = is_waiting c
in_own_call In1 c = true
in_own_call _ c = false

-- the value of n is pending at p. A call n has its callee next, n + 1: one that waits holds the old signal mask at its In0, one that
-- copies the process its result at its In1
abbrev pub is_pending : Typing → List Ways → ℕ → Pos → Bool
is_pending t rows n p = has rows p && (is_awaited rows n p || (is_given rows n p || (nat_eq p.node.0 n && in_own_call p.phase (t.call (n + 1)))))

abbrev pub reads_in : Option Ways → Bool
reads_in None = false
reads_in (Some r) = r.source.reads

-- n is an evaluated expression that is read
abbrev pub is_read : List Ways → ℕ → Bool
is_read rows n = reads_in (leave_row rows n)
