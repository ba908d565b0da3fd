-- For tests by computation: what the definitions give for a program, over all of its positions.
use Rattle.std.proofs.Common.{ℕ, zero, suc, ◌+◌, List, [], ◌∷◌, Option, Some, None, Bool, false, map, filter, slice_get}
use Rattle.std.specs.Prelude.{◌&&◌, ◌||◌, nat_eq}
use Rattle.c_tree.specs.Tree.{ItemTree}
use Rattle.c_tree.specs.Nodes.{Node, program_node, nodes}
use Rattle.base_core.specs.declared.id.Pos.{Pos}
use Rattle.flow_form.specs.declared.edge.Edge.{Edge}
use Rattle.flow_form.specs.Action.{Action, action}
use Rattle.flow_form.specs.Pending.{is_awaited_in, is_number, in_own_call, leave_row, is_read}
use Rattle.flow_form.specs.Positions.{Ways, enter, in0, in1, leave, finish, otherwise}
use Rattle.flow_form.specs.Table.{number, found, next, has}
use Rattle.flow_form.specs.Typing.{Typing}

abbrev pub at_list : {A : Type 0} → A → List A → ℕ → A
at_list a xs n = otherwise a (slice_get xs n)

abbrev pub flag_at : List Bool → ℕ → Bool
flag_at bs n = at_list false bs n

-- the numbers from n on, as many as this
abbrev pub numbers_from : ℕ → ℕ → List ℕ
numbers_from n zero = []
numbers_from n (suc many) = n ∷ numbers_from (n + 1) many

abbrev pub all_phases : List ℕ → List Pos
all_phases [] = []
all_phases (n ∷ ns) = enter n ∷ in0 n ∷ in1 n ∷ leave n ∷ finish n ∷ all_phases ns

-- the positions that are there, of so many nodes from n on
abbrev pub there : List Ways → ℕ → ℕ → List Pos
there rows n many = filter (λ p. has rows p) (all_phases (numbers_from n many))

abbrev pub ways_on : List Ways → List Pos → List (List Edge)
ways_on rows ps = map (λ p. next rows p) ps

abbrev gives_of : Option Ways → Option ℕ
gives_of None = None
gives_of (Some r) = r.source.gives

-- a position, and which function has its result there
abbrev with_results : List Ways → List Pos → List (Pos × Option ℕ)
with_results rows ps = map (λ p. (p, gives_of (found (number p) rows))) ps

-- where the value of n is pending; row: the row of its Leave
abbrev held_by : Typing → List Ways → List (Pos × Option ℕ) → ℕ → Option Ways → List Pos
held_by t rows qs n row = map (λ q. q.0) (filter (λ q. is_awaited_in rows row n q.0 || (is_number q.1 n || (nat_eq q.0.node.0 n && in_own_call q.0.phase (t.call (n + 1))))) qs)

abbrev held_in : Typing → List Ways → List (Pos × Option ℕ) → List ℕ → List (List Pos)
held_in t rows qs ns = map (λ n. held_by t rows qs n (leave_row rows n)) ns

-- for each of the nodes ns, the positions among ps, which are all there, at which its value is pending
abbrev pub held_at : Typing → List Ways → List Pos → List ℕ → List (List Pos)
held_at t rows ps ns = held_in t rows (with_results rows ps) ns

-- which of so many nodes are read
abbrev pub reads_of : List Ways → ℕ → List Bool
reads_of rows many = map (λ n. is_read rows n) (numbers_from 0 many)

abbrev actions_in : Typing → List Node → List Bool → List (Pos × Pos) → List Action
actions_in t vs reads es = map (λ e. action (λ n. flag_at reads n) (λ n. t.designates n) (λ n. t.is_void n) (λ n. t.call n) (otherwise (program_node []) (slice_get vs e.1.node.0)) e.0 e.1) es

-- for each pair of a position and one that it leads to, what is done on the way
abbrev pub actions : Typing → List ItemTree → List Bool → List (Pos × Pos) → List Action
actions t items reads es = actions_in t (nodes items) reads es
