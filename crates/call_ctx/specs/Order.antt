-- The order of contexts and cells.
use Rattle.std.specs.Prelude.{ℕ, ◌+◌, ◌*◌, List, [], ◌∷◌, ◌++◌, length, map, Bool, cond}
use Rattle.std.specs.Ordering.{nat_cmp, bool_cmp, ordering_then}
use Rattle.std.specs.declared.cmp.Ordering.{Ordering}
use Rattle.base_core.specs.declared.id.NodeId.{NodeId}
use Rattle.base_core.specs.declared.id.Pos.{Pos}
use Rattle.base_core.specs.declared.id.Phase.{Phase}
use Rattle.base_core.specs.declared.id.Phase.TheVariants.{Enter, In0, In1, Leave, Finish}
use Rattle.call_ctx.specs.declared.context.Role.{Role}
use Rattle.call_ctx.specs.declared.context.Role.TheVariants.{NoRole, Prepare, Parent}
use Rattle.call_ctx.specs.declared.context.Role.TheVariants as role
use Rattle.call_ctx.specs.declared.context.Side.{Side}
use Rattle.call_ctx.specs.declared.context.Side.TheVariants.{Free}
use Rattle.call_ctx.specs.declared.context.Side.TheVariants as side
use Rattle.call_ctx.specs.declared.context.Ctx.{Ctx}
use Rattle.call_ctx.specs.declared.cell.Cell.{Cell}
use Rattle.call_ctx.specs.declared.sites.Sites.{Sites}
use Rattle.call_ctx.specs.Sites.{sites_of}
use Rattle.base_core.specs.contracts.id.PhaseOrd.TheImpl as phase
use Rattle.call_ctx.specs.contracts.context.RoleOrd.TheImpl as role_order
use Rattle.call_ctx.specs.contracts.context.SideOrd.TheImpl as side_order
use Rattle.call_ctx.specs.contracts.sites.SitesOrd.TheImpl as sites_order

abbrev pub phase_number : Phase → ℕ
phase_number Enter = 0
phase_number In0 = 1
phase_number In1 = 2
phase_number Leave = 3
phase_number Finish = 4

abbrev pub role_number : Role → ℕ
role_number NoRole = 0
role_number Prepare = 1
role_number Parent = 2
role_number role.Child = 3

abbrev pub side_number : Side → ℕ
side_number Free = 0
side_number side.Child = 1

abbrev pub bool_number : Bool → ℕ
bool_number b = cond b 1 0

-- the marks of a context in one number
abbrev pub marks_number : Ctx → ℕ
marks_number c = bool_number c.handler + 2 * bool_number c.over + 4 * role_number c.role + 16 * side_number c.entered + 32 * bool_number c.fault

-- a context as a list of numbers: its marks, the number of its sites, and the sites
abbrev pub ctx_numbers : Ctx → List ℕ
ctx_numbers c = marks_number c ∷ length (sites_of c.sites) ∷ map (λ n. n.0) (sites_of c.sites)

abbrev pub cell_numbers : Cell → List ℕ
cell_numbers x = x.pos.node.0 ∷ phase_number x.pos.phase ∷ (ctx_numbers x.ctx ++ side_number x.side ∷ [])

-- phases, roles and sides are compared by the order of their variants, sites by their number and then the older first
abbrev pub phase_cmp : Phase → Phase → Ordering
phase_cmp = phase.cmp-value.it

abbrev pub role_cmp : Role → Role → Ordering
role_cmp = role_order.cmp-value.it

abbrev pub side_cmp : Side → Side → Ordering
side_cmp = side_order.cmp-value.it

abbrev pub sites_cmp : Sites → Sites → Ordering
sites_cmp = sites_order.cmp-value.it

abbrev pub node_cmp : NodeId → NodeId → Ordering
node_cmp a b = nat_cmp a.0 b.0

abbrev pub pos_cmp : Pos → Pos → Ordering
pos_cmp a b = ordering_then (node_cmp a.node b.node) (phase_cmp a.phase b.phase)

abbrev pub ctx_cmp : Ctx → Ctx → Ordering
ctx_cmp a b =
    ordering_then (bool_cmp a.fault b.fault)
    (ordering_then (side_cmp a.entered b.entered)
    (ordering_then (role_cmp a.role b.role)
    (ordering_then (bool_cmp a.over b.over)
    (ordering_then (bool_cmp a.handler b.handler) (sites_cmp a.sites b.sites)))))

abbrev pub cell_cmp : Cell → Cell → Ordering
cell_cmp a b = ordering_then (pos_cmp a.pos b.pos) (ordering_then (ctx_cmp a.ctx b.ctx) (side_cmp a.side b.side))
