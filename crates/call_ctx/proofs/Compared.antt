-- The orders of contexts and cells: total, exact, and those of their lists of numbers.
use Rattle.std.proofs.Common.{◌≡◌, ℕ, ◌+◌, ◌*◌, ◌<◌, List, ◌∷◌, ◌++◌, [], length, append-nil, map, refl, sym, ap, ◌∙◌, arith, Bool, true, false}
use Rattle.std.specs.Ordering.{nat_cmp, bool_cmp, ordering_then}
use Rattle.std.specs.Cmp.{IsTotalOrder}
use Rattle.std.specs.Cmp.Lexicographic.{slice_cmp}
use Rattle.std.proofs.lemmas.Bool.Decides.{nat_tests}
use Rattle.std.proofs.lemmas.Map.Lookups.{CmpEqualImpliesEq, exact_unsigned, exact_pairs}
use Rattle.std.specs.declared.cmp.Ordering.{Ordering}
use Rattle.std.specs.declared.cmp.Ordering.TheVariants.{Less, Equal, Greater}
use Rattle.base_core.specs.declared.id.NodeId.{NodeId}
use Rattle.base_core.specs.declared.id.Pos.{Pos}
use Rattle.base_core.specs.declared.id.Phase.{Phase}
use Rattle.base_core.specs.declared.id.Phase.TheVariants.{Enter, In0, In1, Leave, Finish}
use Rattle.call_ctx.specs.declared.context.Role.{Role}
use Rattle.call_ctx.specs.declared.context.Role.TheVariants.{NoRole, Prepare, Parent}
use Rattle.call_ctx.specs.declared.context.Role.TheVariants as role
use Rattle.call_ctx.specs.declared.context.Side.{Side}
use Rattle.call_ctx.specs.declared.context.Side.TheVariants.{Free}
use Rattle.call_ctx.specs.declared.context.Side.TheVariants as side
use Rattle.call_ctx.specs.declared.context.Ctx.{Ctx}
use Rattle.call_ctx.specs.declared.cell.Cell.{Cell}
use Rattle.call_ctx.specs.declared.sites.Sites.{Sites}
use Rattle.call_ctx.specs.declared.sites.Sites.TheVariants.{Empty, One, Two}
use Rattle.call_ctx.specs.contracts.cell.CellOrd.TheImpl.Laws as cell
use Rattle.call_ctx.specs.contracts.context.CtxOrd.TheImpl.Laws as ctx
use Rattle.call_ctx.specs.contracts.context.RoleOrd.TheImpl.Laws as role_laws
use Rattle.call_ctx.specs.Sites.{sites_of}
use Rattle.call_ctx.specs.Order.{phase_number, role_number, side_number, bool_number, marks_number, ctx_numbers, cell_numbers, node_cmp, phase_cmp, pos_cmp, role_cmp, side_cmp, sites_cmp, ctx_cmp, cell_cmp}

-- what isn't told apart is equal

exact_bool : CmpEqualImpliesEq bool_cmp
exact_bool true true e = refl
exact_bool false false e = refl
exact_bool _ _ e = absurd cc

exact_phase : CmpEqualImpliesEq phase_cmp
exact_phase Enter Enter e = refl
exact_phase In0 In0 e = refl
exact_phase In1 In1 e = refl
exact_phase Leave Leave e = refl
exact_phase Finish Finish e = refl
exact_phase _ _ e = absurd cc

pub exact_role : CmpEqualImpliesEq role_cmp
exact_role NoRole NoRole e = refl
exact_role Prepare Prepare e = refl
exact_role Parent Parent e = refl
exact_role role.Child role.Child e = refl
exact_role _ _ e = absurd cc

exact_side : CmpEqualImpliesEq side_cmp
exact_side Free Free e = refl
exact_side side.Child side.Child e = refl
exact_side _ _ e = absurd cc

pub exact_node : CmpEqualImpliesEq node_cmp
exact_node a b e = ap (λ (n : ℕ). record { 0 = n }) (exact_unsigned a.0 b.0 e)

exact_sites : CmpEqualImpliesEq sites_cmp
exact_sites Empty Empty e = refl
exact_sites (One a) (One b) e = ap One (exact_node a b e)
exact_sites (Two a b) (Two c d) e = ap (λ (p : NodeId × NodeId). Two p.0 p.1) (exact_pairs node_cmp node_cmp exact_node exact_node (a, b) (c, d) e)
exact_sites _ _ e = absurd cc

pub exact_ctx : CmpEqualImpliesEq ctx_cmp
exact_ctx a b e =
    ap (λ (p : Bool × (Side × (Role × (Bool × (Bool × Sites))))). record { fault = p.0; entered = p.1.0; role = p.1.1.0; over = p.1.1.1.0; handler = p.1.1.1.1.0; sites = p.1.1.1.1.1 })
    (exact_pairs bool_cmp _ exact_bool
    (exact_pairs side_cmp _ exact_side
    (exact_pairs role_cmp _ exact_role
    (exact_pairs bool_cmp _ exact_bool (exact_pairs bool_cmp sites_cmp exact_bool exact_sites))))
    (a.fault, (a.entered, (a.role, (a.over, (a.handler, a.sites)))))
    (b.fault, (b.entered, (b.role, (b.over, (b.handler, b.sites))))) e)

exact_pos : CmpEqualImpliesEq pos_cmp
exact_pos a b e = ap (λ (p : NodeId × Phase). record { node = p.0; phase = p.1 }) (exact_pairs node_cmp phase_cmp exact_node exact_phase (a.node, a.phase) (b.node, b.phase) e)

pub exact_cell : CmpEqualImpliesEq cell_cmp
exact_cell a b e =
    ap (λ (p : Pos × (Ctx × Side)). record { pos = p.0; ctx = p.1.0; side = p.1.1 })
    (exact_pairs pos_cmp _ exact_pos (exact_pairs ctx_cmp side_cmp exact_ctx exact_side) (a.pos, (a.ctx, a.side)) (b.pos, (b.ctx, b.side)) e)

pub role_total : IsTotalOrder role_cmp
role_total = role_laws.total-law

pub ctx_total : IsTotalOrder ctx_cmp
ctx_total = ctx.total-law

pub cell_total : IsTotalOrder cell_cmp
cell_total = cell.total-law

-- the orders are those of the numbers

pub then_assoc : (p q r : Ordering) → ordering_then (ordering_then p q) r ≡ ordering_then p (ordering_then q r)
then_assoc Less q r = refl
then_assoc Equal q r = refl
then_assoc Greater q r = refl

pub then_equal : (p : Ordering) → ordering_then p Equal ≡ p
then_equal Less = refl
then_equal Equal = refl
then_equal Greater = refl

phase_by_number : (a b : Phase) → phase_cmp a b ≡ nat_cmp (phase_number a) (phase_number b)
phase_by_number Enter Enter = refl
phase_by_number In0 In0 = refl
phase_by_number In1 In1 = refl
phase_by_number Leave Leave = refl
phase_by_number Finish Finish = refl
phase_by_number _ _ = refl

pub role_by_number : (a b : Role) → role_cmp a b ≡ nat_cmp (role_number a) (role_number b)
role_by_number NoRole NoRole = refl
role_by_number Prepare Prepare = refl
role_by_number Parent Parent = refl
role_by_number role.Child role.Child = refl
role_by_number _ _ = refl

side_by_number : (a b : Side) → side_cmp a b ≡ nat_cmp (side_number a) (side_number b)
side_by_number Free Free = refl
side_by_number side.Child side.Child = refl
side_by_number _ _ = refl

bool_by_number : (a b : Bool) → bool_cmp a b ≡ nat_cmp (bool_number a) (bool_number b)
bool_by_number true true = refl
bool_by_number false false = refl
bool_by_number _ _ = refl

bool_small : (a : Bool) → bool_number a < 2
bool_small true = omega arith
bool_small false = omega arith

role_small : (a : Role) → role_number a < 4
role_small NoRole = omega arith
role_small Prepare = omega arith
role_small Parent = omega arith
role_small role.Child = omega arith

side_small : (a : Side) → side_number a < 2
side_small Free = omega arith
side_small side.Child = omega arith

-- two digits are compared by the upper one and then the lower
digits_2 : (x y x' y' : ℕ) → x < 2 → x' < 2 → nat_cmp (x + 2 * y) (x' + 2 * y') ≡ ordering_then (nat_cmp y y') (nat_cmp x x')
digits_2 x y x' y' h h' = grind (arith, nat_tests)

digits_4 : (x y x' y' : ℕ) → x < 4 → x' < 4 → nat_cmp (x + 4 * y) (x' + 4 * y') ≡ ordering_then (nat_cmp y y') (nat_cmp x x')
digits_4 x y x' y' h h' = grind (arith, nat_tests)

digits_16 : (x y x' y' : ℕ) → x < 16 → x' < 16 → nat_cmp (x + 16 * y) (x' + 16 * y') ≡ ordering_then (nat_cmp y y') (nat_cmp x x')
digits_16 x y x' y' h h' = grind (arith, nat_tests)

digits_32 : (x y x' y' : ℕ) → x < 32 → x' < 32 → nat_cmp (x + 32 * y) (x' + 32 * y') ≡ ordering_then (nat_cmp y y') (nat_cmp x x')
digits_32 x y x' y' h h' = grind (arith, nat_tests)

pub both : {p p' q q' : Ordering} → p ≡ p' → q ≡ q' → ordering_then p q ≡ ordering_then p' q'
both h g = λ i. ordering_then (h i) (g i)

-- the marks, from the one that counts most
abbrev marks_cmp : Ctx → Ctx → Ordering
marks_cmp a b =
    ordering_then (bool_cmp a.fault b.fault)
    (ordering_then (side_cmp a.entered b.entered)
    (ordering_then (role_cmp a.role b.role)
    (ordering_then (bool_cmp a.over b.over) (bool_cmp a.handler b.handler))))

marks_by_number : (a b : Ctx) → nat_cmp (marks_number a) (marks_number b) ≡ marks_cmp a b
marks_by_number a b =
    let h = bool_small a.handler in let h' = bool_small b.handler in
    let o = bool_small a.over in let o' = bool_small b.over in
    let r = role_small a.role in let r' = role_small b.role in
    let e = side_small a.entered in let e' = side_small b.entered in
    digits_32 _ (bool_number a.fault) _ (bool_number b.fault) (omega (arith, h, o, r, e)) (omega (arith, h', o', r', e'))
    ∙ both (sym (bool_by_number a.fault b.fault))
    (digits_16 _ (side_number a.entered) _ (side_number b.entered) (omega (arith, h, o, r)) (omega (arith, h', o', r'))
    ∙ both (sym (side_by_number a.entered b.entered))
    (digits_4 _ (role_number a.role) _ (role_number b.role) (omega (arith, h, o)) (omega (arith, h', o'))
    ∙ both (sym (role_by_number a.role b.role))
    (digits_2 _ (bool_number a.over) _ (bool_number b.over) h h'
    ∙ both (sym (bool_by_number a.over b.over)) (sym (bool_by_number a.handler b.handler)))))

-- the sites, and what follows them
sites_by_number : (a b : Sites) (xs ys : List ℕ)
    → slice_cmp nat_cmp (length (sites_of a) ∷ (map (λ n. n.0) (sites_of a) ++ xs)) (length (sites_of b) ∷ (map (λ n. n.0) (sites_of b) ++ ys))
    ≡ ordering_then (sites_cmp a b) (slice_cmp nat_cmp xs ys)
sites_by_number Empty Empty xs ys = refl
sites_by_number (One a) (One b) xs ys = refl
sites_by_number (Two a b) (Two c d) xs ys = sym (then_assoc (node_cmp a c) (node_cmp b d) (slice_cmp nat_cmp xs ys))
sites_by_number _ _ xs ys = refl

six : (a b c d e s : Ordering)
    → ordering_then (ordering_then a (ordering_then b (ordering_then c (ordering_then d e)))) s
    ≡ ordering_then a (ordering_then b (ordering_then c (ordering_then d (ordering_then e s))))
six a b c d e s =
    then_assoc a _ s ∙ ap (ordering_then a) (then_assoc b _ s ∙ ap (ordering_then b) (then_assoc c _ s ∙ ap (ordering_then c) (then_assoc d e s)))

-- a context, and what follows it
pub followed : (a b : Ctx) (xs ys : List ℕ) → slice_cmp nat_cmp (ctx_numbers a ++ xs) (ctx_numbers b ++ ys) ≡ ordering_then (ctx_cmp a b) (slice_cmp nat_cmp xs ys)
followed a b xs ys =
    both (marks_by_number a b) (sites_by_number a.sites b.sites xs ys)
    ∙ sym (then_assoc (marks_cmp a b) (sites_cmp a.sites b.sites) (slice_cmp nat_cmp xs ys))
    ∙ ap (λ o. ordering_then o (slice_cmp nat_cmp xs ys)) (six (bool_cmp a.fault b.fault) (side_cmp a.entered b.entered) (role_cmp a.role b.role) (bool_cmp a.over b.over) (bool_cmp a.handler b.handler) (sites_cmp a.sites b.sites))

pub ctx_by_numbers : (a b : Ctx) → ctx_cmp a b ≡ slice_cmp nat_cmp (ctx_numbers a) (ctx_numbers b)
ctx_by_numbers a b =
    sym (then_equal (ctx_cmp a b)) ∙ sym (followed a b [] [])
    ∙ (λ i. slice_cmp nat_cmp (append-nil (ctx_numbers a) i) (append-nil (ctx_numbers b) i))

pub cell_by_numbers : (a b : Cell) → cell_cmp a b ≡ slice_cmp nat_cmp (cell_numbers a) (cell_numbers b)
cell_by_numbers a b =
    then_assoc (node_cmp a.pos.node b.pos.node) (phase_cmp a.pos.phase b.pos.phase) _
    ∙ both refl (both (phase_by_number a.pos.phase b.pos.phase)
    (both refl (sym (then_equal (side_cmp a.side b.side)) ∙ both (side_by_number a.side b.side) refl)
    ∙ sym (followed a.ctx b.ctx (side_number a.side ∷ []) (side_number b.side ∷ []))))
