-- What holds of the rows of a program: edges in order, edges to positions that are there, no value pending before its node.
use Rattle.std.proofs.Common.{◌≡◌, ℕ, ◌+◌, ◌*◌, ◌<◌, ◌≤◌, List, [], ◌∷◌, Option, Some, None, Bool, true, false, refl, subst, arith, cond, eqb-true}
use Rattle.std.specs.Prelude.{◌&&◌, ◌||◌, not, nat_eq, nat_lt, All}
use Rattle.std.proofs.lemmas.Bool.Decides.{nat_tests}
use Rattle.std.proofs.lemmas.List.Elements.{All-nil, All-cons}
use Rattle.base_core.specs.declared.id.Pos.{Pos}
use Rattle.base_core.specs.declared.id.Phase.{Phase}
use Rattle.base_core.specs.declared.id.Phase.TheVariants.{Enter, In0, In1, Leave, Finish}
use Rattle.c_tree.specs.Tree.{ItemTree, function_item, declaration_item}
use Rattle.c_tree.specs.Behind.{behind_item}
use Rattle.flow_form.specs.declared.edge.Edge.{Edge}
use Rattle.flow_form.specs.declared.edge.Use.{Use}
use Rattle.flow_form.specs.Laws.{IsOrdered, IsInOrder, IsClosed, IsLate, EdgesStay}
use Rattle.flow_form.specs.Pending.{is_leave, leave_row, waits, is_awaited_in, is_awaited, is_number, gives_in, is_given}
use Rattle.flow_form.specs.Positions.{Ways, enter, leave}
use Rattle.flow_form.specs.Statements.{function_ways, items_ways, program_ways}
use Rattle.flow_form.specs.Table.{phase_number, number, found, hit, or_else, edges, has}
use Rattle.flow_form.specs.Typing.{Typing}
use Rattle.flow_form.proofs.Fine.{Ahead, Given, IsSource, Fine, items_fine}
use Rattle.flow_form.proofs.FunctionStays.{Has, all_there, function_stays, edges_stay}
use Rattle.flow_form.proofs.Stays.{At, Targets, Stays, at_left, at_right, stays_append}

hit_step : (G : Ways → Type 0) (k : ℕ) (x r : Ways) (b : Bool) → nat_eq (number x.source.at) k ≡ b → (number x.source.at ≡ k → G x) → cond b (Some x) None ≡ Some r → G r
hit_step G k x r true n g e = let same : x ≡ r = cc in subst G same (g (eqb-true (number x.source.at) k n))
hit_step G k x r false n g e = absurd cc

found_step : (G : Ways → Type 0) (k : ℕ) (x r : Ways) (o : Option Ways) → (o ≡ Some r → G r) → (number x.source.at ≡ k → G x) → or_else o (hit k x) ≡ Some r → G r
found_step G k x r (Some y) f g e = f e
found_step G k x r None f g e = hit_step G k x r (nat_eq (number x.source.at) k) refl g e

-- the row that is found for a number
pub fine_found : (k : ℕ) (rs : List Ways) (r : Ways) → Fine rs → found k rs ≡ Some r → (IsOrdered r.next × IsSource r.source) × (number r.source.at ≡ k)
fine_found k [] r h e = absurd cc
fine_found k (x ∷ xs) r h e = found_step (λ y. (IsOrdered y.next × IsSource y.source) × (number y.source.at ≡ k)) k x r (found k xs) (λ f. fine_found k xs r h.1 f) (λ n. (h.0, n)) e

stays_found : (P : Pos → Type 0) (k : ℕ) (rs : List Ways) (r : Ways) → Stays P rs → found k rs ≡ Some r → Targets P r.next
stays_found P k [] r h e = absurd cc
stays_found P k (x ∷ xs) r h e = found_step (λ y. Targets P y.next) k x r (found k xs) (λ f. stays_found P k xs r h.1 f) (λ n. h.0) e

order_of : (k : ℕ) (rs : List Ways) (o : Option Ways) → Fine rs → found k rs ≡ o → IsOrdered (edges o)
order_of k rs None h e = tt
order_of k rs (Some r) h e = (fine_found k rs r h e).0.0

pub in_order : (t : Typing) (items : List ItemTree) → IsInOrder (program_ways t items)
in_order t items p = order_of (number p) (program_ways t items) (found (number p) (program_ways t items)) (items_fine t 1 items) refl

items_stay : (P : Pos → Type 0) (t : Typing) (n : ℕ) (is : List ItemTree) → At P (items_ways t n is) → Stays P (items_ways t n is)
items_stay P t n [] h = tt
items_stay P t n (function_item f ∷ is) h =
    let rest = items_ways t (behind_item n (function_item f)) is in
    stays_append P (function_ways t n f) rest (function_stays P t n f (at_left P (function_ways t n f) rest h)) (items_stay P t (behind_item n (function_item f)) is (at_right P (function_ways t n f) rest h))
items_stay P t n (declaration_item d ∷ is) h = items_stay P t (behind_item n (declaration_item d)) is h

targets_all : (P : Pos → Type 0) (es : List Edge) → Targets P es → All (λ e. P e.to) es
targets_all P [] h = All-nil (λ e. P e.to)
targets_all P (e ∷ es) h = All-cons (λ e. P e.to) e es h.0 (targets_all P es h.1)

closed_at : (k : ℕ) (rs : List Ways) (o : Option Ways) → Stays (Has rs) rs → found k rs ≡ o → All (λ e. has rs e.to ≡ true) (edges o)
closed_at k rs None h e = All-nil (λ e. has rs e.to ≡ true)
closed_at k rs (Some r) h e = targets_all (Has rs) r.next (stays_found (Has rs) k rs r h e)

pub closed : (t : Typing) (items : List ItemTree) → IsClosed (program_ways t items)
closed t items p =
    let rows = program_ways t items in
    closed_at (number p) rows (found (number p) rows) (items_stay (Has rows) t 1 items (all_there rows)) refl

phase_small : (p : Phase) → phase_number p ≤ 4
phase_small Enter = omega arith
phase_small In0 = omega arith
phase_small In1 = omega arith
phase_small Leave = omega arith
phase_small Finish = omega arith

same_node : (a n : ℕ) (p : Phase) → 5 * a + phase_number p ≡ 5 * n + 3 → a ≡ n
same_node a n p e = omega (arith, e, phase_small p)

not_leave : (p : Phase) (a f : ℕ) → is_leave p ≡ true → 5 * a + phase_number p ≡ 5 * f + 0 → ⊥
not_leave Enter a f h e = absurd cc
not_leave In0 a f h e = absurd cc
not_leave In1 a f h e = absurd cc
not_leave Leave a f h e = omega (arith, e)
not_leave Finish a f h e = absurd cc

late_tests : (l x y b : Bool) → b ≡ true → ((l && (not b && x)) || (false && y)) ≡ false
late_tests l x y b h = grind arith

-- the value of n, behind which the number b stands, does not wait at the Enter of f
late_waits : (rs : List Ways) (o : Option Use) (n b f : ℕ) → Ahead o n b → f < n → waits rs o n b (enter f) ≡ false
late_waits rs None n b f a h = refl
late_waits rs (Some u) n b f a h = let less : f < b = omega (arith, a, h) in late_tests u.later _ (nat_eq f u.user) (nat_lt f b) (grind (arith, nat_tests))

late_awaited : (rs : List Ways) (n f : ℕ) (o : Option Ways) → Fine rs → f < n → leave_row rs n ≡ o → is_awaited_in rs o n (enter f) ≡ false
late_awaited rs n f None fine h e = refl
late_awaited rs n f (Some r) fine h e =
    let row = fine_found (number (leave n)) rs r fine e in
    let same = same_node r.source.at.node.0 n r.source.at.phase row.1 in
    late_waits rs r.source.used n r.source.past f (subst (λ m. Ahead r.source.used m r.source.past) same row.0.1.0) h

given_not : (g : Option ℕ) (p : Pos) (n f : ℕ) → Given g p → number p ≡ number (enter f) → is_number g n ≡ false
given_not None p n f h e = refl
given_not (Some m) p n f h e = absurd (not_leave p.phase p.node.0 f h e)

late_given : (rs : List Ways) (n f : ℕ) (o : Option Ways) → Fine rs → found (number (enter f)) rs ≡ o → gives_in o n ≡ false
late_given rs n f None fine e = refl
late_given rs n f (Some r) fine e = let row = fine_found (number (enter f)) rs r fine e in given_not r.source.gives r.source.at n f row.0.1.1 row.1

late_all : (a b c d : Bool) → b ≡ false → c ≡ false → (a && (b || (c || (d && false)))) ≡ false
late_all a b c d h k = grind arith

pub late : (t : Typing) (items : List ItemTree) → IsLate t (program_ways t items)
late t items n f h =
    let rows = program_ways t items in
    late_all (has rows (enter f)) (is_awaited rows n (enter f)) (is_given rows n (enter f)) (nat_eq f n)
    (late_awaited rows n f (leave_row rows n) (items_fine t 1 items) h refl) (late_given rows n f (found (number (enter f)) rows) (items_fine t 1 items) refl)

pub edges_stay_there : EdgesStay
edges_stay_there t n f p =
    let rows = function_ways t n f in closed_at (number p) rows (found (number p) rows) (edges_stay t n f) refl
