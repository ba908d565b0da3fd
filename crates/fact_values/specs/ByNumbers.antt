-- The orders of objects, holders, targets and parts are those of their lists of numbers, and `==` holds of what they do not tell apart.
use Rattle.std.proofs.Common.{◌≡◌, ℕ, List, [], ◌++◌, append-nil, refl, sym, ◌∙◌, subst}
use Rattle.std.specs.Ordering.{nat_cmp, ordering_then, as_partial_cmp, eq_by_cmp}
use Rattle.std.specs.Cmp.{IsTotalOrder, IsPartialOrder, IsEquivalence, nat_cmp_total, po}
use Rattle.std.proofs.lemmas.Cmp.{on_total, eq_by_cmp_equiv}
use Rattle.std.specs.declared.cmp.Ordering.{Ordering}
use Rattle.std.specs.Cmp.Lexicographic.{slice_cmp, lists_total}
use Rattle.call_ctx.specs.Order.{ctx_cmp, node_cmp}
use Rattle.call_ctx.proofs.Compared.{then_assoc, then_equal, both, followed, role_by_number, cell_by_numbers}
use Rattle.fact_values.specs.declared.object.Obj.{Obj}
use Rattle.fact_values.specs.declared.object.Obj.TheVariants.{Variable, Text, Allocated, Library, Arrival, Arguments}
use Rattle.fact_values.specs.declared.object.Holder.{Holder}
use Rattle.fact_values.specs.declared.object.Holder.TheVariants as holder
use Rattle.fact_values.specs.declared.object.Target.{Target}
use Rattle.fact_values.specs.declared.object.Target.TheVariants as target
use Rattle.fact_values.specs.declared.part.Part.{Part}
use Rattle.fact_values.specs.declared.part.Part.TheVariants as part
use Rattle.fact_values.specs.Objects.{obj_cmp, holder_cmp, target_cmp, fn_cmp, obj_numbers, holder_numbers, target_numbers}
use Rattle.fact_values.specs.PartOrder.{part_cmp, part_numbers}

-- an object, and what follows it
obj_followed : (a b : Obj) (xs ys : List ℕ) → slice_cmp nat_cmp (obj_numbers a ++ xs) (obj_numbers b ++ ys) ≡ ordering_then (obj_cmp a b) (slice_cmp nat_cmp xs ys)
obj_followed (Variable v c) (Variable w d) xs ys = both refl (followed c d xs ys) ∙ sym (then_assoc (nat_cmp v.0 w.0) (ctx_cmp c d) (slice_cmp nat_cmp xs ys))
obj_followed (Text n) (Text m) xs ys = refl
obj_followed (Allocated n c) (Allocated m d) xs ys = both refl (followed c d xs ys) ∙ sym (then_assoc (node_cmp n m) (ctx_cmp c d) (slice_cmp nat_cmp xs ys))
obj_followed (Library n) (Library m) xs ys = refl
obj_followed (Arrival f c) (Arrival g d) xs ys = both refl (followed c d xs ys) ∙ sym (then_assoc (fn_cmp f g) (ctx_cmp c d) (slice_cmp nat_cmp xs ys))
obj_followed Arguments Arguments xs ys = refl
obj_followed _ _ xs ys = refl

holder_followed : (a b : Holder) (xs ys : List ℕ) → slice_cmp nat_cmp (holder_numbers a ++ xs) (holder_numbers b ++ ys) ≡ ordering_then (holder_cmp a b) (slice_cmp nat_cmp xs ys)
holder_followed (holder.Object o) (holder.Object p) xs ys = obj_followed o p xs ys
holder_followed (holder.Node n c) (holder.Node m d) xs ys = both refl (followed c d xs ys) ∙ sym (then_assoc (node_cmp n m) (ctx_cmp c d) (slice_cmp nat_cmp xs ys))
holder_followed _ _ xs ys = refl

target_followed : (a b : Target) (xs ys : List ℕ) → slice_cmp nat_cmp (target_numbers a ++ xs) (target_numbers b ++ ys) ≡ ordering_then (target_cmp a b) (slice_cmp nat_cmp xs ys)
target_followed (target.Object o) (target.Object p) xs ys = obj_followed o p xs ys
target_followed (target.Function f) (target.Function g) xs ys = refl
target_followed _ _ xs ys = refl

module _ {X : Type 0} (cmp : X → X → Ordering) (numbers : X → List ℕ)
    (along : (a b : X) (xs ys : List ℕ) → slice_cmp nat_cmp (numbers a ++ xs) (numbers b ++ ys) ≡ ordering_then (cmp a b) (slice_cmp nat_cmp xs ys)) where
  alone : (a b : X) → cmp a b ≡ slice_cmp nat_cmp (numbers a) (numbers b)
  alone a b = sym (then_equal (cmp a b)) ∙ sym (along a b [] []) ∙ (λ i. slice_cmp nat_cmp (append-nil (numbers a) i) (append-nil (numbers b) i))

pub obj_by_numbers : (a b : Obj) → obj_cmp a b ≡ slice_cmp nat_cmp (obj_numbers a) (obj_numbers b)
obj_by_numbers = alone obj_cmp obj_numbers obj_followed

pub holder_by_numbers : (a b : Holder) → holder_cmp a b ≡ slice_cmp nat_cmp (holder_numbers a) (holder_numbers b)
holder_by_numbers = alone holder_cmp holder_numbers holder_followed

pub target_by_numbers : (a b : Target) → target_cmp a b ≡ slice_cmp nat_cmp (target_numbers a) (target_numbers b)
target_by_numbers = alone target_cmp target_numbers target_followed

pub part_by_numbers : (a b : Part) → part_cmp a b ≡ slice_cmp nat_cmp (part_numbers a) (part_numbers b)
part_by_numbers (part.Cell c) (part.Cell d) = cell_by_numbers c d
part_by_numbers (part.Target h t) (part.Target k u) = both refl (target_by_numbers t u) ∙ sym (holder_followed h k (target_numbers t) (target_numbers u))
part_by_numbers (part.Installed s g) (part.Installed t h) = both refl (sym (then_equal (fn_cmp g h)))
part_by_numbers (part.Thread g) (part.Thread h) = sym (then_equal (fn_cmp g h))
part_by_numbers (part.Fork r g) (part.Fork q h) = both (role_by_number r q) (sym (then_equal (fn_cmp g h)))
part_by_numbers (part.Stirred o) (part.Stirred p) = obj_by_numbers o p
part_by_numbers _ _ = refl

-- an order by numbers is total, and a partial order up to what it does not tell apart
total_by : {X : Type 0} (cmp : X → X → Ordering) (numbers : X → List ℕ) → ((a b : X) → cmp a b ≡ slice_cmp nat_cmp (numbers a) (numbers b)) → IsTotalOrder cmp
total_by cmp numbers same = subst IsTotalOrder (λ i a b. sym (same a b) i) (on_total numbers (lists_total nat_cmp_total))

partial_by : {X : Type 0} {cmp : X → X → Ordering} → IsTotalOrder cmp → IsPartialOrder (eq_by_cmp cmp) (as_partial_cmp cmp)
partial_by o = po o (λ a b. refl)

obj_total : IsTotalOrder obj_cmp
obj_total = total_by obj_cmp obj_numbers obj_by_numbers

pub obj_equiv : IsEquivalence (eq_by_cmp obj_cmp)
obj_equiv = eq_by_cmp_equiv obj_total

pub obj_partial : IsPartialOrder (eq_by_cmp obj_cmp) (as_partial_cmp obj_cmp)
obj_partial = partial_by obj_total

holder_total : IsTotalOrder holder_cmp
holder_total = total_by holder_cmp holder_numbers holder_by_numbers

pub holder_equiv : IsEquivalence (eq_by_cmp holder_cmp)
holder_equiv = eq_by_cmp_equiv holder_total

pub holder_partial : IsPartialOrder (eq_by_cmp holder_cmp) (as_partial_cmp holder_cmp)
holder_partial = partial_by holder_total

target_total : IsTotalOrder target_cmp
target_total = total_by target_cmp target_numbers target_by_numbers

pub target_equiv : IsEquivalence (eq_by_cmp target_cmp)
target_equiv = eq_by_cmp_equiv target_total

pub target_partial : IsPartialOrder (eq_by_cmp target_cmp) (as_partial_cmp target_cmp)
target_partial = partial_by target_total

part_total : IsTotalOrder part_cmp
part_total = total_by part_cmp part_numbers part_by_numbers

pub part_equiv : IsEquivalence (eq_by_cmp part_cmp)
part_equiv = eq_by_cmp_equiv part_total

pub part_partial : IsPartialOrder (eq_by_cmp part_cmp) (as_partial_cmp part_cmp)
part_partial = partial_by part_total
