-- Lists of keys: what a set has that got a key, and the order of one key.
use Rattle.std.proofs.Common.{◌≡◌, List, [], ◌∷◌, Bool, true, false, cond, refl, ap, ◌∙◌, ◌||◌}
use Rattle.std.specs.Ordering.{is_eq, ordering_reverse}
use Rattle.std.specs.Cmp.{IsTotalOrder}
use Rattle.std.specs.List.{list_any}
use Rattle.std.specs.List.Sorted.{IsStrictlySortedBy}
use Rattle.std.specs.BTreeMap.{is_at}
use Rattle.std.specs.declared.cmp.Ordering.{Ordering}
use Rattle.std.specs.declared.cmp.Ordering.TheVariants.{Less, Equal, Greater}

eq_back : (p : Ordering) → is_eq (ordering_reverse p) ≡ is_eq p
eq_back Less = refl
eq_back Equal = refl
eq_back Greater = refl

as_or : (a b c : Bool) → a ≡ b → cond a true c ≡ ((b || false) || c)
as_or true true c e = refl
as_or false false c e = refl
as_or true false c e = absurd cc
as_or false true c e = absurd cc

-- the key x is there besides, and every other key as it was
pub has_besides : {K : Type 0} {R : K → K → Ordering} (o : IsTotalOrder R) (old new : List K) (x : K)
    → ((y : K) → list_any (is_at (R y)) new ≡ cond (is_at (R x) y) true (list_any (is_at (R y)) old))
    → (y : K) → list_any (is_at (R y)) new ≡ (list_any (is_at (R y)) (x ∷ []) || list_any (is_at (R y)) old)
has_besides {K} {R} o old new x puts y = puts y ∙ as_or (is_at (R x) y) (is_at (R y) x) _ (ap is_eq (o.antisymm x y) ∙ eq_back (R y x))

pub sorted_one : {K : Type 0} (R : K → K → Ordering) (x : K) → IsStrictlySortedBy R (x ∷ [])
unfolding IsStrictlySortedBy
sorted_one R x = (tt, tt)
