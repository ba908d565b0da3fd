-- A row more, in what is found by a number, and in an index.
use Rattle.std.proofs.Common.{◌≡◌, ℕ, zero, suc, ◌+◌, ◌<◌, List, [], ◌∷◌, ◌++◌, length, Option, Some, None, Bool, true, false, cond, refl, ap, sym, ◌∙◌, arith, take, get_or, eqb-true, get_or-set_other}
use Rattle.std.specs.Prelude.{nat_eq, slice_get, unwrap_or}
use Rattle.std.proofs.Math.ListN.{set}
use Rattle.std.proofs.lemmas.Bool.{eqb-false}
use Rattle.std.proofs.lemmas.Grind.{get_or-set_at}
use Rattle.std.proofs.lemmas.Option.{unwrap_or-slice_get}
use Rattle.flow_form.specs.Positions.{Ways}
use Rattle.flow_form.specs.Table.{number, found, hit, or_else, pick}

or_else_none : (a : Option Ways) → or_else a None ≡ a
or_else_none None = refl
or_else_none (Some x) = refl

or_else_assoc : (a b c : Option Ways) → or_else (or_else a b) c ≡ or_else a (or_else b c)
or_else_assoc None b c = refl
or_else_assoc (Some x) b c = refl

pub found_append : (k : ℕ) (rs ss : List Ways) → found k (rs ++ ss) ≡ or_else (found k ss) (found k rs)
found_append k [] ss = sym (or_else_none (found k ss))
found_append k (r ∷ rs) ss = ap (λ o. or_else o (hit k r)) (found_append k rs ss) ∙ or_else_assoc (found k ss) (found k rs) (hit k r)

take_more : (rs : List Ways) (i : ℕ) (r : Ways) → slice_get rs i ≡ Some r → take (suc i) rs ≡ take i rs ++ r ∷ []
take_more [] i r e = absurd cc
take_more (x ∷ rs) zero r e = let same : x ≡ r = cc in ap (λ y. y ∷ []) same
take_more (x ∷ rs) (suc i) r e = ap (λ ys. x ∷ ys) (take_more rs i r e)

pub some_at : (rs : List Ways) (j : ℕ) (r : Ways) → j < length rs → r ≡ get_or rs j r → slice_get rs j ≡ Some r
some_at [] j r h e = absurd (omega (arith, h))
some_at (x ∷ rs) zero r h e = ap (λ (y : Ways). Some y) (sym e)
some_at (x ∷ rs) (suc j) r h e = some_at rs j r (omega (arith, h)) e

pick_unwrap : (o : Option (Option ℕ)) (rs : List Ways) → pick o rs ≡ pick (Some (unwrap_or o None)) rs
pick_unwrap None rs = refl
pick_unwrap (Some x) rs = refl

pick_is : (index : List (Option ℕ)) (rs : List Ways) (k : ℕ) → pick (slice_get index k) rs ≡ pick (Some (get_or index k None)) rs
pick_is index rs k = pick_unwrap (slice_get index k) rs ∙ ap (λ (o : Option ℕ). pick (Some o) rs) (unwrap_or-slice_get index k None)

set_is : (index : List (Option ℕ)) (rs : List Ways) (r : Ways) (i m k : ℕ) (o : Option Ways) (b : Bool) → nat_eq m k ≡ b → m < length index → slice_get rs i ≡ Some r →
    pick (Some (get_or index k None)) rs ≡ o → pick (Some (get_or (set index m (Some i)) k None)) rs ≡ or_else (cond b (Some r) None) o
set_is index rs r i m k o true e h row q = ap (λ (o : Option ℕ). pick (Some o) rs) (get_or-set_at index m k (Some i) None (sym (eqb-true m k e)) h) ∙ row
set_is index rs r i m k o false e h row q = ap (λ (o : Option ℕ). pick (Some o) rs) (get_or-set_other index m k (Some i) None (λ f. eqb-false m k e (sym f))) ∙ q

-- an index of the first i rows is one of the first j = i + 1 rows when it is set at the number of the next row's position, m
pub placed : (index : List (Option ℕ)) (rs : List Ways) (i j m : ℕ) (r : Ways) → slice_get rs i ≡ Some r → m ≡ number r.source.at → m < length index → j ≡ i + 1 →
    ((k : ℕ) → pick (slice_get index k) rs ≡ found k (take i rs)) → (k : ℕ) → pick (slice_get (set index m (Some i)) k) rs ≡ found k (take j rs)
placed index rs i j m r row n h next held k =
    let after : j ≡ suc i = omega (arith, next) in
    let more : take j rs ≡ take i rs ++ r ∷ [] = ap (λ a. take a rs) after ∙ take_more rs i r row in
    pick_is (set index m (Some i)) rs k
    ∙ set_is index rs r i m k (found k (take i rs)) (nat_eq m k) refl h row (sym (pick_is index rs k) ∙ held k)
    ∙ ap (λ a. or_else (cond (nat_eq a k) (Some r) None) (found k (take i rs))) n
    ∙ sym (found_append k (take i rs) (r ∷ []))
    ∙ ap (λ (ys : List Ways). found k ys) (sym more)
