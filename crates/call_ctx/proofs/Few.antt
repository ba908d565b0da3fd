-- How many sites contexts keep.
use Rattle.std.proofs.Common.{◌≡◌, ℕ, ◌-◌, ◌≤◌, List, length, arith, length-drop, sym, subst}
use Rattle.call_ctx.specs.Sites.{last_of}

pub length_last : {X : Type 0} (depth : ℕ) (xs : List X) → length (last_of depth xs) ≤ depth
length_last depth xs = rw (length-drop (length xs - depth) xs) (omega arith)

pub few_along : {X : Type 0} (depth : ℕ) (xs ys : List X) → ys ≡ last_of depth xs → length ys ≤ depth
few_along depth xs ys is = subst (λ zs. length zs ≤ depth) (sym is) (length_last depth xs)
