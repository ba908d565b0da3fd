-- The kinds that declarators give.
use Rattle.std.proofs.Common.{◌≡◌, List, Option, Some, None, ◌∷◌, refl, ap}
use Rattle.c_kinds.specs.Kind as kinds
use Rattle.c_kinds.specs.Kind.{Kind}
use Rattle.c_tree.specs.Tree.{Expression, Sizes, no_sizes, open_size, size}
use Rattle.c_tree.specs.View.{sizes_of}
use Rattle.c_environment.specs.Types.{array_kind}

array_inside : (xs : Sizes) (k : Kind) → array_kind xs (kinds.array k) ≡ kinds.array (array_kind xs k)
array_inside no_sizes k = refl
array_inside (open_size xs) k = ap (λ t. kinds.array t) (array_inside xs k)
array_inside (size x xs) k = ap (λ t. kinds.array t) (array_inside xs k)

-- the element of the outermost dimension may be made an array first
pub array_step : (x : Option Expression) (xs : List (Option Expression)) (k : Kind) → array_kind (sizes_of xs) (kinds.array k) ≡ array_kind (sizes_of (x ∷ xs)) k
array_step None xs k = array_inside (sizes_of xs) k
array_step (Some x) xs k = array_inside (sizes_of xs) k
