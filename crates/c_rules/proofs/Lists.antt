-- Lists of kinds.
use Rattle.std.proofs.Common.{◌≡◌, List, [], ◌∷◌, refl, ap}
use Rattle.c_kinds.specs.Kind.{Kind, kinds_of, list_of}

pub listed : (ks : List Kind) → list_of (kinds_of ks) ≡ ks
listed [] = refl
listed (k ∷ ks) = ap (λ xs. k ∷ xs) (listed ks)
