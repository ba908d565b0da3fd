-- What is seen of lists of what is told.
use Rattle.std.proofs.Common.{◌≡◌, suc, List, [], ◌∷◌, length, refl, ap}
use Rattle.c_bindings.specs.declared.told.Told.{Told}
use Rattle.c_declared.specs.Seen.{all_seen}

pub length_seen : (ts : List (List Told)) → length (all_seen ts) ≡ length ts
length_seen [] = refl
length_seen (t ∷ ts) = ap (λ n. suc n) (length_seen ts)
