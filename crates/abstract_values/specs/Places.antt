-- Places in lists.
use Rattle.std.specs.Prelude.{ℕ, suc, List, [], ◌∷◌, Bool, cond}

-- how many elements at the front pass
abbrev pub leading : {X : Type 0} → (X → Bool) → List X → ℕ
leading passes [] = 0
leading passes (x ∷ xs) = cond (passes x) (suc (leading passes xs)) 0
