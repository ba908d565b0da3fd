-- A list in preorder, as it grows: the innermost node that is still open comes first, with what stands below it so far.
use Rattle.std.specs.Prelude.{ℕ, ◌+◌, ◌-◌, ◌<◌, List, [], ◌∷◌, ◌++◌, length, take, drop, sum_by}

-- these behind what stands below the innermost open node
abbrev pub added : {T : Type 0} → List T → List (List T) → List (List T)
added xs [] = []
added xs (p ∷ ps) = (p ++ xs) ∷ ps

-- the innermost open node is this one: it stands before what is below it
abbrev pub closed : {T : Type 0} → T → List (List T) → List (List T)
closed x [] = []
closed x (p ∷ ps) = added (x ∷ p) ps

-- how many nodes there are: what stands below the open ones, and the open ones themselves
abbrev pub count : {T : Type 0} → List (List T) → ℕ
count ps = sum_by length ps + (length ps - 1)

-- a list is cut at the places of the open nodes, the innermost first
abbrev pub parts : {T : Type 0} → List T → List ℕ → List (List T)
parts xs [] = xs ∷ []
parts xs (i ∷ is) = drop (i + 1) xs ∷ parts (take i xs) is

-- each open node is below the length, and below those inside it
abbrev pub AreOpen : ℕ → List ℕ → Type 0
AreOpen n [] = Unit {0}
AreOpen n (i ∷ is) = (i < n) × AreOpen i is
