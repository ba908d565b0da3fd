-- The last call sites of a frame, as a list.
use Rattle.std.specs.Prelude.{ℕ, ◌-◌, List, [], ◌∷◌, length, drop}
use Rattle.base_core.specs.declared.id.NodeId.{NodeId}
use Rattle.call_ctx.specs.declared.sites.Sites.{Sites}
use Rattle.call_ctx.specs.declared.sites.Sites.TheVariants.{Empty, One, Two}

-- the sites, oldest first
abbrev pub sites_of : Sites → List NodeId
sites_of Empty = []
sites_of (One site) = site ∷ []
sites_of (Two older newer) = older ∷ newer ∷ []

-- the last entries of a list, at most so many
abbrev pub last_of : {X : Type 0} → ℕ → List X → List X
last_of depth xs = drop (length xs - depth) xs
