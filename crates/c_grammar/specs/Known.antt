-- What a set of names keeps for its look-ups.
use Rattle.std.specs.Prelude.{◌≡◌, ℕ, Bool, List, Vec, bytes_eq}
use Rattle.std.specs.declared.alloc.Global.{Global}
use Rattle.std.specs.List.{list_any}
use Rattle.c_tree.specs.Tree.{Name}
use Rattle.c_tree.specs.TypeWords.{is_among}

-- the bytes are those of a key
abbrev pub has_key : List (Vec ℕ Global) → Name → Bool
has_key keys n = list_any (λ k. bytes_eq n k.items) keys

-- a name is one of these keys exactly where it stands in the list
abbrev pub HoldSame : List (Vec ℕ Global) → List Name → Type 0
HoldSame keys names = (n : Name) → has_key keys n ≡ is_among names n
