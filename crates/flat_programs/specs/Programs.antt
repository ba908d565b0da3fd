-- Programs read from a list of tokens.
use Rattle.std.specs.Prelude.{◌≡◌, List, Option, Some, None}
use Rattle.base_core.specs.declared.token.Token.{Token}
use Rattle.flat_programs.specs.FlatTree.{FlatTree}
use Rattle.flat_programs.specs.FlatSpelling.{spell}
use Rattle.flat_programs.specs.Body.{AreReadable}
use Rattle.flat_programs.specs.Handlers.{AreShaped}

-- a tree that a reader can read
pub record IsReadableTree (t : FlatTree) : Type 0 where
  pub handlers : AreShaped t.handlers
  pub statements : AreReadable t.statements

-- the tree was read, or there is none; in both cases no other tree has these tokens
abbrev pub ReadsTree : List Token → Option FlatTree → Type 0
ReadsTree ts None = (u : FlatTree) → IsReadableTree u → ts ≡ spell u → ⊥
ReadsTree ts (Some t) = IsReadableTree t × (ts ≡ spell t) × ((u : FlatTree) → IsReadableTree u → ts ≡ spell u → u ≡ t)
