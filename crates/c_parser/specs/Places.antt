-- The places of a program's tokens.
use Rattle.std.specs.Prelude.{ℕ, [], ◌∷◌, ◌++◌, slice_index_or}
use Rattle.base_core.specs.declared.place.Place.{Place}
use Rattle.c_lexer.specs.Lexis.{Lexis}

-- the place of the k-th token, and from their number on that of the end
abbrev pub place_at : Lexis → ℕ → Place
place_at l k = slice_index_or (l.places ++ l.end ∷ []) k l.end
