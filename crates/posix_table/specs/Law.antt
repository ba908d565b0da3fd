-- Which rows a table may hold: those of the profiles, with a mark of safety of the table's own, and plain ones.
use Rattle.std.specs.Prelude.{◌≡◌, ℕ, ◌≤◌, ◌==◌, Bool, true, false, cond, ◌⊎◌, List, [], ◌∷◌, Option, None, Some, length, IsTrue}
use Rattle.std.specs.List.{Contains, count_by}
use Rattle.posix_table.specs.declared.kind.Param.{Param}
use Rattle.posix_table.specs.declared.kind.Param.TheVariants.{Int, Read, Write, Both, Kernel, More}
use Rattle.posix_table.specs.declared.kind.ResultKind.TheVariants as result
use Rattle.posix_table.specs.declared.kind.Effect.TheVariants.{Plain}
use Rattle.posix_table.specs.declared.row.Row.{Row}
use Rattle.posix_table.specs.Profile.{profile_rows, split_row}

-- the letters i, r, w, b and k
abbrev pub is_plain : Param → Bool
is_plain Int = true
is_plain Read = true
is_plain Write = true
is_plain Both = true
is_plain Kernel = true
is_plain _ = false

-- the star
abbrev pub is_more : Param → Bool
is_more More = true
is_more _ = false

-- plain letters, of which the last may be a star
abbrev pub ArePlain : List Param → Type 0
ArePlain [] = Unit {0}
ArePlain (letter ∷ []) = IsTrue (is_plain letter) ⊎ (letter ≡ More)
ArePlain (letter ∷ next ∷ letters) = IsTrue (is_plain letter) × ArePlain (next ∷ letters)

-- the numbers of arguments that plain letters allow
abbrev pub fewest_plain : List Param → ℕ
fewest_plain letters = count_by is_plain letters

abbrev pub most_plain : List Param → Option ℕ
most_plain letters = cond (count_by is_more letters == 0) (Some (length letters)) None

-- a row that anyone may add: no effect, few and plain letters, an integer or nothing as the result
pub record IsPlainRow (row : Row) : Type 0 where
  pub effect : row.effect ≡ Plain
  pub few : length row.parameters ≤ 8
  pub letters : ArePlain row.parameters
  pub result : (row.result ≡ result.Int) ⊎ (row.result ≡ result.Nothing)
  pub fewest : row.fewest ≡ fewest_plain row.parameters
  pub most : row.most ≡ most_plain row.parameters

-- a row of the profile or that of _Fork, but for the mark of safety
abbrev pub IsKnown : Row → Type 0
IsKnown row = (known : Row) × (Contains profile_rows known ⊎ (known ≡ split_row)) × (row ≡ record known { safe = row.safe })

-- a row that a table may hold
abbrev pub IsLawful : Row → Type 0
IsLawful row = IsKnown row ⊎ IsPlainRow row
