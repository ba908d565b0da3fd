-- Tables of rows.
use Rattle.std.specs.Prelude.{ℕ, ◌≤◌, List, Option, length, map}
use Rattle.std.specs.List.{All, find, position}
use Rattle.std.specs.List.Sorted.{IsStrictlySortedBy}
use Rattle.std.specs.Str.{bytes_eq}
use Rattle.std.specs.Ordering.{nat_cmp}
use Rattle.std.specs.Cmp.Lexicographic.{slice_cmp}
use Rattle.posix_table.specs.declared.row.Row.{Row}
use Rattle.posix_table.specs.Law.{IsLawful}

-- the row of that name
unfoldable pub row_named : List Row → List ℕ → Option Row
row_named rows name = find (λ row. bytes_eq row.name name) rows

-- the place of the row of that name, counted from 0
unfoldable pub place_named : List Row → List ℕ → Option ℕ
place_named rows name = position (λ row. bytes_eq row.name name) rows

-- a table: lawful rows, not too many, in the order of the bytes of their names, which differ
pub record IsTable (rows : List Row) : Type 0 where
  pub sorted : IsStrictlySortedBy (slice_cmp nat_cmp) (map (λ row. row.name) rows)
  pub lawful : All IsLawful rows
  pub few : length rows ≤ 100000
