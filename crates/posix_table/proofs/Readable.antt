-- The line of each row of the profiles says the row: its signature, read by the notation, gives the row back.
use Rattle.std.proofs.Common.{◌≡◌, map, refl}
use Rattle.posix_table.specs.declared.row.Row.{Row}
use Rattle.posix_table.specs.Notation.{row_of, words}
use Rattle.posix_table.specs.Profile.{profile_rows, later_rows}
use Rattle.posix_table.specs.Text.{signature_text}

-- the row that the notation reads out of a row's signature
abbrev read_back : Row → Row
read_back row = row_of row.safe (words (signature_text row)) row.name

pub profile_reads_back : map read_back profile_rows ≡ profile_rows
unfolding profile_rows
profile_reads_back = refl

pub later_reads_back : map read_back later_rows ≡ later_rows
unfolding later_rows profile_rows
later_reads_back = refl
