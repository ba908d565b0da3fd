-- The lines that are printed, but for those of faults of a text.
use Rattle.std.specs.Prelude.{ℕ, List, ◌++◌, Bool, true, false, codes}
use Rattle.posix_table.specs.Profile.{profile_rows}
use Rattle.posix_table.specs.Text.{text_of_table}

abbrev pub usage_line : List ℕ
usage_line = codes "usage: asafe certify FILE [--rules R] [--depth D] [--cert OUT] [--json] | check FILE CERT [--rules R] | show FILE | table | gen N\n"

-- the report of no finding, as JSON and as text
abbrev pub report : Bool → List ℕ
report true = codes "{\"count\":0,\"findings\":[]}\n"
report false = codes "findings: 0\n"

-- the function table, a line a row
abbrev pub table_text : List ℕ
table_text = text_of_table profile_rows

-- cannot read NAME
unfoldable pub cannot_read_line : List ℕ → List ℕ
cannot_read_line name = codes "cannot read " ++ (name ++ codes "\n")

-- NAME: too large
unfoldable pub too_large_line : List ℕ → List ℕ
too_large_line name = name ++ codes ": too large\n"
