use Rattle.std.proofs.Common.{◌≡◌, ◌++◌, length, string_bytes}
use Rattle.posix_table.specs.Text.{text_of_table}
use Rattle.posix_table.proofs.text.push_lines.Given as goal

abbrev pub invariant-loop-rows : goal.invariant-loop-rows
invariant-loop-rows l = string_bytes l.out ++ text_of_table l.rows ≡ string_bytes l.fn.out ++ text_of_table l.fn.rows

abbrev pub decreases-loop-rows : goal.decreases-loop-rows
decreases-loop-rows l = length l.rows
