use Rattle.std.proofs.Common.{◌≡◌, ◌++◌, map, take}
use Rattle.posix_table.specs.Line.{row_of_line}
use Rattle.posix_table.proofs.known.add.Given as goal

abbrev pub invariant-loop-line : goal.invariant-loop-line
invariant-loop-line l = l.rows.items ≡ l.fn.rows.items ++ map row_of_line (take l.line-index l.lines)
