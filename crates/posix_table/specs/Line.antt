-- What a line of the compact table says.
use Rattle.posix_table.specs.declared.row.Row.{Row}
use Rattle.posix_table.specs.declared.lines.Line.{Line}

-- the row of a line
abbrev pub row_of_line : Line → Row
row_of_line line = record {
  name = line.0.now;
  safe = line.1;
  fewest = line.2;
  most = line.3;
  parameters = line.4.now;
  result = line.5;
  effect = line.6;
}
