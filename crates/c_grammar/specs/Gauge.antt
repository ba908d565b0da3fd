-- How the nodes and the depth of a tree are counted while it is read, and the limits on them.
use Rattle.std.specs.Prelude.{ℕ, ◌+◌, max, Bool, ◌&&◌, nat_le, Option, Some, None, if◌then◌else◌}
use Rattle.base_core.specs.Limits.{most_nodes, most_depth}
use Rattle.c_grammar.specs.Body.{Gauge}

-- nothing is counted
abbrev pub free : Gauge (Unit {0})
free = record { spends = λ n d x. Some tt; rises = λ x. Some tt; enters = λ n x. tt; leaves = λ x y. tt }

-- the nodes that are made or necessary, and the depth of the deepest in this scope
pub record Meter : Type 0 where
  pub made : ℕ
  pub peak : ℕ

abbrev pub added : ℕ → ℕ → Meter → Meter
added n d m = record { made = m.made + n; peak = max m.peak d }

abbrev pub raised : Meter → Meter
raised m = record { made = m.made; peak = m.peak + 1 }

abbrev pub entered : ℕ → Meter → Meter
entered n m = record { made = m.made; peak = n }

abbrev pub left : Meter → Meter → Meter
left m y = record { made = y.made; peak = max m.peak y.peak }

-- all is counted, and no limit is passed
abbrev pub counted : Gauge Meter
counted = record { spends = λ n d m. Some (added n d m); rises = λ m. Some (raised m); enters = entered; leaves = left }

-- within the limits of a program
abbrev pub fits : Meter → Bool
fits m = nat_le m.made most_nodes && nat_le m.peak most_depth

abbrev pub within : Meter → Option Meter
within m = if fits m then Some m else None

-- all is counted, up to the limits
abbrev pub limited : Gauge Meter
limited = record { spends = λ n d m. within (added n d m); rises = λ m. within (raised m); enters = entered; leaves = left }
