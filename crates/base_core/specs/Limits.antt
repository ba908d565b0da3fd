-- The limits of what is read, which are this project's own.
use Rattle.std.specs.Prelude.{ℕ}

-- the greatest number of bytes of a C text
abbrev pub most_bytes : ℕ
most_bytes = 1048576

-- of a program: brackets that are open at once, nodes, and depth
abbrev pub most_open : ℕ
most_open = 100

abbrev pub most_nodes : ℕ
most_nodes = 100000

abbrev pub most_depth : ℕ
most_depth = 1000

-- so many tokens at least lie before one at which nodes or depth are too many
abbrev pub fewest_before_large : ℕ
fewest_before_large = 900
