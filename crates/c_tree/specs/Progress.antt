-- A search for a node by its number in preorder: it passes the nodes one by one, and stops where it finds the node.
use Rattle.std.specs.Prelude.{ℕ, zero, suc, ◌+◌, Option, Some, None, if◌then◌else◌}
use Rattle.c_tree.specs.Nodes.{Node, is_function}

-- how many nodes are left to pass, how many functions were passed, and the node once it is found
pub record Progress : Type 0 where
  pub left : ℕ
  pub functions : ℕ
  pub found : Option Node

abbrev pub count_function : Node → ℕ → ℕ
count_function n functions = if is_function n then functions + 1 else functions

-- the next node
abbrev pub pass_at : ℕ → ℕ → Node → Progress
pass_at zero functions n = record { left = 0; functions = functions; found = Some n }
pass_at (suc left) functions n = record { left = left; functions = count_function n functions; found = None }

abbrev pub pass_from : Option Node → Progress → Node → Progress
pass_from (Some x) p n = p
pass_from None p n = pass_at p.left p.functions n

unfoldable pub pass : Progress → Node → Progress
pass p n = pass_from p.found p n
