-- A program as callers see it.
use Rattle.std.specs.Prelude.{◌≡◌, ℕ, zero, suc, ◌<◌, ◌^◌, List, map, Option, Some, None, Bool, false, slice_get, length, take, count_by, All, IsUtf8, if◌then◌else◌}
use Rattle.base_core.specs.declared.place.Place.{Place}
use Rattle.c_tree.specs.declared.tree.Item.{Item}
use Rattle.c_tree.specs.Tree.{Name, ItemTree}
use Rattle.c_tree.specs.StatementView.{view_item}
use Rattle.c_tree.specs.Nodes.{Node, nodes, is_function}

-- its items, the place of each node's first token, the closing brace of each function, the end of the text, and the names
-- of the files of line markers, from file 1 on
pub record ProgramTree : Type 0 where
  pub items : List Item
  pub places : List Place
  pub closes : List Place
  pub end : Place
  pub files : List Name

-- its items as plain data
abbrev pub trees : ProgramTree → List ItemTree
trees p = map view_item p.items

-- one place for each node, one closing brace for each function, names of files in UTF-8, fewer than 2^32 nodes
pub record IsPlaced (p : ProgramTree) : Type 0 where
  pub places : length p.places ≡ length (nodes (trees p))
  pub closes : length p.closes ≡ count_by is_function (nodes (trees p))
  pub names : All IsUtf8 p.files
  pub few : length (nodes (trees p)) < 2 ^ 32

-- the closing brace of this node, the n-th, where it is a function
abbrev pub close_of : Option Node → ProgramTree → ℕ → Option Place
close_of None p n = None
close_of (Some x) p n = if is_function x then slice_get p.closes (count_by is_function (take n (nodes (trees p)))) else None

-- the closing brace of the n-th node, where it is a function
abbrev pub close_at : ProgramTree → ℕ → Option Place
close_at p n = close_of (slice_get (nodes (trees p)) n) p n

abbrev pub is_function_node : Option Node → Bool
is_function_node None = false
is_function_node (Some x) = is_function x

-- the n-th node is a function
abbrev pub is_function_at : ProgramTree → ℕ → Bool
is_function_at p n = is_function_node (slice_get (nodes (trees p)) n)

-- the name of a file: file 0 is the one that the command names, and has none here
abbrev pub file_name : List Name → ℕ → Option Name
file_name files zero = None
file_name files (suc n) = slice_get files n
