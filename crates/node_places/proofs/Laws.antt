-- There is one first token for each node and one last token for each function, and none of them is behind the program.
use Rattle.std.proofs.Common.{◌≡◌, ◌+◌, ◌<◌, ◌≤◌, List, [], ◌∷◌, length, false, refl, arith, length-append}
use Rattle.std.specs.Prelude.{All, count_by}
use Rattle.std.proofs.lemmas.List.Elements.{All-cons, All-weaker}
use Rattle.c_tree.specs.Nodes.{is_function, program_node, nodes, nodes_items}
use Rattle.c_tree.specs.Spelling.{spell}
use Rattle.c_tree.specs.Tree.{ItemTree}
use Rattle.node_places.specs.Starts.{starts, starts_items, closes}
use Rattle.node_places.proofs.Goes.{functions_cons, lifted}
use Rattle.node_places.proofs.Walks.{entry, items_run, item_spelled}

pub one_start_each : (items : List ItemTree) → length (starts items) ≡ length (nodes items)
one_start_each items = let p = items_run items {w = entry} in omega (arith, p.each)

pub one_close_each : (items : List ItemTree) → length (closes items) ≡ count_by is_function (nodes items)
one_close_each items = let p = items_run items {w = entry} in omega (arith, p.functions, functions_cons (program_node items) (nodes_items items) false refl)

-- the nodes of the items stand at tokens
pub items_within : (items : List ItemTree) → All (λ k. k < length (spell items)) (starts_items 0 items)
items_within items = let p = items_run items {w = entry} in lifted (0 + length (spell items)) (length (spell items)) (starts_items 0 items) (omega arith) p.within

pub closes_within : (items : List ItemTree) → All (λ k. k < length (spell items)) (closes items)
closes_within items = let p = items_run items {w = entry} in lifted (0 + length (spell items)) (length (spell items)) (closes items) (omega arith) p.closed_within

some_spelled : (items : List ItemTree) → 0 < length items → 0 < length (spell items)
some_spelled [] h = absurd (omega (arith, h))
some_spelled (i ∷ is) h = let p = item_spelled i in simp length-append (omega (arith, p))

-- each node of a program that has items stands at a token
pub starts_within : (items : List ItemTree) → 0 < length items → All (λ k. k < length (spell items)) (starts items)
starts_within items h = All-cons (λ k. k < length (spell items)) 0 (starts_items 0 items) (some_spelled items h) (items_within items)

-- and a program without items at the end of the text
pub starts_at_most : (items : List ItemTree) → All (λ k. k ≤ length (spell items)) (starts items)
starts_at_most items = All-cons (λ k. k ≤ length (spell items)) 0 (starts_items 0 items) (omega arith) (All-weaker (λ k. k < length (spell items)) (λ k. k ≤ length (spell items)) (λ k h. omega (arith, h)) (starts_items 0 items) (items_within items))
