-- As many judgements as nodes: what is said of the nodes of a program is said in their order, of each once.
use Rattle.std.specs.Prelude.{◌≡◌, ◌+◌, List, length}
use Rattle.c_tree.specs.Tree.{ItemTree}
use Rattle.c_tree.specs.Nodes.{nodes}
use Rattle.c_environment.specs.Environment.{Environment}
use Rattle.c_declared.specs.Operands.{Rows}
use Rattle.c_judged.specs.Program.{said_items}

-- Over each table, wherever names stand for anything, and for all items: the first of the nodes is the program itself, of which no judgement is
-- said here.
abbrev pub AsManyAsNodes : Type 0
AsManyAsNodes = (rows : Rows) (env : Environment) (items : List ItemTree) → length (said_items rows env items).all + 1 ≡ length (nodes items)
