use Rattle.c_tree.specs.ProgramTree.{trees}
use Rattle.c_tree.specs.Search.{progress}
use Rattle.c_tree.proofs.Found.{through_finds}
use Rattle.c_tree.proofs.program.Program.node.Goals as goal

pub returns : goal.returns
returns c = through_finds (progress c.search-search.result) c.args.n.0 (trees c.args.self.now) c.search-search.ensures
