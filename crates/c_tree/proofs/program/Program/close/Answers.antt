use Rattle.std.proofs.Common.{option_map, slice_get, is_some, ap, sym, subst, ◌∙◌}
use Rattle.c_tree.specs.ProgramTree.{ProgramTree, IsPlaced}
use Rattle.c_tree.specs.Search.{progress, seen}
use Rattle.c_tree.proofs.Found.{close_function, close_other, close_none, closes_functions}
use Rattle.c_tree.proofs.program.Program.close.Goals as goal

pub returns-then-is_function : goal.returns-then-is_function
returns-then-is_function c =
    let brace = c.copied.ensures ∙ c.get.ensures.value ∙ ap (λ (p : ProgramTree). slice_get p.closes c.search-search.result.functions) c.self.view_is
    ∙ close_function c.args.self.now c.args.n.0 (progress c.search-search.result) (seen c.in-Some.node) c.search-search.ensures (ap (option_map seen) c.in-Some.is)
    (sym c.is_function.ensures ∙ c.if-is_function.true) in
    record { brace = brace; known = ap is_some brace ∙ closes_functions c.args.self.now (subst IsPlaced c.self.view_is c.self.invariant) c.args.n.0 }

pub returns-else-is_function : goal.returns-else-is_function
returns-else-is_function c =
    let brace = close_other c.args.self.now c.args.n.0 (progress c.search-search.result) (seen c.in-Some.node) c.search-search.ensures (ap (option_map seen) c.in-Some.is)
    (sym c.is_function.ensures ∙ c.if-is_function.false) in
    record { brace = brace; known = ap is_some brace ∙ closes_functions c.args.self.now (subst IsPlaced c.self.view_is c.self.invariant) c.args.n.0 }

pub returns-in-None : goal.returns-in-None
returns-in-None c =
    let brace = close_none c.args.self.now c.args.n.0 (progress c.search-search.result) c.search-search.ensures (ap (option_map seen) c.in-None.is) in
    record { brace = brace; known = ap is_some brace ∙ closes_functions c.args.self.now (subst IsPlaced c.self.view_is c.self.invariant) c.args.n.0 }
