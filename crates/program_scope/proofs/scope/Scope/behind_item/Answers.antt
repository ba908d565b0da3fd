use Rattle.std.proofs.Common.{ap, sym, ◌∙◌}
use Rattle.std.proofs.lemmas.Result.{on_ok_weaker}
use Rattle.c_tree.specs.Shape.{behind_item}
use Rattle.c_tree.specs.StatementView.{view_function, view_item}
use Rattle.c_tree.specs.Tree.{function_item}
use Rattle.program_scope.proofs.Adds.{added_function}
use Rattle.program_scope.proofs.Scopes.{scope}
use Rattle.program_scope.proofs.scope.Scope.behind_item.Goals as goal

pub returns-in-Function : goal.returns-in-Function
returns-in-Function c =
    let f = view_function c.in-Function.f in
    let same = ap (behind_item (function_item f)) c.self.view_is ∙ ap (λ i. behind_item (view_item i) c.args.self.now) (sym c.in-Function.is) in
    on_ok_weaker c.add_function.result (λ h. ap (scope c.self.inside.types) (h ∙ added_function c.self.inside.others f) ∙ same) c.add_function.ensures
