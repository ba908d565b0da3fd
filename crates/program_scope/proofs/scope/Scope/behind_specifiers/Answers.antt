use Rattle.std.proofs.Common.{map, ap, ◌∙◌}
use Rattle.std.proofs.lemmas.Result.{on_ok_weaker}
use Rattle.c_tree.specs.Shape.{behind_specifiers}
use Rattle.c_tree.specs.View.{view_specifier, specifiers_of}
use Rattle.program_scope.proofs.Adds.{added_specifiers}
use Rattle.program_scope.proofs.Scopes.{scope}
use Rattle.program_scope.proofs.scope.Scope.behind_specifiers.Goals as goal

pub returns : goal.returns
returns c =
    let ws = specifiers_of (map view_specifier c.args.all.now) in
    on_ok_weaker c.add_specifiers.result
    (λ h. ap (scope c.self.inside.types) (h ∙ added_specifiers c.self.inside.others ws) ∙ ap (behind_specifiers ws) c.self.view_is) c.add_specifiers.ensures
