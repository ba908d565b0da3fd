use Rattle.std.proofs.Common.{◌∷◌, ap, sym, ◌∙◌}
use Rattle.std.proofs.lemmas.Result.{on_ok_weaker}
use Rattle.c_tree.specs.declared.tree.Storage.TheVariants as st
use Rattle.c_tree.specs.DeclaredNames.{declarator_name}
use Rattle.c_tree.specs.Shape.{behind_named}
use Rattle.c_tree.specs.StatementView.{view_named}
use Rattle.c_tree.specs.View.{view_declarator}
use Rattle.program_scope.proofs.Adds.{added_inside, added_named}
use Rattle.program_scope.proofs.Scopes.{scope, behind_other}
use Rattle.program_scope.proofs.scope.Scope.behind_named.Goals as goal

pub returns-in_ok-add_first-in-Typedef : goal.returns-in_ok-add_first-in-Typedef
returns-in_ok-add_first-in-Typedef c =
    let d = view_declarator c.args.n.now.declarator in
    let n = view_named c.args.n.now in
    let types = c.in_ok-add_first-in-Typedef.ensures ∙ ap (λ k. k ∷ c.self.inside.types) (c.as_bytes.ensures ∙ c.name_of.ensures) in
    let same = ap (behind_named st.Typedef n) c.self.view_is ∙ ap (λ s. behind_named s n c.args.self.now) (sym c.in-Typedef.is) in
    on_ok_weaker c.add_inside.result
    (λ h. ap (λ ts. scope ts c.add_inside.new.names) types ∙ ap (scope (declarator_name d ∷ c.self.inside.types)) (h ∙ added_inside c.self.inside.others d) ∙ same) c.add_inside.ensures

pub returns-in-Nothing : goal.returns-in-Nothing
returns-in-Nothing c =
    let n = view_named c.args.n.now in
    let inside = scope c.self.inside.types c.self.inside.others in
    let same = behind_other c.args.storage n inside c.in-Nothing.is ∙ ap (behind_named c.args.storage n) c.self.view_is in
    on_ok_weaker c.add_named.result (λ h. ap (scope c.self.inside.types) (h ∙ added_named c.self.inside.others n) ∙ same) c.add_named.ensures
