use Rattle.std.proofs.Common.{[], ap, ◌∙◌}
use Rattle.c_tree.specs.TypeWords.{built_in_types}
use Rattle.program_scope.proofs.Adds.{added_all}
use Rattle.program_scope.proofs.Scopes.{scope}
use Rattle.program_scope.specs.With.{with_all}
use Rattle.program_scope.proofs.scope.Scope.first.Goals as goal

pub returns : goal.returns
unfolding built_in_types
returns c =
    let types = c.in_ok-add_all.ensures ∙ ap (λ ks. with_all ks built_in_types) c.new-types.ensures ∙ added_all [] built_in_types in
    ap (λ ts. scope ts c.new.result) types ∙ ap (scope built_in_types) c.new.ensures
