-- Scopes, by their names.
use Rattle.std.proofs.Common.{◌≡◌, List, ◌++◌, ◌⊎◌, ⊎_elim, ap, sym}
use Rattle.c_tree.specs.declared.tree.Storage.{Storage}
use Rattle.c_tree.specs.declared.tree.Storage.TheVariants as st
use Rattle.c_tree.specs.DeclaredNames.{declared_named}
use Rattle.c_tree.specs.Shape.{Scope, behind_named}
use Rattle.c_tree.specs.Tree.{Name, NamedTree}

abbrev pub scope : List Name → List Name → Scope
scope types others = record { types = types; others = others }

-- a name that becomes no type joins the others
pub behind_other : (s : Storage) (n : NamedTree) (x : Scope) → (s ≡ st.Nothing) ⊎ ((s ≡ st.Static) ⊎ (s ≡ st.Extern)) →
    scope x.types (x.others ++ declared_named n) ≡ behind_named s n x
behind_other s n x h = ⊎_elim (λ e. ap (λ t. behind_named t n x) (sym e)) (λ r. ⊎_elim (λ e. ap (λ t. behind_named t n x) (sym e)) (λ e. ap (λ t. behind_named t n x) (sym e)) r) h
