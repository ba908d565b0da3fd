-- Where a search has found its node, it passes the others without a change.
use Rattle.std.proofs.Common.{◌≡◌, List, [], ◌∷◌, Option, Some, None, true, refl, ap, ◌∙◌}
use Rattle.std.specs.Prelude.{is_some, option_map}
use Rattle.c_tree.specs.declared.node.NodeRef.{NodeRef}
use Rattle.c_tree.specs.declared.search.Search.{Search}
use Rattle.c_tree.specs.Search.{progress, seen}
use Rattle.c_tree.specs.Progress.{Progress, pass, pass_from}
use Rattle.c_tree.specs.Nodes.{Node, nodes_items, nodes_statements}
use Rattle.c_tree.specs.Passing.{pass_items, pass_statements, pass_all}
use Rattle.c_tree.specs.Tree.{ItemTree, Statements}
use Rattle.c_tree.proofs.Passing.{items_passes, statements_passes}

pass_stays : (p : Progress) (x n : Node) → p.found ≡ Some x → pass p n ≡ p
unfolding pass
pass_stays p x n found = ap (λ (f : Option Node). pass_from f p n) found

all_stay : (p : Progress) (x : Node) (ns : List Node) → p.found ≡ Some x → pass_all pass p ns ≡ p
all_stay p x [] found = refl
all_stay p x (n ∷ ns) found = ap (λ (q : Progress). pass_all pass q ns) (pass_stays p x n found) ∙ all_stay p x ns found

has_found : {A : Type 0} (o : Option A) → is_some o ≡ true → (x : A) × (o ≡ Some x)
has_found (Some x) found = (x, refl)
has_found None found = absurd (cc)

seen_of : (s : Search) (x : NodeRef) → s.found ≡ Some x → (progress s).found ≡ Some (seen x)
seen_of s x found = ap (option_map seen) found

pub items_stay : (s : Search) (is : List ItemTree) → is_some s.found ≡ true → pass_items pass (progress s) is ≡ progress s
items_stay s is found =
    let at = has_found s.found found in
    items_passes pass (progress s) is ∙ all_stay (progress s) (seen at.0) (nodes_items is) (seen_of s at.0 at.1)

pub statements_stay : (s : Search) (ss : Statements) → is_some s.found ≡ true → pass_statements pass (progress s) ss ≡ progress s
statements_stay s ss found =
    let at = has_found s.found found in
    statements_passes pass (progress s) ss ∙ all_stay (progress s) (seen at.0) (nodes_statements ss) (seen_of s at.0 at.1)
