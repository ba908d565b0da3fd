-- Names that are numbered one after the other.
use Rattle.std.proofs.Common.{◌≡◌, ℕ, suc, List, [], ◌∷◌, ◌++◌, refl}
use Rattle.c_scopes.specs.Scope.{Name, Scope, declare}
use Rattle.c_tree.specs.Tree.{ItemTree, function_item, declaration_item}
use Rattle.c_environment.specs.Counted.{Count, counted, item_objects}
use Rattle.c_environment.specs.Start.{numbered, defined_names, object_names}

pub counted_both : (p : Count) (xs ys : List Name) → counted (counted p xs) ys ≡ counted p (xs ++ ys)
counted_both p [] ys = refl
counted_both p (x ∷ xs) ys = counted_both (suc p.0, declare x p.0 p.1) xs ys

pub counted_names : (i : ℕ) (s : Scope) (ns : List Name) → (counted (i, s) ns).1 ≡ numbered i ns s
counted_names i s [] = refl
counted_names i s (n ∷ ns) = counted_names (suc i) (declare n i s) ns

-- behind the objects of an item those of the items after it
pub counted_item : (p : Count) (i : ItemTree) (is : List ItemTree) → counted (counted p (item_objects i)) (object_names is) ≡ counted p (object_names (i ∷ is))
counted_item p (function_item f) is = refl
counted_item p (declaration_item d) is = counted_both p (defined_names d.storage d.names) (object_names is)
