-- A list by its first part, where the list is seen by cases of that.
use Rattle.std.proofs.Common.{◌≡◌, ℕ, List, ◌∷◌, ◌&&◌, Option, Some, None, ℤ, refl}
use Rattle.c_constants.specs.Constants as constants
use Rattle.c_tree.specs.Tree.{Expression}
use Rattle.c_tree.specs.View.{sizes_of, enumerators_of}
use Rattle.c_environment.specs.Environment.{Environment, value}
use Rattle.c_environment.specs.Behind.{behind_sizes, behind_enumerators}
use Rattle.c_declared.specs.Said.{both}
use Rattle.c_declared.specs.Operands.{Rows}
use Rattle.c_declared.specs.Sizes.{are_sizes}
use Rattle.c_declared.specs.Nodes.{said_sizes, said_enumerators}
use Rattle.c_declared.specs.Parts.{said_size, is_size, behind_size, said_enumerator, behind_enumerator}

pub sizes_said : (rows : Rows) (env : Environment) (o : Option Expression) (os : List (Option Expression)) →
    said_sizes rows env (sizes_of (o ∷ os)) ≡ both (said_size rows env o) (said_sizes rows (behind_size env o) (sizes_of os))
sizes_said rows env None os = refl
sizes_said rows env (Some x) os = refl

pub sizes_are : (env : Environment) (o : Option Expression) (os : List (Option Expression)) →
    are_sizes env (sizes_of (o ∷ os)) ≡ (is_size env o && are_sizes (behind_size env o) (sizes_of os))
sizes_are env None os = refl
sizes_are env (Some x) os = refl

pub sizes_behind : (env : Environment) (o : Option Expression) (os : List (Option Expression)) →
    behind_sizes env (sizes_of (o ∷ os)) ≡ behind_sizes (behind_size env o) (sizes_of os)
sizes_behind env None os = refl
sizes_behind env (Some x) os = refl

pub enumerators_said : (rows : Rows) (env : Environment) (p : Option ℤ) (e : List ℕ × Option Expression) (es : List (List ℕ × Option Expression)) →
    said_enumerators rows env p (enumerators_of (e ∷ es))
    ≡ both (said_enumerator rows env e (constants.enumerator (value env) e.1 p))
    (said_enumerators rows (behind_enumerator env e (constants.enumerator (value env) e.1 p)) (constants.enumerator (value env) e.1 p) (enumerators_of es))
enumerators_said rows env p (n, None) es = refl
enumerators_said rows env p (n, Some x) es = refl

pub enumerators_behind : (env : Environment) (p : Option ℤ) (e : List ℕ × Option Expression) (es : List (List ℕ × Option Expression)) →
    behind_enumerators env p (enumerators_of (e ∷ es))
    ≡ behind_enumerators (behind_enumerator env e (constants.enumerator (value env) e.1 p)) (constants.enumerator (value env) e.1 p) (enumerators_of es)
enumerators_behind env p (n, None) es = refl
enumerators_behind env p (n, Some x) es = refl
