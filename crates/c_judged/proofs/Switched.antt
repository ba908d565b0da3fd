-- Where a block is meant, as behind switch and as the body of a function, an if is what it is elsewhere.
use Rattle.std.proofs.Common.{◌≡◌, Option, Some, None, refl}
use Rattle.c_tree.specs.Tree.{Expression, StatementTree}
use Rattle.c_tree.specs.StatementView.{if_tree}
use Rattle.c_environment.specs.Environment.{Environment}
use Rattle.c_declared.specs.Said.{Said}
use Rattle.c_declared.specs.Operands.{Rows}
use Rattle.c_environment.specs.Scopes.{behind_statement, behind_body}
use Rattle.c_judged.specs.Statements.{Body, Cases, no_cases, said_statement, said_switched}
use Rattle.c_judged.specs.Program.{said_body}

pub if_elsewhere : (rows : Rows) (f : Body) (env : Environment) (cs : Cases) (x : Expression) (s : StatementTree) (o : Option StatementTree) (elsewhere : Said) →
    said_switched rows f env cs (if_tree x s o) elsewhere ≡ elsewhere
if_elsewhere rows f env cs x s None elsewhere = refl
if_elsewhere rows f env cs x s (Some r) elsewhere = refl

pub if_body : (rows : Rows) (f : Body) (env : Environment) (x : Expression) (s : StatementTree) (o : Option StatementTree) →
    said_body rows f env (if_tree x s o) ≡ said_statement rows f env no_cases (if_tree x s o)
if_body rows f env x s None = refl
if_body rows f env x s (Some r) = refl

pub if_behind : (env : Environment) (x : Expression) (s : StatementTree) (o : Option StatementTree) → behind_body env (if_tree x s o) ≡ behind_statement env (if_tree x s o)
if_behind env x s None = refl
if_behind env x s (Some r) = refl
