-- Whether expressions that may be missing are settled.
use Rattle.std.proofs.Common.{◌≡◌, Option, Some, None, refl}
use Rattle.c_tree.specs.Tree.{Expression}
use Rattle.c_environment.specs.Environment.{Environment}
use Rattle.c_declared.specs.Operands.{Rows}
use Rattle.c_judged.specs.Statements.{said_optional, operand_if_any, settled_by}

pub optional : (rows : Rows) (env : Environment) (x : Option Expression) → settled_by (operand_if_any rows env x) ≡ (said_optional rows env x).settled
optional rows env None = refl
optional rows env (Some x) = refl
