-- An if stands for one of two trees.
use Rattle.std.proofs.Common.{◌≡◌, Some, None}
use Rattle.c_tree.specs.Tree as c
use Rattle.c_tree.specs.View.{view_expression}
use Rattle.c_tree.specs.StatementView.{view_statement}
use Rattle.c_tree.specs.declared.tree.Expr.{Expr}
use Rattle.c_tree.specs.declared.tree.Stmt.{Stmt}
use Rattle.c_tree.specs.declared.tree.Stmt.TheVariants as s
use Rattle.c_tree.proofs.StatementViewLemmas.{view_Stmt_If}

pub view_if : (e : Expr) (x : Stmt) → view_statement (s.If e x None) ≡ c.if_statement (view_expression e) (view_statement x)
view_if e x = view_Stmt_If e x None

pub view_if_else : (e : Expr) (x y : Stmt) → view_statement (s.If e x (Some y)) ≡ c.if_else_statement (view_expression e) (view_statement x) (view_statement y)
view_if_else e x y = view_Stmt_If e x (Some y)
