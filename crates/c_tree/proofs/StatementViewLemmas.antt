-- What statements, initialisers and enumerators of the program stand for, variant by variant.
use Rattle.std.proofs.Common.{◌≡◌, List, Option, None, Some, map, ap, sym, ◌∙◌}
use Rattle.std.specs.Prelude.{option_map}
use Rattle.base_core.specs.declared.lexeme.Lexeme.{Lexeme}
use Rattle.c_tree.specs.Tree as c
use Rattle.c_tree.specs.Tree.{StatementTree, Initializer}
use Rattle.c_tree.specs.View.{view_expression}
use Rattle.c_tree.specs.StatementView.{view_init, view_list, view_part, view_declaration, view_start, view_statement, statements_of, initializers_of, statement_step, init_step, list_step, initializer_step, AtInitializer, AtInitializers, if_tree}
use Rattle.c_tree.specs.declared.tree.Expr.{Expr}
use Rattle.c_tree.specs.declared.tree.Decl.{Decl}
use Rattle.c_tree.specs.declared.tree.ForStart.{ForStart}
use Rattle.c_tree.specs.declared.tree.Stmt.{Stmt, fold-roll-Stmt}
use Rattle.c_tree.specs.declared.tree.Stmt.TheOpen.{Stmt-F}
use Rattle.c_tree.specs.declared.tree.Stmt.TheVariants as s
use Rattle.c_tree.specs.declared.tree.Init.{fold-roll-Init}
use Rattle.c_tree.specs.declared.tree.Init.TheOpen.{Init-F}
use Rattle.c_tree.specs.declared.tree.Init.TheVariants as i
use Rattle.c_tree.specs.declared.tree.InitList.{InitList, out-InitList, fold_out-InitList}
use Rattle.c_tree.specs.declared.tree.Part.{Part, out-Part, fold_out-Part}

pub view_Stmt_Block : (x1 : List Stmt) → view_statement (s.Block x1) ≡ c.block (statements_of (map view_statement x1))
view_Stmt_Block x1 = ap view_statement (sym (s.rolls-Block x1)) ∙ fold-roll-Stmt StatementTree statement_step (Stmt-F.Block x1)

pub view_Stmt_Decl : (x1 : Decl) → view_statement (s.Decl x1) ≡ c.declaration (view_declaration x1)
view_Stmt_Decl x1 = ap view_statement (sym (s.rolls-Decl x1)) ∙ fold-roll-Stmt StatementTree statement_step (Stmt-F.Decl x1)

pub view_Stmt_Expr : (x1 : Option Expr) → view_statement (s.Expr x1) ≡ c.expression_statement (option_map view_expression x1)
view_Stmt_Expr x1 = ap view_statement (sym (s.rolls-Expr x1)) ∙ fold-roll-Stmt StatementTree statement_step (Stmt-F.Expr x1)

pub view_Stmt_While : (x1 : Expr) (x2 : Stmt) → view_statement (s.While x1 x2) ≡ c.while_statement (view_expression x1) (view_statement x2)
view_Stmt_While x1 x2 = ap view_statement (sym (s.rolls-While x1 x2)) ∙ fold-roll-Stmt StatementTree statement_step (Stmt-F.While x1 x2)

pub view_Stmt_DoWhile : (x1 : Stmt) (x2 : Expr) → view_statement (s.DoWhile x1 x2) ≡ c.do_statement (view_statement x1) (view_expression x2)
view_Stmt_DoWhile x1 x2 = ap view_statement (sym (s.rolls-DoWhile x1 x2)) ∙ fold-roll-Stmt StatementTree statement_step (Stmt-F.DoWhile x1 x2)

pub view_Stmt_For : (x1 : ForStart) (x2 : Option Expr) (x3 : Option Expr) (x4 : Stmt) → view_statement (s.For x1 x2 x3 x4) ≡ c.for_statement (view_start x1) (option_map view_expression x2) (option_map view_expression x3) (view_statement x4)
view_Stmt_For x1 x2 x3 x4 = ap view_statement (sym (s.rolls-For x1 x2 x3 x4)) ∙ fold-roll-Stmt StatementTree statement_step (Stmt-F.For x1 x2 x3 x4)

pub view_Stmt_Switch : (x1 : Expr) (x2 : Stmt) → view_statement (s.Switch x1 x2) ≡ c.switch_statement (view_expression x1) (view_statement x2)
view_Stmt_Switch x1 x2 = ap view_statement (sym (s.rolls-Switch x1 x2)) ∙ fold-roll-Stmt StatementTree statement_step (Stmt-F.Switch x1 x2)

pub view_Stmt_Case : (x1 : Expr) → view_statement (s.Case x1) ≡ c.case_label (view_expression x1)
view_Stmt_Case x1 = ap view_statement (sym (s.rolls-Case x1)) ∙ fold-roll-Stmt StatementTree statement_step (Stmt-F.Case x1)

pub view_Stmt_Default : view_statement s.Default ≡ c.default_label
view_Stmt_Default = ap view_statement (sym s.rolls-Default) ∙ fold-roll-Stmt StatementTree statement_step Stmt-F.Default

pub view_Stmt_Label : (x1 : Lexeme) → view_statement (s.Label x1) ≡ c.named_label x1
view_Stmt_Label x1 = ap view_statement (sym (s.rolls-Label x1)) ∙ fold-roll-Stmt StatementTree statement_step (Stmt-F.Label x1)

pub view_Stmt_Break : view_statement s.Break ≡ c.break_statement
view_Stmt_Break = ap view_statement (sym s.rolls-Break) ∙ fold-roll-Stmt StatementTree statement_step Stmt-F.Break

pub view_Stmt_Continue : view_statement s.Continue ≡ c.continue_statement
view_Stmt_Continue = ap view_statement (sym s.rolls-Continue) ∙ fold-roll-Stmt StatementTree statement_step Stmt-F.Continue

pub view_Stmt_Return : (x1 : Option Expr) → view_statement (s.Return x1) ≡ c.return_statement (option_map view_expression x1)
view_Stmt_Return x1 = ap view_statement (sym (s.rolls-Return x1)) ∙ fold-roll-Stmt StatementTree statement_step (Stmt-F.Return x1)

pub view_Stmt_Goto : (x1 : Lexeme) → view_statement (s.Goto x1) ≡ c.goto_statement x1
view_Stmt_Goto x1 = ap view_statement (sym (s.rolls-Goto x1)) ∙ fold-roll-Stmt StatementTree statement_step (Stmt-F.Goto x1)

pub view_Stmt_If : (x1 : Expr) (x2 : Stmt) (x3 : Option Stmt) → view_statement (s.If x1 x2 x3) ≡ if_tree (view_expression x1) (view_statement x2) (option_map view_statement x3)
view_Stmt_If x1 x2 None = ap view_statement (sym (s.rolls-If x1 x2 None)) ∙ fold-roll-Stmt StatementTree statement_step (Stmt-F.If x1 x2 None)
view_Stmt_If x1 x2 (Some x3) = ap view_statement (sym (s.rolls-If x1 x2 (Some x3))) ∙ fold-roll-Stmt StatementTree statement_step (Stmt-F.If x1 x2 (Some x3))

pub view_Init_Expr : (x1 : Expr) → view_init (i.Expr x1) ≡ c.single (view_expression x1)
view_Init_Expr x1 = ap view_init (sym (i.rolls-Expr x1)) ∙ fold-roll-Init Initializer AtInitializers AtInitializer init_step list_step initializer_step (Init-F.Expr x1)

pub view_Init_Parts : (x1 : InitList) → view_init (i.Parts x1) ≡ c.listed (view_list x1).0 (view_list x1).1
view_Init_Parts x1 = ap view_init (sym (i.rolls-Parts x1)) ∙ fold-roll-Init Initializer AtInitializers AtInitializer init_step list_step initializer_step (Init-F.Parts x1)

pub view_InitList : (x : InitList) → view_list x ≡ (initializers_of (map view_part (out-InitList x).parts), (out-InitList x).comma)
view_InitList x = fold_out-InitList Initializer AtInitializers AtInitializer init_step list_step initializer_step x

pub view_Part : (x : Part) → view_part x ≡ ((out-Part x).name, view_init (out-Part x).init)
view_Part x = fold_out-Part Initializer AtInitializers AtInitializer init_step list_step initializer_step x
