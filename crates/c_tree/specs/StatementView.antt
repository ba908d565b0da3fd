-- The plain statements and declarations that values of the program stand for.
use Rattle.std.specs.Prelude.{ℕ, List, [], ◌∷◌, map, Option, Some, None, option_map, Bool}
use Rattle.c_tree.specs.Tree as c
use Rattle.c_tree.specs.Tree.{Initializer, Initializers, no_initializers, initializers, StatementTree, Statements, no_statements, statements}
use Rattle.c_tree.specs.View.{view_expression, view_specifier, view_declarator, view_parameters, specifiers_of}
use Rattle.c_tree.specs.declared.tree.Init.{Init as Written, fold-Init}
use Rattle.c_tree.specs.declared.tree.Init.TheOpen.{Init-F, InitList-F, Part-F}
use Rattle.c_tree.specs.declared.tree.InitList.{InitList, fold-InitList}
use Rattle.c_tree.specs.declared.tree.Part.{Part, fold-Part}
use Rattle.c_tree.specs.declared.tree.Named.{Named}
use Rattle.c_tree.specs.declared.tree.Function.{Function}
use Rattle.c_tree.specs.declared.tree.Item.{Item}
use Rattle.c_tree.specs.declared.tree.Item.TheVariants as item
use Rattle.c_tree.specs.declared.tree.Decl.{Decl}
use Rattle.c_tree.specs.declared.tree.ForStart.{ForStart}
use Rattle.c_tree.specs.declared.tree.ForStart.TheVariants as start
use Rattle.c_tree.specs.declared.tree.Stmt.{Stmt, fold-Stmt}
use Rattle.c_tree.specs.declared.tree.Stmt.TheOpen.{Stmt-F}

abbrev pub AtInitializer : Type 0
AtInitializer = Option (List ℕ) × Initializer

abbrev pub AtInitializers : Type 0
AtInitializers = Initializers × Bool

abbrev pub initializers_of : List AtInitializer → Initializers
initializers_of [] = no_initializers
initializers_of (x ∷ xs) = initializers x.0 x.1 (initializers_of xs)

abbrev pub init_step : Init-F Initializer AtInitializers AtInitializer → Initializer
init_step (Init-F.Expr e) = c.single (view_expression e)
init_step (Init-F.Parts ps) = c.listed ps.0 ps.1

abbrev pub list_step : InitList-F Initializer AtInitializers AtInitializer → AtInitializers
list_step l = (initializers_of l.parts, l.comma)

abbrev pub initializer_step : Part-F Initializer AtInitializers AtInitializer → AtInitializer
initializer_step p = (p.name, p.init)

abbrev pub view_init : Written → Initializer
view_init = fold-Init Initializer AtInitializers AtInitializer init_step list_step initializer_step

abbrev pub view_list : InitList → AtInitializers
view_list = fold-InitList Initializer AtInitializers AtInitializer init_step list_step initializer_step

abbrev pub view_part : Part → AtInitializer
view_part = fold-Part Initializer AtInitializers AtInitializer init_step list_step initializer_step

abbrev pub view_named : Named → c.NamedTree
view_named n = record { declarator = view_declarator n.declarator; init = option_map view_init n.init }

abbrev pub view_declaration : Decl → c.DeclarationTree
view_declaration d = record { storage = d.storage; specs = specifiers_of (map view_specifier d.specs); names = map view_named d.names }

abbrev pub view_start : ForStart → c.ForStartTree
view_start (start.Decl d) = c.start_declaration (view_declaration d)
view_start (start.Expr e) = c.start_expression (option_map view_expression e)

abbrev pub statements_of : List StatementTree → Statements
statements_of [] = no_statements
statements_of (x ∷ xs) = statements x (statements_of xs)

abbrev pub statement_step : Stmt-F StatementTree → StatementTree
statement_step (Stmt-F.Block ss) = c.block (statements_of ss)
statement_step (Stmt-F.Decl d) = c.declaration (view_declaration d)
statement_step (Stmt-F.Expr e) = c.expression_statement (option_map view_expression e)
statement_step (Stmt-F.If e s None) = c.if_statement (view_expression e) s
statement_step (Stmt-F.If e s (Some o)) = c.if_else_statement (view_expression e) s o
statement_step (Stmt-F.While e s) = c.while_statement (view_expression e) s
statement_step (Stmt-F.DoWhile s e) = c.do_statement s (view_expression e)
statement_step (Stmt-F.For a x y s) = c.for_statement (view_start a) (option_map view_expression x) (option_map view_expression y) s
statement_step (Stmt-F.Switch e s) = c.switch_statement (view_expression e) s
statement_step (Stmt-F.Case e) = c.case_label (view_expression e)
statement_step Stmt-F.Default = c.default_label
statement_step (Stmt-F.Label n) = c.named_label n
statement_step Stmt-F.Break = c.break_statement
statement_step Stmt-F.Continue = c.continue_statement
statement_step (Stmt-F.Return e) = c.return_statement (option_map view_expression e)
statement_step (Stmt-F.Goto n) = c.goto_statement n

abbrev pub view_statement : Stmt → StatementTree
view_statement = fold-Stmt StatementTree statement_step

abbrev pub if_tree : c.Expression → StatementTree → Option StatementTree → StatementTree
if_tree e s None = c.if_statement e s
if_tree e s (Some o) = c.if_else_statement e s o

abbrev pub view_function : Function → c.FunctionTree
view_function f = record {
  storage = f.storage;
  specs = specifiers_of (map view_specifier f.specs);
  stars = f.stars;
  name = f.name;
  params = (view_parameters f.params).0;
  word = (view_parameters f.params).1;
  body = view_statement f.body;
}

abbrev pub view_item : Item → c.ItemTree
view_item (item.Function f) = c.function_item (view_function f)
view_item (item.Decl d) = c.declaration_item (view_declaration d)
