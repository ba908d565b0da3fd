-- The nodes of a program, in preorder: a node stands before its parts, which come in order of the text. The members and
-- enumerators that stand in specifiers are parts of the innermost node that holds the specifiers, and so are the parts of
-- a parameter without a name, which is no node.
use Rattle.std.specs.Prelude.{List, [], ◌∷◌, ◌++◌, Option, Some, None, Bool, true, false}
use Rattle.c_tree.specs.Tree.{Name, Expression, comma, assign, choose, binary, cast, unary, before, size_of, size_of_type, index, call, dot, arrow, after, name, integer, character, text, paren, Expressions, no_expressions, expressions, Sizes, no_sizes, open_size, size, TypeTree, typed, Specifiers, no_specifiers, specifiers, Specifier, struct_of, enum_of, Members, no_members, member, Declarators, no_declarators, declarators, Enumerators, no_enumerators, enumerator, enumerator_with, DeclaratorTree, plain, array, function, pointer, Parameters, no_parameters, parameters, ParameterForm, named_form, bare_form, BareTree, bare_stars, bare_pointer, Initializer, single, listed, Initializers, no_initializers, initializers, NamedTree, DeclarationTree, ForStartTree, start_declaration, start_expression, StatementTree, block, declaration, expression_statement, if_statement, if_else_statement, while_statement, do_statement, for_statement, switch_statement, case_label, default_label, named_label, break_statement, continue_statement, return_statement, goto_statement, Statements, no_statements, statements, FunctionTree, ItemTree, function_item, declaration_item}

pub data Node : Type 0 where
  program_node : List ItemTree → Node
  function_node : FunctionTree → Node
  declaration_node : DeclarationTree → Node
  named_node : NamedTree → Node
  parameter_node : Specifiers → ParameterForm → Node
  member_node : DeclaratorTree → Node
  enumerator_node : Name → Option Expression → Node
  initializers_node : Initializers → Bool → Node
  statement_node : StatementTree → Node
  expression_node : Expression → Node

abbrev pub is_function : Node → Bool
is_function (function_node f) = true
is_function _ = false

abbrev mutual
  pub nodes_expression : Expression → List Node
  nodes_expression (comma x y) = expression_node (comma x y) ∷ (nodes_expression x ++ nodes_expression y)
  nodes_expression (assign o x y) = expression_node (assign o x y) ∷ (nodes_expression x ++ nodes_expression y)
  nodes_expression (choose x y z) = expression_node (choose x y z) ∷ (nodes_expression x ++ (nodes_expression y ++ nodes_expression z))
  nodes_expression (binary o x y) = expression_node (binary o x y) ∷ (nodes_expression x ++ nodes_expression y)
  nodes_expression (cast t x) = expression_node (cast t x) ∷ (nodes_type t ++ nodes_expression x)
  nodes_expression (unary o x) = expression_node (unary o x) ∷ nodes_expression x
  nodes_expression (before o x) = expression_node (before o x) ∷ nodes_expression x
  nodes_expression (size_of x) = expression_node (size_of x) ∷ nodes_expression x
  nodes_expression (size_of_type t) = expression_node (size_of_type t) ∷ nodes_type t
  nodes_expression (index x y) = expression_node (index x y) ∷ (nodes_expression x ++ nodes_expression y)
  nodes_expression (call f xs) = expression_node (call f xs) ∷ (nodes_expression f ++ nodes_expressions xs)
  nodes_expression (dot x n) = expression_node (dot x n) ∷ nodes_expression x
  nodes_expression (arrow x n) = expression_node (arrow x n) ∷ nodes_expression x
  nodes_expression (after o x) = expression_node (after o x) ∷ nodes_expression x
  nodes_expression (name n) = expression_node (name n) ∷ []
  nodes_expression (integer n) = expression_node (integer n) ∷ []
  nodes_expression (character n) = expression_node (character n) ∷ []
  nodes_expression (text ns) = expression_node (text ns) ∷ []
  nodes_expression (paren x) = expression_node (paren x) ∷ nodes_expression x

  pub nodes_expressions : Expressions → List Node
  nodes_expressions no_expressions = []
  nodes_expressions (expressions x xs) = nodes_expression x ++ nodes_expressions xs

  pub nodes_sizes : Sizes → List Node
  nodes_sizes no_sizes = []
  nodes_sizes (open_size xs) = nodes_sizes xs
  nodes_sizes (size x xs) = nodes_expression x ++ nodes_sizes xs

  pub nodes_type : TypeTree → List Node
  nodes_type (typed ws b) = nodes_specifiers ws ++ nodes_bare b

  pub nodes_specifiers : Specifiers → List Node
  nodes_specifiers no_specifiers = []
  nodes_specifiers (specifiers w ws) = nodes_specifier w ++ nodes_specifiers ws

  pub nodes_specifier : Specifier → List Node
  nodes_specifier (struct_of t ms) = nodes_members ms
  nodes_specifier (enum_of t es c) = nodes_enumerators es
  nodes_specifier _ = []

  pub nodes_members : Members → List Node
  nodes_members no_members = []
  nodes_members (member ws ds ms) = nodes_specifiers ws ++ (nodes_declarators ds ++ nodes_members ms)

  pub nodes_declarators : Declarators → List Node
  nodes_declarators no_declarators = []
  nodes_declarators (declarators d ds) = member_node d ∷ (nodes_declarator d ++ nodes_declarators ds)

  pub nodes_enumerators : Enumerators → List Node
  nodes_enumerators no_enumerators = []
  nodes_enumerators (enumerator n es) = enumerator_node n None ∷ nodes_enumerators es
  nodes_enumerators (enumerator_with n x es) = enumerator_node n (Some x) ∷ (nodes_expression x ++ nodes_enumerators es)

  pub nodes_declarator : DeclaratorTree → List Node
  nodes_declarator (plain ss n) = []
  nodes_declarator (array ss n xs) = nodes_sizes xs
  nodes_declarator (function ss n ps v) = nodes_parameters ps
  nodes_declarator (pointer ss qs n xs ps v) = nodes_sizes xs ++ nodes_parameters ps

  pub nodes_parameters : Parameters → List Node
  nodes_parameters no_parameters = []
  nodes_parameters (parameters ws f ps) = nodes_form (nodes_specifiers ws) ws f ++ nodes_parameters ps

  -- inside: the nodes of the specifiers
  pub nodes_form : List Node → Specifiers → ParameterForm → List Node
  nodes_form inside ws (named_form d) = parameter_node ws (named_form d) ∷ (inside ++ nodes_declarator d)
  nodes_form inside ws (bare_form b) = inside ++ nodes_bare b

  pub nodes_bare : BareTree → List Node
  nodes_bare (bare_stars ss) = []
  nodes_bare (bare_pointer ss qs ps v) = nodes_parameters ps

abbrev mutual
  pub nodes_init : Initializer → List Node
  nodes_init (single x) = nodes_expression x
  nodes_init (listed ps c) = initializers_node ps c ∷ nodes_initializers ps

  pub nodes_initializers : Initializers → List Node
  nodes_initializers no_initializers = []
  nodes_initializers (initializers n i ps) = nodes_init i ++ nodes_initializers ps

abbrev pub nodes_optional_init : Option Initializer → List Node
nodes_optional_init None = []
nodes_optional_init (Some i) = nodes_init i

abbrev pub nodes_named : NamedTree → List Node
nodes_named n = named_node n ∷ (nodes_declarator n.declarator ++ nodes_optional_init n.init)

abbrev pub nodes_names : List NamedTree → List Node
nodes_names [] = []
nodes_names (n ∷ ns) = nodes_named n ++ nodes_names ns

abbrev pub nodes_declaration : DeclarationTree → List Node
nodes_declaration d = declaration_node d ∷ (nodes_specifiers d.specs ++ nodes_names d.names)

abbrev pub nodes_optional : Option Expression → List Node
nodes_optional None = []
nodes_optional (Some x) = nodes_expression x

abbrev pub nodes_start : ForStartTree → List Node
nodes_start (start_declaration d) = nodes_declaration d
nodes_start (start_expression x) = nodes_optional x

abbrev mutual
  pub nodes_statement : StatementTree → List Node
  nodes_statement (block ss) = statement_node (block ss) ∷ nodes_statements ss
  nodes_statement (declaration d) = nodes_declaration d
  nodes_statement (expression_statement x) = statement_node (expression_statement x) ∷ nodes_optional x
  nodes_statement (if_statement x s) = statement_node (if_statement x s) ∷ (nodes_expression x ++ nodes_statement s)
  nodes_statement (if_else_statement x s r) = statement_node (if_else_statement x s r) ∷ (nodes_expression x ++ (nodes_statement s ++ nodes_statement r))
  nodes_statement (while_statement x s) = statement_node (while_statement x s) ∷ (nodes_expression x ++ nodes_statement s)
  nodes_statement (do_statement s x) = statement_node (do_statement s x) ∷ (nodes_statement s ++ nodes_expression x)
  nodes_statement (for_statement a x y s) = statement_node (for_statement a x y s) ∷ (nodes_start a ++ (nodes_optional x ++ (nodes_optional y ++ nodes_statement s)))
  nodes_statement (switch_statement x s) = statement_node (switch_statement x s) ∷ (nodes_expression x ++ nodes_statement s)
  nodes_statement (case_label x) = statement_node (case_label x) ∷ nodes_expression x
  nodes_statement default_label = statement_node default_label ∷ []
  nodes_statement (named_label n) = statement_node (named_label n) ∷ []
  nodes_statement break_statement = statement_node break_statement ∷ []
  nodes_statement continue_statement = statement_node continue_statement ∷ []
  nodes_statement (return_statement x) = statement_node (return_statement x) ∷ nodes_optional x
  nodes_statement (goto_statement n) = statement_node (goto_statement n) ∷ []

  pub nodes_statements : Statements → List Node
  nodes_statements no_statements = []
  nodes_statements (statements s ss) = nodes_statement s ++ nodes_statements ss

abbrev pub nodes_function : FunctionTree → List Node
nodes_function f = function_node f ∷ (nodes_specifiers f.specs ++ (nodes_parameters f.params ++ nodes_statement f.body))

abbrev pub nodes_item : ItemTree → List Node
nodes_item (function_item f) = nodes_function f
nodes_item (declaration_item d) = nodes_declaration d

abbrev pub nodes_items : List ItemTree → List Node
nodes_items [] = []
nodes_items (i ∷ is) = nodes_item i ++ nodes_items is

-- the nodes of a program, which is itself the first
abbrev pub nodes : List ItemTree → List Node
nodes items = program_node items ∷ nodes_items items
