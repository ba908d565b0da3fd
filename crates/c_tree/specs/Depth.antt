-- How deep a tree is: the depth of a node counts the nodes from the program down to it, and that of a tree is the
-- greatest of its nodes.
use Rattle.std.specs.Prelude.{ℕ, ◌+◌, max, List, [], ◌∷◌, Option, Some, None}
use Rattle.c_tree.specs.Tree.{Expression, comma, assign, choose, binary, cast, unary, before, size_of, size_of_type, index, call, dot, arrow, after, name, integer, character, text, paren, Expressions, no_expressions, expressions, Sizes, no_sizes, open_size, size, TypeTree, typed, Specifiers, no_specifiers, specifiers, Specifier, struct_of, enum_of, Members, no_members, member, Declarators, no_declarators, declarators, Enumerators, no_enumerators, enumerator, enumerator_with, DeclaratorTree, plain, array, function, pointer, Parameters, no_parameters, parameters, ParameterForm, named_form, bare_form, BareTree, bare_stars, bare_pointer, Initializer, single, listed, Initializers, no_initializers, initializers, NamedTree, DeclarationTree, ForStartTree, start_declaration, start_expression, StatementTree, block, declaration, expression_statement, if_statement, if_else_statement, while_statement, do_statement, for_statement, switch_statement, case_label, default_label, named_label, break_statement, continue_statement, return_statement, goto_statement, Statements, no_statements, statements, FunctionTree, ItemTree, function_item, declaration_item}

abbrev mutual
  pub depth_expression : Expression → ℕ
  depth_expression (comma x y) = 1 + max (depth_expression x) (depth_expression y)
  depth_expression (assign o x y) = 1 + max (depth_expression x) (depth_expression y)
  depth_expression (choose x y z) = 1 + max (depth_expression x) (max (depth_expression y) (depth_expression z))
  depth_expression (binary o x y) = 1 + max (depth_expression x) (depth_expression y)
  depth_expression (cast t x) = 1 + max (depth_type t) (depth_expression x)
  depth_expression (unary o x) = 1 + depth_expression x
  depth_expression (before o x) = 1 + depth_expression x
  depth_expression (size_of x) = 1 + depth_expression x
  depth_expression (size_of_type t) = 1 + depth_type t
  depth_expression (index x y) = 1 + max (depth_expression x) (depth_expression y)
  depth_expression (call f xs) = 1 + max (depth_expression f) (depth_expressions xs)
  depth_expression (dot x n) = 1 + depth_expression x
  depth_expression (arrow x n) = 1 + depth_expression x
  depth_expression (after o x) = 1 + depth_expression x
  depth_expression (name n) = 1
  depth_expression (integer n) = 1
  depth_expression (character n) = 1
  depth_expression (text ns) = 1
  depth_expression (paren x) = 1 + depth_expression x

  pub depth_expressions : Expressions → ℕ
  depth_expressions no_expressions = 0
  depth_expressions (expressions x xs) = max (depth_expression x) (depth_expressions xs)

  pub depth_sizes : Sizes → ℕ
  depth_sizes no_sizes = 0
  depth_sizes (open_size xs) = depth_sizes xs
  depth_sizes (size x xs) = max (depth_expression x) (depth_sizes xs)

  pub depth_type : TypeTree → ℕ
  depth_type (typed ws b) = max (depth_specifiers ws) (depth_bare b)

  pub depth_specifiers : Specifiers → ℕ
  depth_specifiers no_specifiers = 0
  depth_specifiers (specifiers w ws) = max (depth_specifier w) (depth_specifiers ws)

  pub depth_specifier : Specifier → ℕ
  depth_specifier (struct_of t ms) = depth_members ms
  depth_specifier (enum_of t es c) = depth_enumerators es
  depth_specifier _ = 0

  pub depth_members : Members → ℕ
  depth_members no_members = 0
  depth_members (member ws ds ms) = max (depth_specifiers ws) (max (depth_declarators ds) (depth_members ms))

  pub depth_declarators : Declarators → ℕ
  depth_declarators no_declarators = 0
  depth_declarators (declarators d ds) = max (1 + depth_declarator d) (depth_declarators ds)

  pub depth_enumerators : Enumerators → ℕ
  depth_enumerators no_enumerators = 0
  depth_enumerators (enumerator n es) = max (1) (depth_enumerators es)
  depth_enumerators (enumerator_with n x es) = max (1 + depth_expression x) (depth_enumerators es)

  pub depth_declarator : DeclaratorTree → ℕ
  depth_declarator (plain ss n) = 0
  depth_declarator (array ss n xs) = depth_sizes xs
  depth_declarator (function ss n ps v) = depth_parameters ps
  depth_declarator (pointer ss qs n xs ps v) = max (depth_sizes xs) (depth_parameters ps)

  pub depth_parameters : Parameters → ℕ
  depth_parameters no_parameters = 0
  depth_parameters (parameters ws f ps) = max (depth_form (depth_specifiers ws) f) (depth_parameters ps)

  -- inside: the depth of the specifiers
  pub depth_form : ℕ → ParameterForm → ℕ
  depth_form inside (named_form d) = 1 + max inside (depth_declarator d)
  depth_form inside (bare_form b) = max inside (depth_bare b)

  pub depth_bare : BareTree → ℕ
  depth_bare (bare_stars ss) = 0
  depth_bare (bare_pointer ss qs ps v) = depth_parameters ps

abbrev mutual
  pub depth_init : Initializer → ℕ
  depth_init (single x) = depth_expression x
  depth_init (listed ps c) = 1 + depth_initializers ps

  pub depth_initializers : Initializers → ℕ
  depth_initializers no_initializers = 0
  depth_initializers (initializers n i ps) = max (depth_init i) (depth_initializers ps)

abbrev pub depth_optional_init : Option Initializer → ℕ
depth_optional_init None = 0
depth_optional_init (Some i) = depth_init i

abbrev pub depth_named : NamedTree → ℕ
depth_named n = 1 + max (depth_declarator n.declarator) (depth_optional_init n.init)

abbrev pub depth_names : List NamedTree → ℕ
depth_names [] = 0
depth_names (n ∷ ns) = max (depth_named n) (depth_names ns)

abbrev pub depth_declaration : DeclarationTree → ℕ
depth_declaration d = 1 + max (depth_specifiers d.specs) (depth_names d.names)

abbrev pub depth_optional : Option Expression → ℕ
depth_optional None = 0
depth_optional (Some x) = depth_expression x

abbrev pub depth_start : ForStartTree → ℕ
depth_start (start_declaration d) = depth_declaration d
depth_start (start_expression x) = depth_optional x

abbrev mutual
  pub depth_statement : StatementTree → ℕ
  depth_statement (block ss) = 1 + depth_statements ss
  depth_statement (declaration d) = depth_declaration d
  depth_statement (expression_statement x) = 1 + depth_optional x
  depth_statement (if_statement x s) = 1 + max (depth_expression x) (depth_statement s)
  depth_statement (if_else_statement x s r) = 1 + max (depth_expression x) (max (depth_statement s) (depth_statement r))
  depth_statement (while_statement x s) = 1 + max (depth_expression x) (depth_statement s)
  depth_statement (do_statement s x) = 1 + max (depth_statement s) (depth_expression x)
  depth_statement (for_statement a x y s) = 1 + max (depth_start a) (max (depth_optional x) (max (depth_optional y) (depth_statement s)))
  depth_statement (switch_statement x s) = 1 + max (depth_expression x) (depth_statement s)
  depth_statement (case_label x) = 1 + depth_expression x
  depth_statement default_label = 1
  depth_statement (named_label n) = 1
  depth_statement break_statement = 1
  depth_statement continue_statement = 1
  depth_statement (return_statement x) = 1 + depth_optional x
  depth_statement (goto_statement n) = 1

  pub depth_statements : Statements → ℕ
  depth_statements no_statements = 0
  depth_statements (statements s ss) = max (depth_statement s) (depth_statements ss)

abbrev pub depth_function : FunctionTree → ℕ
depth_function f = 1 + max (depth_specifiers f.specs) (max (depth_parameters f.params) (depth_statement f.body))

abbrev pub depth_item : ItemTree → ℕ
depth_item (function_item f) = depth_function f
depth_item (declaration_item d) = depth_declaration d

abbrev pub depth_items : List ItemTree → ℕ
depth_items [] = 0
depth_items (i ∷ is) = max (depth_item i) (depth_items is)

-- the depth of a program, whose own node has depth 1
abbrev pub depth : List ItemTree → ℕ
depth items = 1 + depth_items items
