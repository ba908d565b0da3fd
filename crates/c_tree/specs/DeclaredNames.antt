-- The names that a tree declares, in order of the text, but for tags: objects, functions, parameters, members,
-- enumerators, labels and types.
use Rattle.std.specs.Prelude.{List, [], ◌∷◌, ◌++◌, Option, Some, None}
use Rattle.c_tree.specs.Tree.{Name, Expression, comma, assign, choose, binary, cast, unary, before, size_of, size_of_type, index, call, dot, arrow, after, name, integer, character, text, paren, Expressions, no_expressions, expressions, Sizes, no_sizes, open_size, size, TypeTree, typed, Specifiers, no_specifiers, specifiers, Specifier, struct_of, enum_of, Members, no_members, member, Declarators, no_declarators, declarators, Enumerators, no_enumerators, enumerator, enumerator_with, DeclaratorTree, plain, array, function, pointer, Parameters, no_parameters, parameters, ParameterForm, named_form, bare_form, BareTree, bare_stars, bare_pointer, Initializer, single, listed, Initializers, no_initializers, initializers, NamedTree, DeclarationTree, ForStartTree, start_declaration, start_expression, StatementTree, block, declaration, expression_statement, if_statement, if_else_statement, while_statement, do_statement, for_statement, switch_statement, case_label, default_label, named_label, break_statement, continue_statement, return_statement, goto_statement, Statements, no_statements, statements, FunctionTree}

abbrev mutual
  pub declared_expression : Expression → List Name
  declared_expression (comma x y) = declared_expression x ++ declared_expression y
  declared_expression (assign o x y) = declared_expression x ++ declared_expression y
  declared_expression (choose x y z) = declared_expression x ++ (declared_expression y ++ declared_expression z)
  declared_expression (binary o x y) = declared_expression x ++ declared_expression y
  declared_expression (cast t x) = declared_type t ++ declared_expression x
  declared_expression (unary o x) = declared_expression x
  declared_expression (before o x) = declared_expression x
  declared_expression (size_of x) = declared_expression x
  declared_expression (size_of_type t) = declared_type t
  declared_expression (index x y) = declared_expression x ++ declared_expression y
  declared_expression (call f xs) = declared_expression f ++ declared_expressions xs
  declared_expression (dot x n) = declared_expression x
  declared_expression (arrow x n) = declared_expression x
  declared_expression (after o x) = declared_expression x
  declared_expression (name n) = []
  declared_expression (integer n) = []
  declared_expression (character n) = []
  declared_expression (text ns) = []
  declared_expression (paren x) = declared_expression x

  pub declared_expressions : Expressions → List Name
  declared_expressions no_expressions = []
  declared_expressions (expressions x xs) = declared_expression x ++ declared_expressions xs

  pub declared_sizes : Sizes → List Name
  declared_sizes no_sizes = []
  declared_sizes (open_size xs) = declared_sizes xs
  declared_sizes (size x xs) = declared_expression x ++ declared_sizes xs

  pub declared_type : TypeTree → List Name
  declared_type (typed ws b) = declared_specifiers ws ++ declared_bare b

  pub declared_specifiers : Specifiers → List Name
  declared_specifiers no_specifiers = []
  declared_specifiers (specifiers w ws) = declared_specifier w ++ declared_specifiers ws

  pub declared_specifier : Specifier → List Name
  declared_specifier (struct_of t ms) = declared_members ms
  declared_specifier (enum_of t es c) = declared_enumerators es
  declared_specifier _ = []

  pub declared_members : Members → List Name
  declared_members no_members = []
  declared_members (member ws ds ms) = declared_specifiers ws ++ (declared_declarators ds ++ declared_members ms)

  pub declared_declarators : Declarators → List Name
  declared_declarators no_declarators = []
  declared_declarators (declarators d ds) = declared_declarator d ++ declared_declarators ds

  pub declared_enumerators : Enumerators → List Name
  declared_enumerators no_enumerators = []
  declared_enumerators (enumerator n es) = n ∷ declared_enumerators es
  declared_enumerators (enumerator_with n x es) = n ∷ (declared_expression x ++ declared_enumerators es)

  pub declared_declarator : DeclaratorTree → List Name
  declared_declarator (plain ss n) = n ∷ []
  declared_declarator (array ss n xs) = n ∷ declared_sizes xs
  declared_declarator (function ss n ps v) = n ∷ declared_parameters ps
  declared_declarator (pointer ss qs n xs ps v) = n ∷ (declared_sizes xs ++ declared_parameters ps)

  pub declared_parameters : Parameters → List Name
  declared_parameters no_parameters = []
  declared_parameters (parameters ws f ps) = declared_specifiers ws ++ (declared_form f ++ declared_parameters ps)

  pub declared_form : ParameterForm → List Name
  declared_form (named_form d) = declared_declarator d
  declared_form (bare_form b) = declared_bare b

  pub declared_bare : BareTree → List Name
  declared_bare (bare_stars ss) = []
  declared_bare (bare_pointer ss qs ps v) = declared_parameters ps

abbrev mutual
  pub declared_init : Initializer → List Name
  declared_init (single x) = declared_expression x
  declared_init (listed ps c) = declared_initializers ps

  pub declared_initializers : Initializers → List Name
  declared_initializers no_initializers = []
  declared_initializers (initializers n i ps) = declared_init i ++ declared_initializers ps

abbrev pub declared_optional_init : Option Initializer → List Name
declared_optional_init None = []
declared_optional_init (Some i) = declared_init i

abbrev pub declared_named : NamedTree → List Name
declared_named n = declared_declarator n.declarator ++ declared_optional_init n.init

abbrev pub declared_names : List NamedTree → List Name
declared_names [] = []
declared_names (n ∷ ns) = declared_named n ++ declared_names ns

abbrev pub declared_declaration : DeclarationTree → List Name
declared_declaration d = declared_specifiers d.specs ++ declared_names d.names

abbrev pub declared_optional : Option Expression → List Name
declared_optional None = []
declared_optional (Some x) = declared_expression x

abbrev pub declared_start : ForStartTree → List Name
declared_start (start_declaration d) = declared_declaration d
declared_start (start_expression x) = declared_optional x

abbrev mutual
  pub declared_statement : StatementTree → List Name
  declared_statement (block ss) = declared_statements ss
  declared_statement (declaration d) = declared_declaration d
  declared_statement (expression_statement x) = declared_optional x
  declared_statement (if_statement x s) = declared_expression x ++ declared_statement s
  declared_statement (if_else_statement x s r) = declared_expression x ++ (declared_statement s ++ declared_statement r)
  declared_statement (while_statement x s) = declared_expression x ++ declared_statement s
  declared_statement (do_statement s x) = declared_statement s ++ declared_expression x
  declared_statement (for_statement a x y s) = declared_start a ++ (declared_optional x ++ (declared_optional y ++ declared_statement s))
  declared_statement (switch_statement x s) = declared_expression x ++ declared_statement s
  declared_statement (case_label x) = declared_expression x
  declared_statement default_label = []
  declared_statement (named_label n) = n ∷ []
  declared_statement break_statement = []
  declared_statement continue_statement = []
  declared_statement (return_statement x) = declared_optional x
  declared_statement (goto_statement n) = []

  pub declared_statements : Statements → List Name
  declared_statements no_statements = []
  declared_statements (statements s ss) = declared_statement s ++ declared_statements ss

abbrev pub declared_function : FunctionTree → List Name
declared_function f = declared_specifiers f.specs ++ f.name ∷ (declared_parameters f.params ++ declared_statement f.body)

-- the name that a declarator declares, and those that its sizes and parameters declare
abbrev pub declarator_name : DeclaratorTree → Name
declarator_name (plain ss n) = n
declarator_name (array ss n xs) = n
declarator_name (function ss n ps v) = n
declarator_name (pointer ss qs n xs ps v) = n

abbrev pub declared_inside : DeclaratorTree → List Name
declared_inside (plain ss n) = []
declared_inside (array ss n xs) = declared_sizes xs
declared_inside (function ss n ps v) = declared_parameters ps
declared_inside (pointer ss qs n xs ps v) = declared_sizes xs ++ declared_parameters ps
