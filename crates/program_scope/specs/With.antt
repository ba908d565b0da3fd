-- Names, and behind them those that a tree declares, part after part.
use Rattle.std.specs.Prelude.{List, [], ◌∷◌, ◌++◌, Option, Some, None}
use Rattle.c_tree.specs.Tree.{Name, Expression, comma, assign, choose, binary, cast, unary, before, size_of, size_of_type, index, call, dot, arrow, after, name, integer, character, text, paren, Expressions, no_expressions, expressions, Sizes, no_sizes, open_size, size, TypeTree, typed, Specifiers, no_specifiers, specifiers, Specifier, struct_of, enum_of, Members, no_members, member, Declarators, no_declarators, declarators, Enumerators, no_enumerators, enumerator, enumerator_with, DeclaratorTree, plain, array, function, pointer, Parameters, no_parameters, parameters, ParameterForm, named_form, bare_form, BareTree, bare_stars, bare_pointer, Initializer, single, listed, Initializers, no_initializers, initializers, NamedTree, DeclarationTree, ForStartTree, start_declaration, start_expression, StatementTree, block, declaration, expression_statement, if_statement, if_else_statement, while_statement, do_statement, for_statement, switch_statement, case_label, default_label, named_label, break_statement, continue_statement, return_statement, goto_statement, Statements, no_statements, statements, FunctionTree}

abbrev pub with_name : List Name → Name → List Name
with_name ks n = ks ++ n ∷ []

abbrev pub with_all : List Name → List Name → List Name
with_all ks [] = ks
with_all ks (n ∷ ns) = with_all (with_name ks n) ns

abbrev mutual
  pub with_expression : List Name → Expression → List Name
  with_expression ks (comma x y) = with_expression (with_expression ks x) y
  with_expression ks (assign o x y) = with_expression (with_expression ks x) y
  with_expression ks (choose x y z) = with_expression (with_expression (with_expression ks x) y) z
  with_expression ks (binary o x y) = with_expression (with_expression ks x) y
  with_expression ks (cast t x) = with_expression (with_type ks t) x
  with_expression ks (unary o x) = with_expression ks x
  with_expression ks (before o x) = with_expression ks x
  with_expression ks (size_of x) = with_expression ks x
  with_expression ks (size_of_type t) = with_type ks t
  with_expression ks (index x y) = with_expression (with_expression ks x) y
  with_expression ks (call f xs) = with_expressions (with_expression ks f) xs
  with_expression ks (dot x n) = with_expression ks x
  with_expression ks (arrow x n) = with_expression ks x
  with_expression ks (after o x) = with_expression ks x
  with_expression ks (name n) = ks
  with_expression ks (integer n) = ks
  with_expression ks (character n) = ks
  with_expression ks (text ts) = ks
  with_expression ks (paren x) = with_expression ks x

  pub with_expressions : List Name → Expressions → List Name
  with_expressions ks no_expressions = ks
  with_expressions ks (expressions x xs) = with_expressions (with_expression ks x) xs

  pub with_sizes : List Name → Sizes → List Name
  with_sizes ks no_sizes = ks
  with_sizes ks (open_size xs) = with_sizes ks xs
  with_sizes ks (size x xs) = with_sizes (with_expression ks x) xs

  pub with_type : List Name → TypeTree → List Name
  with_type ks (typed ws b) = with_bare (with_specifiers ks ws) b

  pub with_specifiers : List Name → Specifiers → List Name
  with_specifiers ks no_specifiers = ks
  with_specifiers ks (specifiers w ws) = with_specifiers (with_specifier ks w) ws

  pub with_specifier : List Name → Specifier → List Name
  with_specifier ks (struct_of t ms) = with_members ks ms
  with_specifier ks (enum_of t es last) = with_enumerators ks es
  with_specifier ks _ = ks

  pub with_members : List Name → Members → List Name
  with_members ks no_members = ks
  with_members ks (member ws ds ms) = with_members (with_declarators (with_specifiers ks ws) ds) ms

  pub with_declarators : List Name → Declarators → List Name
  with_declarators ks no_declarators = ks
  with_declarators ks (declarators d ds) = with_declarators (with_declarator ks d) ds

  pub with_enumerators : List Name → Enumerators → List Name
  with_enumerators ks no_enumerators = ks
  with_enumerators ks (enumerator n es) = with_enumerators (with_name ks n) es
  with_enumerators ks (enumerator_with n x es) = with_enumerators (with_expression (with_name ks n) x) es

  pub with_declarator : List Name → DeclaratorTree → List Name
  with_declarator ks (plain ss n) = with_name ks n
  with_declarator ks (array ss n xs) = with_sizes (with_name ks n) xs
  with_declarator ks (function ss n ps v) = with_parameters (with_name ks n) ps
  with_declarator ks (pointer ss qs n xs ps v) = with_parameters (with_sizes (with_name ks n) xs) ps

  pub with_parameters : List Name → Parameters → List Name
  with_parameters ks no_parameters = ks
  with_parameters ks (parameters ws f ps) = with_parameters (with_form (with_specifiers ks ws) f) ps

  pub with_form : List Name → ParameterForm → List Name
  with_form ks (named_form d) = with_declarator ks d
  with_form ks (bare_form b) = with_bare ks b

  pub with_bare : List Name → BareTree → List Name
  with_bare ks (bare_stars ss) = ks
  with_bare ks (bare_pointer ss qs ps v) = with_parameters ks ps

abbrev pub with_inside : List Name → DeclaratorTree → List Name
with_inside ks (plain ss n) = ks
with_inside ks (array ss n xs) = with_sizes ks xs
with_inside ks (function ss n ps v) = with_parameters ks ps
with_inside ks (pointer ss qs n xs ps v) = with_parameters (with_sizes ks xs) ps

abbrev mutual
  pub with_init : List Name → Initializer → List Name
  with_init ks (single x) = with_expression ks x
  with_init ks (listed ps last) = with_initializers ks ps

  pub with_initializers : List Name → Initializers → List Name
  with_initializers ks no_initializers = ks
  with_initializers ks (initializers n i ps) = with_initializers (with_init ks i) ps

abbrev pub with_optional_init : List Name → Option Initializer → List Name
with_optional_init ks None = ks
with_optional_init ks (Some i) = with_init ks i

abbrev pub with_named : List Name → NamedTree → List Name
with_named ks n = with_optional_init (with_declarator ks n.declarator) n.init

abbrev pub with_names : List Name → List NamedTree → List Name
with_names ks [] = ks
with_names ks (n ∷ ns) = with_names (with_named ks n) ns

abbrev pub with_declaration : List Name → DeclarationTree → List Name
with_declaration ks d = with_names (with_specifiers ks d.specs) d.names

abbrev pub with_optional : List Name → Option Expression → List Name
with_optional ks None = ks
with_optional ks (Some x) = with_expression ks x

abbrev pub with_start : List Name → ForStartTree → List Name
with_start ks (start_declaration d) = with_declaration ks d
with_start ks (start_expression x) = with_optional ks x

abbrev mutual
  pub with_statement : List Name → StatementTree → List Name
  with_statement ks (block ss) = with_statements ks ss
  with_statement ks (declaration d) = with_declaration ks d
  with_statement ks (expression_statement x) = with_optional ks x
  with_statement ks (if_statement x s) = with_statement (with_expression ks x) s
  with_statement ks (if_else_statement x s r) = with_statement (with_statement (with_expression ks x) s) r
  with_statement ks (while_statement x s) = with_statement (with_expression ks x) s
  with_statement ks (do_statement s x) = with_expression (with_statement ks s) x
  with_statement ks (for_statement a x y s) = with_statement (with_optional (with_optional (with_start ks a) x) y) s
  with_statement ks (switch_statement x s) = with_statement (with_expression ks x) s
  with_statement ks (case_label x) = with_expression ks x
  with_statement ks default_label = ks
  with_statement ks (named_label n) = with_name ks n
  with_statement ks break_statement = ks
  with_statement ks continue_statement = ks
  with_statement ks (return_statement x) = with_optional ks x
  with_statement ks (goto_statement n) = ks

  pub with_statements : List Name → Statements → List Name
  with_statements ks no_statements = ks
  with_statements ks (statements s ss) = with_statements (with_statement ks s) ss

abbrev pub with_function : List Name → FunctionTree → List Name
with_function ks f = with_statement (with_parameters (with_name (with_specifiers ks f.specs) f.name) f.params) f.body
