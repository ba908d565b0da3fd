-- A pass over the nodes of a part of a tree, in preorder: what is known so far is changed at each node, as step says. Each part is
-- passed after the one before it.
use Rattle.std.specs.Prelude.{List, [], ◌∷◌, Option, Some, None}
use Rattle.c_tree.specs.Nodes.{Node, function_node, declaration_node, named_node, parameter_node, member_node, enumerator_node, initializers_node, statement_node, expression_node}
use Rattle.c_tree.specs.Tree.{Expression, comma, assign, choose, binary, cast, unary, before, size_of, size_of_type, index, call, dot, arrow, after, name, integer, character, text, paren, Expressions, no_expressions, expressions, Sizes, no_sizes, open_size, size, TypeTree, typed, Specifiers, no_specifiers, specifiers, Specifier, struct_of, enum_of, Members, no_members, member, Declarators, no_declarators, declarators, Enumerators, no_enumerators, enumerator, enumerator_with, DeclaratorTree, plain, array, function, pointer, Parameters, no_parameters, parameters, ParameterForm, named_form, bare_form, BareTree, bare_stars, bare_pointer, Initializer, single, listed, Initializers, no_initializers, initializers, NamedTree, DeclarationTree, ForStartTree, start_declaration, start_expression, StatementTree, block, declaration, expression_statement, if_statement, if_else_statement, while_statement, do_statement, for_statement, switch_statement, case_label, default_label, named_label, break_statement, continue_statement, return_statement, goto_statement, Statements, no_statements, statements, FunctionTree, ItemTree, function_item, declaration_item}

abbrev mutual
  pub pass_expression : {A : Type 0} → (A → Node → A) → A → Expression → A
  pass_expression step at (comma x y) = pass_expression step (pass_expression step (step at (expression_node (comma x y))) x) y
  pass_expression step at (assign o x y) = pass_expression step (pass_expression step (step at (expression_node (assign o x y))) x) y
  pass_expression step at (choose x y z) = pass_expression step (pass_expression step (pass_expression step (step at (expression_node (choose x y z))) x) y) z
  pass_expression step at (binary o x y) = pass_expression step (pass_expression step (step at (expression_node (binary o x y))) x) y
  pass_expression step at (cast t x) = pass_expression step (pass_type step (step at (expression_node (cast t x))) t) x
  pass_expression step at (unary o x) = pass_expression step (step at (expression_node (unary o x))) x
  pass_expression step at (before o x) = pass_expression step (step at (expression_node (before o x))) x
  pass_expression step at (size_of x) = pass_expression step (step at (expression_node (size_of x))) x
  pass_expression step at (size_of_type t) = pass_type step (step at (expression_node (size_of_type t))) t
  pass_expression step at (index x y) = pass_expression step (pass_expression step (step at (expression_node (index x y))) x) y
  pass_expression step at (call f xs) = pass_expressions step (pass_expression step (step at (expression_node (call f xs))) f) xs
  pass_expression step at (dot x n) = pass_expression step (step at (expression_node (dot x n))) x
  pass_expression step at (arrow x n) = pass_expression step (step at (expression_node (arrow x n))) x
  pass_expression step at (after o x) = pass_expression step (step at (expression_node (after o x))) x
  pass_expression step at (name n) = step at (expression_node (name n))
  pass_expression step at (integer n) = step at (expression_node (integer n))
  pass_expression step at (character n) = step at (expression_node (character n))
  pass_expression step at (text ns) = step at (expression_node (text ns))
  pass_expression step at (paren x) = pass_expression step (step at (expression_node (paren x))) x

  pub pass_expressions : {A : Type 0} → (A → Node → A) → A → Expressions → A
  pass_expressions step at no_expressions = at
  pass_expressions step at (expressions x xs) = pass_expressions step (pass_expression step at x) xs

  pub pass_sizes : {A : Type 0} → (A → Node → A) → A → Sizes → A
  pass_sizes step at no_sizes = at
  pass_sizes step at (open_size xs) = pass_sizes step at xs
  pass_sizes step at (size x xs) = pass_sizes step (pass_expression step at x) xs

  pub pass_type : {A : Type 0} → (A → Node → A) → A → TypeTree → A
  pass_type step at (typed ws b) = pass_bare step (pass_specifiers step at ws) b

  pub pass_specifiers : {A : Type 0} → (A → Node → A) → A → Specifiers → A
  pass_specifiers step at no_specifiers = at
  pass_specifiers step at (specifiers w ws) = pass_specifiers step (pass_specifier step at w) ws

  pub pass_specifier : {A : Type 0} → (A → Node → A) → A → Specifier → A
  pass_specifier step at (struct_of t ms) = pass_members step at ms
  pass_specifier step at (enum_of t es c) = pass_enumerators step at es
  pass_specifier step at _ = at

  pub pass_members : {A : Type 0} → (A → Node → A) → A → Members → A
  pass_members step at no_members = at
  pass_members step at (member ws ds ms) = pass_members step (pass_declarators step (pass_specifiers step at ws) ds) ms

  pub pass_declarators : {A : Type 0} → (A → Node → A) → A → Declarators → A
  pass_declarators step at no_declarators = at
  pass_declarators step at (declarators d ds) = pass_declarators step (pass_declarator step (step at (member_node d)) d) ds

  pub pass_enumerators : {A : Type 0} → (A → Node → A) → A → Enumerators → A
  pass_enumerators step at no_enumerators = at
  pass_enumerators step at (enumerator n es) = pass_enumerators step (step at (enumerator_node n None)) es
  pass_enumerators step at (enumerator_with n x es) = pass_enumerators step (pass_expression step (step at (enumerator_node n (Some x))) x) es

  pub pass_declarator : {A : Type 0} → (A → Node → A) → A → DeclaratorTree → A
  pass_declarator step at (plain ss n) = at
  pass_declarator step at (array ss n xs) = pass_sizes step at xs
  pass_declarator step at (function ss n ps v) = pass_parameters step at ps
  pass_declarator step at (pointer ss qs n xs ps v) = pass_parameters step (pass_sizes step at xs) ps

  pub pass_parameters : {A : Type 0} → (A → Node → A) → A → Parameters → A
  pass_parameters step at no_parameters = at
  pass_parameters step at (parameters ws f ps) = pass_parameters step (pass_form step at ws (λ q. pass_specifiers step q ws) f) ps

  -- inside: passes the specifiers
  pub pass_form : {A : Type 0} → (A → Node → A) → A → Specifiers → (A → A) → ParameterForm → A
  pass_form step at ws inside (named_form d) = pass_declarator step (inside (step at (parameter_node ws (named_form d)))) d
  pass_form step at ws inside (bare_form b) = pass_bare step (inside at) b

  pub pass_bare : {A : Type 0} → (A → Node → A) → A → BareTree → A
  pass_bare step at (bare_stars ss) = at
  pass_bare step at (bare_pointer ss qs ps v) = pass_parameters step at ps

abbrev mutual
  pub pass_init : {A : Type 0} → (A → Node → A) → A → Initializer → A
  pass_init step at (single x) = pass_expression step at x
  pass_init step at (listed ps c) = pass_initializers step (step at (initializers_node ps c)) ps

  pub pass_initializers : {A : Type 0} → (A → Node → A) → A → Initializers → A
  pass_initializers step at no_initializers = at
  pass_initializers step at (initializers n i ps) = pass_initializers step (pass_init step at i) ps

abbrev pub pass_optional_init : {A : Type 0} → (A → Node → A) → A → Option Initializer → A
pass_optional_init step p None = p
pass_optional_init step p (Some i) = pass_init step p i

abbrev pub pass_named : {A : Type 0} → (A → Node → A) → A → NamedTree → A
pass_named step p n = pass_optional_init step (pass_declarator step (step p (named_node n)) n.declarator) n.init

abbrev pub pass_names : {A : Type 0} → (A → Node → A) → A → List NamedTree → A
pass_names step p [] = p
pass_names step p (n ∷ ns) = pass_names step (pass_named step p n) ns

abbrev pub pass_declaration : {A : Type 0} → (A → Node → A) → A → DeclarationTree → A
pass_declaration step p d = pass_names step (pass_specifiers step (step p (declaration_node d)) d.specs) d.names

abbrev pub pass_optional : {A : Type 0} → (A → Node → A) → A → Option Expression → A
pass_optional step p None = p
pass_optional step p (Some x) = pass_expression step p x

abbrev pub pass_start : {A : Type 0} → (A → Node → A) → A → ForStartTree → A
pass_start step p (start_declaration d) = pass_declaration step p d
pass_start step p (start_expression x) = pass_optional step p x

abbrev mutual
  pub pass_statement : {A : Type 0} → (A → Node → A) → A → StatementTree → A
  pass_statement step at (block ss) = pass_statements step (step at (statement_node (block ss))) ss
  pass_statement step at (declaration d) = pass_declaration step at d
  pass_statement step at (expression_statement x) = pass_optional step (step at (statement_node (expression_statement x))) x
  pass_statement step at (if_statement x s) = pass_statement step (pass_expression step (step at (statement_node (if_statement x s))) x) s
  pass_statement step at (if_else_statement x s r) = pass_statement step (pass_statement step (pass_expression step (step at (statement_node (if_else_statement x s r))) x) s) r
  pass_statement step at (while_statement x s) = pass_statement step (pass_expression step (step at (statement_node (while_statement x s))) x) s
  pass_statement step at (do_statement s x) = pass_expression step (pass_statement step (step at (statement_node (do_statement s x))) s) x
  pass_statement step at (for_statement a x y s) = pass_statement step (pass_optional step (pass_optional step (pass_start step (step at (statement_node (for_statement a x y s))) a) x) y) s
  pass_statement step at (switch_statement x s) = pass_statement step (pass_expression step (step at (statement_node (switch_statement x s))) x) s
  pass_statement step at (case_label x) = pass_expression step (step at (statement_node (case_label x))) x
  pass_statement step at default_label = step at (statement_node default_label)
  pass_statement step at (named_label n) = step at (statement_node (named_label n))
  pass_statement step at break_statement = step at (statement_node break_statement)
  pass_statement step at continue_statement = step at (statement_node continue_statement)
  pass_statement step at (return_statement x) = pass_optional step (step at (statement_node (return_statement x))) x
  pass_statement step at (goto_statement n) = step at (statement_node (goto_statement n))

  pub pass_statements : {A : Type 0} → (A → Node → A) → A → Statements → A
  pass_statements step at no_statements = at
  pass_statements step at (statements s ss) = pass_statements step (pass_statement step at s) ss

abbrev pub pass_function : {A : Type 0} → (A → Node → A) → A → FunctionTree → A
pass_function step p f = pass_statement step (pass_parameters step (pass_specifiers step (step p (function_node f)) f.specs) f.params) f.body

abbrev pub pass_item : {A : Type 0} → (A → Node → A) → A → ItemTree → A
pass_item step p (function_item f) = pass_function step p f
pass_item step p (declaration_item d) = pass_declaration step p d

abbrev pub pass_items : {A : Type 0} → (A → Node → A) → A → List ItemTree → A
pass_items step p [] = p
pass_items step p (i ∷ is) = pass_items step (pass_item step p i) is

-- the nodes of a list, one by one
abbrev pub pass_all : {A : Type 0} → (A → Node → A) → A → List Node → A
pass_all step at [] = at
pass_all step at (n ∷ ns) = pass_all step (step at n) ns
