-- A pass over a part of a tree is one over the list of its nodes.
use Rattle.std.proofs.Common.{◌≡◌, List, [], ◌∷◌, ◌++◌, Option, Some, None, refl, ap, sym, ◌∙◌}
use Rattle.c_tree.specs.Nodes.{Node, function_node, declaration_node, named_node, parameter_node, member_node, enumerator_node, initializers_node, statement_node, expression_node, nodes_expression, nodes_expressions, nodes_sizes, nodes_type, nodes_specifiers, nodes_specifier, nodes_members, nodes_declarators, nodes_enumerators, nodes_declarator, nodes_parameters, nodes_bare, nodes_init, nodes_initializers, nodes_statement, nodes_statements, nodes_form, nodes_optional_init, nodes_named, nodes_names, nodes_declaration, nodes_optional, nodes_start, nodes_function, nodes_item, nodes_items}
use Rattle.c_tree.specs.Passing.{pass_expression, pass_expressions, pass_sizes, pass_type, pass_specifiers, pass_specifier, pass_members, pass_declarators, pass_enumerators, pass_declarator, pass_parameters, pass_bare, pass_init, pass_initializers, pass_statement, pass_statements, pass_form, pass_optional_init, pass_named, pass_names, pass_declaration, pass_optional, pass_start, pass_function, pass_item, pass_items, pass_all}
use Rattle.c_tree.specs.Tree.{Expression, comma, assign, choose, binary, cast, unary, before, size_of, size_of_type, index, call, dot, arrow, after, name, integer, character, text, paren, Expressions, no_expressions, expressions, Sizes, no_sizes, open_size, size, TypeTree, typed, Specifiers, no_specifiers, specifiers, Specifier, struct_of, enum_of, Members, no_members, member, Declarators, no_declarators, declarators, Enumerators, no_enumerators, enumerator, enumerator_with, DeclaratorTree, plain, array, function, pointer, Parameters, no_parameters, parameters, ParameterForm, named_form, bare_form, BareTree, bare_stars, bare_pointer, Initializer, single, listed, Initializers, no_initializers, initializers, NamedTree, DeclarationTree, ForStartTree, start_declaration, start_expression, StatementTree, block, declaration, expression_statement, if_statement, if_else_statement, while_statement, do_statement, for_statement, switch_statement, case_label, default_label, named_label, break_statement, continue_statement, return_statement, goto_statement, Statements, no_statements, statements, FunctionTree, ItemTree, function_item, declaration_item}

pub pass_all_append : {A : Type 0} (step : A → Node → A) (p : A) (a b : List Node) → pass_all step p (a ++ b) ≡ pass_all step (pass_all step p a) b
pass_all_append step p [] b = refl
pass_all_append step p (n ∷ a) b = pass_all_append step (step p n) a b

-- one list of nodes, and then another
both : {A : Type 0} {q r : A} (step : A → Node → A) (p : A) (a b : List Node) → q ≡ pass_all step p a → r ≡ pass_all step q b → r ≡ pass_all step p (a ++ b)
both {A} step p a b e f = f ∙ ap (λ (q : A). pass_all step q b) e ∙ sym (pass_all_append step p a b)

mutual
  pub expression_passes : {A : Type 0} (step : A → Node → A) (at : A) (x : Expression) → pass_expression step at x ≡ pass_all step at (nodes_expression x)
  expression_passes step at (comma x y) = both _ _ (nodes_expression x) _ (expression_passes step (step at (expression_node (comma x y))) x) (expression_passes step (pass_expression step (step at (expression_node (comma x y))) x) y)
  expression_passes step at (assign o x y) = both _ _ (nodes_expression x) _ (expression_passes step (step at (expression_node (assign o x y))) x) (expression_passes step (pass_expression step (step at (expression_node (assign o x y))) x) y)
  expression_passes step at (choose x y z) = both _ _ (nodes_expression x) _ (expression_passes step (step at (expression_node (choose x y z))) x) (both _ _ (nodes_expression y) _ (expression_passes step (pass_expression step (step at (expression_node (choose x y z))) x) y) (expression_passes step (pass_expression step (pass_expression step (step at (expression_node (choose x y z))) x) y) z))
  expression_passes step at (binary o x y) = both _ _ (nodes_expression x) _ (expression_passes step (step at (expression_node (binary o x y))) x) (expression_passes step (pass_expression step (step at (expression_node (binary o x y))) x) y)
  expression_passes step at (cast t x) = both _ _ (nodes_type t) _ (type_passes step (step at (expression_node (cast t x))) t) (expression_passes step (pass_type step (step at (expression_node (cast t x))) t) x)
  expression_passes step at (unary o x) = expression_passes step (step at (expression_node (unary o x))) x
  expression_passes step at (before o x) = expression_passes step (step at (expression_node (before o x))) x
  expression_passes step at (size_of x) = expression_passes step (step at (expression_node (size_of x))) x
  expression_passes step at (size_of_type t) = type_passes step (step at (expression_node (size_of_type t))) t
  expression_passes step at (index x y) = both _ _ (nodes_expression x) _ (expression_passes step (step at (expression_node (index x y))) x) (expression_passes step (pass_expression step (step at (expression_node (index x y))) x) y)
  expression_passes step at (call f xs) = both _ _ (nodes_expression f) _ (expression_passes step (step at (expression_node (call f xs))) f) (expressions_passes step (pass_expression step (step at (expression_node (call f xs))) f) xs)
  expression_passes step at (dot x n) = expression_passes step (step at (expression_node (dot x n))) x
  expression_passes step at (arrow x n) = expression_passes step (step at (expression_node (arrow x n))) x
  expression_passes step at (after o x) = expression_passes step (step at (expression_node (after o x))) x
  expression_passes step at (name n) = refl
  expression_passes step at (integer n) = refl
  expression_passes step at (character n) = refl
  expression_passes step at (text ns) = refl
  expression_passes step at (paren x) = expression_passes step (step at (expression_node (paren x))) x

  pub expressions_passes : {A : Type 0} (step : A → Node → A) (at : A) (x : Expressions) → pass_expressions step at x ≡ pass_all step at (nodes_expressions x)
  expressions_passes step at no_expressions = refl
  expressions_passes step at (expressions x xs) = both _ _ (nodes_expression x) _ (expression_passes step at x) (expressions_passes step (pass_expression step at x) xs)

  pub sizes_passes : {A : Type 0} (step : A → Node → A) (at : A) (x : Sizes) → pass_sizes step at x ≡ pass_all step at (nodes_sizes x)
  sizes_passes step at no_sizes = refl
  sizes_passes step at (open_size xs) = sizes_passes step at xs
  sizes_passes step at (size x xs) = both _ _ (nodes_expression x) _ (expression_passes step at x) (sizes_passes step (pass_expression step at x) xs)

  pub type_passes : {A : Type 0} (step : A → Node → A) (at : A) (x : TypeTree) → pass_type step at x ≡ pass_all step at (nodes_type x)
  type_passes step at (typed ws b) = both _ _ (nodes_specifiers ws) _ (specifiers_passes step at ws) (bare_passes step (pass_specifiers step at ws) b)

  pub specifiers_passes : {A : Type 0} (step : A → Node → A) (at : A) (x : Specifiers) → pass_specifiers step at x ≡ pass_all step at (nodes_specifiers x)
  specifiers_passes step at no_specifiers = refl
  specifiers_passes step at (specifiers w ws) = both _ _ (nodes_specifier w) _ (specifier_passes step at w) (specifiers_passes step (pass_specifier step at w) ws)

  pub specifier_passes : {A : Type 0} (step : A → Node → A) (at : A) (x : Specifier) → pass_specifier step at x ≡ pass_all step at (nodes_specifier x)
  specifier_passes step at (struct_of t ms) = members_passes step at ms
  specifier_passes step at (enum_of t es c) = enumerators_passes step at es
  specifier_passes step at _ = refl

  pub members_passes : {A : Type 0} (step : A → Node → A) (at : A) (x : Members) → pass_members step at x ≡ pass_all step at (nodes_members x)
  members_passes step at no_members = refl
  members_passes step at (member ws ds ms) = both _ _ (nodes_specifiers ws) _ (specifiers_passes step at ws) (both _ _ (nodes_declarators ds) _ (declarators_passes step (pass_specifiers step at ws) ds) (members_passes step (pass_declarators step (pass_specifiers step at ws) ds) ms))

  pub declarators_passes : {A : Type 0} (step : A → Node → A) (at : A) (x : Declarators) → pass_declarators step at x ≡ pass_all step at (nodes_declarators x)
  declarators_passes step at no_declarators = refl
  declarators_passes step at (declarators d ds) = both _ _ (nodes_declarator d) _ (declarator_passes step (step at (member_node d)) d) (declarators_passes step (pass_declarator step (step at (member_node d)) d) ds)

  pub enumerators_passes : {A : Type 0} (step : A → Node → A) (at : A) (x : Enumerators) → pass_enumerators step at x ≡ pass_all step at (nodes_enumerators x)
  enumerators_passes step at no_enumerators = refl
  enumerators_passes step at (enumerator n es) = enumerators_passes step (step at (enumerator_node n None)) es
  enumerators_passes step at (enumerator_with n x es) = both _ _ (nodes_expression x) _ (expression_passes step (step at (enumerator_node n (Some x))) x) (enumerators_passes step (pass_expression step (step at (enumerator_node n (Some x))) x) es)

  pub declarator_passes : {A : Type 0} (step : A → Node → A) (at : A) (x : DeclaratorTree) → pass_declarator step at x ≡ pass_all step at (nodes_declarator x)
  declarator_passes step at (plain ss n) = refl
  declarator_passes step at (array ss n xs) = sizes_passes step at xs
  declarator_passes step at (function ss n ps v) = parameters_passes step at ps
  declarator_passes step at (pointer ss qs n xs ps v) = both _ _ (nodes_sizes xs) _ (sizes_passes step at xs) (parameters_passes step (pass_sizes step at xs) ps)

  pub parameters_passes : {A : Type 0} (step : A → Node → A) (at : A) (x : Parameters) → pass_parameters step at x ≡ pass_all step at (nodes_parameters x)
  parameters_passes step at no_parameters = refl
  parameters_passes step at (parameters ws f ps) = both _ _ (nodes_form (nodes_specifiers ws) ws f) _ (form_passes step at ws (λ q. pass_specifiers step q ws) (nodes_specifiers ws) f (λ q. specifiers_passes step q ws)) (parameters_passes step (pass_form step at ws (λ q. pass_specifiers step q ws) f) ps)

  pub form_passes : {A : Type 0} (step : A → Node → A) (at : A) (ws : Specifiers) (inside : A → A) (ns : List Node) (f : ParameterForm) →
      ((q : A) → inside q ≡ pass_all step q ns) → pass_form step at ws inside f ≡ pass_all step at (nodes_form ns ws f)
  form_passes step at ws inside ns (named_form d) h =
      let p = step at (parameter_node ws (named_form d)) in
      both _ _ ns _ (h p) (declarator_passes step (inside p) d)
  form_passes step at ws inside ns (bare_form b) h = both _ _ ns _ (h at) (bare_passes step (inside at) b)

  pub bare_passes : {A : Type 0} (step : A → Node → A) (at : A) (x : BareTree) → pass_bare step at x ≡ pass_all step at (nodes_bare x)
  bare_passes step at (bare_stars ss) = refl
  bare_passes step at (bare_pointer ss qs ps v) = parameters_passes step at ps

mutual
  pub init_passes : {A : Type 0} (step : A → Node → A) (at : A) (x : Initializer) → pass_init step at x ≡ pass_all step at (nodes_init x)
  init_passes step at (single x) = expression_passes step at x
  init_passes step at (listed ps c) = initializers_passes step (step at (initializers_node ps c)) ps

  pub initializers_passes : {A : Type 0} (step : A → Node → A) (at : A) (x : Initializers) → pass_initializers step at x ≡ pass_all step at (nodes_initializers x)
  initializers_passes step at no_initializers = refl
  initializers_passes step at (initializers n i ps) = both _ _ (nodes_init i) _ (init_passes step at i) (initializers_passes step (pass_init step at i) ps)

pub optional_init_passes : {A : Type 0} (step : A → Node → A) (at : A) (x : Option Initializer) → pass_optional_init step at x ≡ pass_all step at (nodes_optional_init x)
optional_init_passes step at None = refl
optional_init_passes step at (Some i) = init_passes step at i

pub named_passes : {A : Type 0} (step : A → Node → A) (at : A) (n : NamedTree) → pass_named step at n ≡ pass_all step at (nodes_named n)
named_passes step at n = both _ _ (nodes_declarator n.declarator) _ (declarator_passes step (step at (named_node n)) n.declarator) (optional_init_passes step (pass_declarator step (step at (named_node n)) n.declarator) n.init)

pub names_passes : {A : Type 0} (step : A → Node → A) (at : A) (ns : List NamedTree) → pass_names step at ns ≡ pass_all step at (nodes_names ns)
names_passes step at [] = refl
names_passes step at (n ∷ ns) = both _ _ (nodes_named n) _ (named_passes step at n) (names_passes step (pass_named step at n) ns)

pub declaration_passes : {A : Type 0} (step : A → Node → A) (at : A) (d : DeclarationTree) → pass_declaration step at d ≡ pass_all step at (nodes_declaration d)
declaration_passes step at d = both _ _ (nodes_specifiers d.specs) _ (specifiers_passes step (step at (declaration_node d)) d.specs) (names_passes step (pass_specifiers step (step at (declaration_node d)) d.specs) d.names)

pub optional_passes : {A : Type 0} (step : A → Node → A) (at : A) (x : Option Expression) → pass_optional step at x ≡ pass_all step at (nodes_optional x)
optional_passes step at None = refl
optional_passes step at (Some x) = expression_passes step at x

pub start_passes : {A : Type 0} (step : A → Node → A) (at : A) (x : ForStartTree) → pass_start step at x ≡ pass_all step at (nodes_start x)
start_passes step at (start_declaration d) = declaration_passes step at d
start_passes step at (start_expression x) = optional_passes step at x

mutual
  pub statement_passes : {A : Type 0} (step : A → Node → A) (at : A) (x : StatementTree) → pass_statement step at x ≡ pass_all step at (nodes_statement x)
  statement_passes step at (block ss) = statements_passes step (step at (statement_node (block ss))) ss
  statement_passes step at (declaration d) = declaration_passes step at d
  statement_passes step at (expression_statement x) = optional_passes step (step at (statement_node (expression_statement x))) x
  statement_passes step at (if_statement x s) = both _ _ (nodes_expression x) _ (expression_passes step (step at (statement_node (if_statement x s))) x) (statement_passes step (pass_expression step (step at (statement_node (if_statement x s))) x) s)
  statement_passes step at (if_else_statement x s r) = both _ _ (nodes_expression x) _ (expression_passes step (step at (statement_node (if_else_statement x s r))) x) (both _ _ (nodes_statement s) _ (statement_passes step (pass_expression step (step at (statement_node (if_else_statement x s r))) x) s) (statement_passes step (pass_statement step (pass_expression step (step at (statement_node (if_else_statement x s r))) x) s) r))
  statement_passes step at (while_statement x s) = both _ _ (nodes_expression x) _ (expression_passes step (step at (statement_node (while_statement x s))) x) (statement_passes step (pass_expression step (step at (statement_node (while_statement x s))) x) s)
  statement_passes step at (do_statement s x) = both _ _ (nodes_statement s) _ (statement_passes step (step at (statement_node (do_statement s x))) s) (expression_passes step (pass_statement step (step at (statement_node (do_statement s x))) s) x)
  statement_passes step at (for_statement a x y s) = both _ _ (nodes_start a) _ (start_passes step (step at (statement_node (for_statement a x y s))) a) (both _ _ (nodes_optional x) _ (optional_passes step (pass_start step (step at (statement_node (for_statement a x y s))) a) x) (both _ _ (nodes_optional y) _ (optional_passes step (pass_optional step (pass_start step (step at (statement_node (for_statement a x y s))) a) x) y) (statement_passes step (pass_optional step (pass_optional step (pass_start step (step at (statement_node (for_statement a x y s))) a) x) y) s)))
  statement_passes step at (switch_statement x s) = both _ _ (nodes_expression x) _ (expression_passes step (step at (statement_node (switch_statement x s))) x) (statement_passes step (pass_expression step (step at (statement_node (switch_statement x s))) x) s)
  statement_passes step at (case_label x) = expression_passes step (step at (statement_node (case_label x))) x
  statement_passes step at default_label = refl
  statement_passes step at (named_label n) = refl
  statement_passes step at break_statement = refl
  statement_passes step at continue_statement = refl
  statement_passes step at (return_statement x) = optional_passes step (step at (statement_node (return_statement x))) x
  statement_passes step at (goto_statement n) = refl

  pub statements_passes : {A : Type 0} (step : A → Node → A) (at : A) (x : Statements) → pass_statements step at x ≡ pass_all step at (nodes_statements x)
  statements_passes step at no_statements = refl
  statements_passes step at (statements s ss) = both _ _ (nodes_statement s) _ (statement_passes step at s) (statements_passes step (pass_statement step at s) ss)

pub function_passes : {A : Type 0} (step : A → Node → A) (at : A) (f : FunctionTree) → pass_function step at f ≡ pass_all step at (nodes_function f)
function_passes step at f = both _ _ (nodes_specifiers f.specs) _ (specifiers_passes step (step at (function_node f)) f.specs) (both _ _ (nodes_parameters f.params) _ (parameters_passes step (pass_specifiers step (step at (function_node f)) f.specs) f.params) (statement_passes step (pass_parameters step (pass_specifiers step (step at (function_node f)) f.specs) f.params) f.body))

pub item_passes : {A : Type 0} (step : A → Node → A) (at : A) (i : ItemTree) → pass_item step at i ≡ pass_all step at (nodes_item i)
item_passes step at (function_item f) = function_passes step at f
item_passes step at (declaration_item d) = declaration_passes step at d

pub items_passes : {A : Type 0} (step : A → Node → A) (at : A) (is : List ItemTree) → pass_items step at is ≡ pass_all step at (nodes_items is)
items_passes step at [] = refl
items_passes step at (i ∷ is) = both _ _ (nodes_item i) _ (item_passes step at i) (items_passes step (pass_item step at i) is)
