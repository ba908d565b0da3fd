-- A walk that goes down the tree: it passes each part after the one before it, with the tokens between.
use Rattle.std.specs.Prelude.{ℕ, List, [], ◌∷◌, length, Option, Some, None, is_some, Bool, true, false}
use Rattle.c_tree.specs.declared.tree.Storage.{Storage}
use Rattle.c_tree.specs.declared.tree.Storage.TheVariants as st
use Rattle.node_places.specs.Walked.{Walked, skip, skip_if, begin, close}
use Rattle.c_tree.specs.Tree.{Stars, Expression, comma, assign, choose, binary, cast, unary, before, size_of, size_of_type, index, call, dot, arrow, after, name, integer, character, text, paren, Expressions, no_expressions, expressions, Sizes, no_sizes, open_size, size, TypeTree, typed, Specifiers, no_specifiers, specifiers, Specifier, struct_tag, struct_of, enum_tag, enum_of, Members, no_members, member, Declarators, no_declarators, declarators, Enumerators, no_enumerators, enumerator, enumerator_with, DeclaratorTree, plain, array, function, pointer, Parameters, no_parameters, parameters, ParameterForm, named_form, bare_form, BareTree, bare_stars, bare_pointer, Initializer, single, listed, Initializers, no_initializers, initializers, NamedTree, DeclarationTree, ForStartTree, start_declaration, start_expression, StatementTree, block, declaration, expression_statement, if_statement, if_else_statement, while_statement, do_statement, for_statement, switch_statement, case_label, default_label, named_label, break_statement, continue_statement, return_statement, goto_statement, Statements, no_statements, statements, FunctionTree, ItemTree, function_item, declaration_item}

abbrev pub past_stars : Walked → Stars → Walked
past_stars w [] = w
past_stars w (qs ∷ ss) = past_stars (skip (length qs) (skip 1 w)) ss

-- the word void stands where there are no parameters
abbrev pub is_void : Parameters → Bool → Bool
is_void no_parameters word = word
is_void (parameters ws f ps) word = false

-- behind: whether the parts stand behind others of their list, so that a comma is before the first
abbrev mutual
  pub past_expression : Walked → Expression → Walked
  past_expression w (comma x y) = past_expression (skip 1 (past_expression (begin w) x)) y
  past_expression w (assign o x y) = past_expression (skip 1 (past_expression (begin w) x)) y
  past_expression w (choose x y z) = past_expression (skip 1 (past_expression (skip 1 (past_expression (begin w) x)) y)) z
  past_expression w (binary o x y) = past_expression (skip 1 (past_expression (begin w) x)) y
  past_expression w (cast t x) = past_expression (skip 1 (past_type (skip 1 (begin w)) t)) x
  past_expression w (unary o x) = past_expression (skip 1 (begin w)) x
  past_expression w (before o x) = past_expression (skip 1 (begin w)) x
  past_expression w (size_of x) = past_expression (skip 1 (begin w)) x
  past_expression w (size_of_type t) = skip 1 (past_type (skip 1 (skip 1 (begin w))) t)
  past_expression w (index x y) = skip 1 (past_expression (skip 1 (past_expression (begin w) x)) y)
  past_expression w (call f xs) = skip 1 (past_expressions false (skip 1 (past_expression (begin w) f)) xs)
  past_expression w (dot x n) = skip 2 (past_expression (begin w) x)
  past_expression w (arrow x n) = skip 2 (past_expression (begin w) x)
  past_expression w (after o x) = skip 1 (past_expression (begin w) x)
  past_expression w (name n) = skip 1 (begin w)
  past_expression w (integer n) = skip 1 (begin w)
  past_expression w (character n) = skip 1 (begin w)
  past_expression w (text ns) = skip (length ns) (begin w)
  past_expression w (paren x) = skip 1 (past_expression (skip 1 (begin w)) x)

  pub past_expressions : Bool → Walked → Expressions → Walked
  past_expressions behind w no_expressions = w
  past_expressions behind w (expressions x xs) = past_expressions true (past_expression (skip_if behind w) x) xs

  pub past_sizes : Walked → Sizes → Walked
  past_sizes w no_sizes = w
  past_sizes w (open_size xs) = past_sizes (skip 2 w) xs
  past_sizes w (size x xs) = past_sizes (skip 1 (past_expression (skip 1 w) x)) xs

  pub past_type : Walked → TypeTree → Walked
  past_type w (typed ws b) = past_bare (past_specifiers w ws) b

  pub past_specifiers : Walked → Specifiers → Walked
  past_specifiers w no_specifiers = w
  past_specifiers w (specifiers s ws) = past_specifiers (past_specifier w s) ws

  pub past_specifier : Walked → Specifier → Walked
  past_specifier w (struct_tag n) = skip 1 (skip 1 w)
  past_specifier w (struct_of t ms) = skip 1 (past_members (skip 1 (skip_if (is_some t) (skip 1 w))) ms)
  past_specifier w (enum_tag n) = skip 1 (skip 1 w)
  past_specifier w (enum_of t es last) = skip 1 (skip_if last (past_enumerators false (skip 1 (skip_if (is_some t) (skip 1 w))) es))
  past_specifier w _ = skip 1 w

  pub past_members : Walked → Members → Walked
  past_members w no_members = w
  past_members w (member ws ds ms) = past_members (skip 1 (past_declarators false (past_specifiers w ws) ds)) ms

  pub past_declarators : Bool → Walked → Declarators → Walked
  past_declarators behind w no_declarators = w
  past_declarators behind w (declarators d ds) = past_declarators true (past_declarator (begin (skip_if behind w)) d) ds

  pub past_enumerators : Bool → Walked → Enumerators → Walked
  past_enumerators behind w no_enumerators = w
  past_enumerators behind w (enumerator n es) = past_enumerators true (skip 1 (begin (skip_if behind w))) es
  past_enumerators behind w (enumerator_with n x es) = past_enumerators true (past_expression (skip 2 (begin (skip_if behind w))) x) es

  pub past_declarator : Walked → DeclaratorTree → Walked
  past_declarator w (plain ss n) = skip 1 (past_stars w ss)
  past_declarator w (array ss n xs) = past_sizes (skip 1 (past_stars w ss)) xs
  past_declarator w (function ss n ps v) = skip 1 (past_parameters false (skip_if (is_void ps v) (skip 2 (past_stars w ss))) ps)
  past_declarator w (pointer ss qs n xs ps v) = skip 1 (past_parameters false (skip_if (is_void ps v) (skip 2 (past_sizes (skip 1 (skip (length qs) (skip 2 (past_stars w ss)))) xs))) ps)

  pub past_parameters : Bool → Walked → Parameters → Walked
  past_parameters behind w no_parameters = w
  past_parameters behind w (parameters ws f ps) = past_parameters true (past_form (skip_if behind w) (λ v. past_specifiers v ws) f) ps

  -- inside: passes the specifiers
  pub past_form : Walked → (Walked → Walked) → ParameterForm → Walked
  past_form w inside (named_form d) = past_declarator (inside (begin w)) d
  past_form w inside (bare_form b) = past_bare (inside w) b

  pub past_bare : Walked → BareTree → Walked
  past_bare w (bare_stars ss) = past_stars w ss
  past_bare w (bare_pointer ss qs ps v) = skip 1 (past_parameters false (skip_if (is_void ps v) (skip 2 (skip (length qs) (skip 2 (past_stars w ss))))) ps)

abbrev pub past_designator : Option (List ℕ) → Walked → Walked
past_designator None w = w
past_designator (Some n) w = skip 3 w

abbrev mutual
  pub past_init : Walked → Initializer → Walked
  past_init w (single x) = past_expression w x
  past_init w (listed ps last) = skip 1 (skip_if last (past_initializers false (skip 1 (begin w)) ps))

  pub past_initializers : Bool → Walked → Initializers → Walked
  past_initializers behind w no_initializers = w
  past_initializers behind w (initializers n i ps) = past_initializers true (past_init (past_designator n (skip_if behind w)) i) ps

abbrev pub past_optional_init : Walked → Option Initializer → Walked
past_optional_init w None = w
past_optional_init w (Some i) = past_init (skip 1 w) i

abbrev pub past_named : Walked → NamedTree → Walked
past_named w n = past_optional_init (past_declarator (begin w) n.declarator) n.init

abbrev pub past_names : Bool → Walked → List NamedTree → Walked
past_names behind w [] = w
past_names behind w (n ∷ ns) = past_names true (past_named (skip_if behind w) n) ns

abbrev pub past_storage : Storage → Walked → Walked
past_storage st.Nothing w = w
past_storage _ w = skip 1 w

abbrev pub past_declaration : Walked → DeclarationTree → Walked
past_declaration w d = skip 1 (past_names false (past_specifiers (past_storage d.storage (begin w)) d.specs) d.names)

abbrev pub past_optional : Walked → Option Expression → Walked
past_optional w None = w
past_optional w (Some x) = past_expression w x

abbrev pub past_for_start : Walked → ForStartTree → Walked
past_for_start w (start_declaration d) = past_declaration w d
past_for_start w (start_expression x) = skip 1 (past_optional w x)

abbrev mutual
  pub past_statement : Walked → StatementTree → Walked
  past_statement w (block ss) = skip 1 (past_statements (skip 1 (begin w)) ss)
  past_statement w (declaration d) = past_declaration w d
  past_statement w (expression_statement x) = skip 1 (past_optional (begin w) x)
  past_statement w (if_statement x s) = past_statement (skip 1 (past_expression (skip 2 (begin w)) x)) s
  past_statement w (if_else_statement x s r) = past_statement (skip 1 (past_statement (skip 1 (past_expression (skip 2 (begin w)) x)) s)) r
  past_statement w (while_statement x s) = past_statement (skip 1 (past_expression (skip 2 (begin w)) x)) s
  past_statement w (do_statement s x) = skip 2 (past_expression (skip 2 (past_statement (skip 1 (begin w)) s)) x)
  past_statement w (for_statement a x y s) = past_statement (skip 1 (past_optional (skip 1 (past_optional (past_for_start (skip 2 (begin w)) a) x)) y)) s
  past_statement w (switch_statement x s) = past_statement (skip 1 (past_expression (skip 2 (begin w)) x)) s
  past_statement w (case_label x) = skip 1 (past_expression (skip 1 (begin w)) x)
  past_statement w default_label = skip 2 (begin w)
  past_statement w (named_label n) = skip 2 (begin w)
  past_statement w break_statement = skip 2 (begin w)
  past_statement w continue_statement = skip 2 (begin w)
  past_statement w (return_statement x) = skip 1 (past_optional (skip 1 (begin w)) x)
  past_statement w (goto_statement n) = skip 3 (begin w)

  pub past_statements : Walked → Statements → Walked
  past_statements w no_statements = w
  past_statements w (statements s ss) = past_statements (past_statement w s) ss

abbrev pub past_function : Walked → FunctionTree → Walked
past_function w f =
    close (past_statement (skip 1 (past_parameters false (skip_if (is_void f.params f.word) (skip 2
    (past_stars (past_specifiers (past_storage f.storage (begin w)) f.specs) f.stars))) f.params)) f.body)

abbrev pub past_item : Walked → ItemTree → Walked
past_item w (function_item f) = past_function w f
past_item w (declaration_item d) = past_declaration w d

abbrev pub past_items : Walked → List ItemTree → Walked
past_items w [] = w
past_items w (i ∷ is) = past_items (past_item w i) is
