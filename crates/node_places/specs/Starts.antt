-- Where the nodes of a program stand among its tokens, in the order of c_tree's `nodes`: for each node the index of its first
-- token, when the first token of the whole has the index k. A sum names what stands before: tokens by their number, and
-- parts by the tokens that they spell.
use Rattle.std.specs.Prelude.{ℕ, ◌+◌, ◌-◌, List, [], ◌∷◌, ◌++◌, length, Option, Some, None}
use Rattle.c_tree.specs.Spelling.{spell_quals, spell_stars, spell_tag, spell_expression, spell_sizes, spell_type, spell_specifiers, spell_specifier, spell_declarators, spell_declarator, spell_parameters, spell_form, spell_designator, spell_init, spell_storage, spell_named, spell_declaration, spell_optional, spell_for_start, spell_statement, spell_item}
use Rattle.c_tree.specs.Tree.{Expression, comma, assign, choose, binary, cast, unary, before, size_of, size_of_type, index, call, dot, arrow, after, name, integer, character, text, paren, Expressions, no_expressions, expressions, Sizes, no_sizes, open_size, size, TypeTree, typed, Specifiers, no_specifiers, specifiers, Specifier, struct_of, enum_of, Members, no_members, member, Declarators, no_declarators, declarators, Enumerators, no_enumerators, enumerator, enumerator_with, DeclaratorTree, plain, array, function, pointer, Parameters, no_parameters, parameters, ParameterForm, named_form, bare_form, BareTree, bare_stars, bare_pointer, Initializer, single, listed, Initializers, no_initializers, initializers, NamedTree, DeclarationTree, ForStartTree, start_declaration, start_expression, StatementTree, block, declaration, expression_statement, if_statement, if_else_statement, while_statement, do_statement, for_statement, switch_statement, case_label, default_label, named_label, break_statement, continue_statement, return_statement, goto_statement, Statements, no_statements, statements, FunctionTree, ItemTree, function_item, declaration_item}

abbrev mutual
  pub starts_expression : ℕ → Expression → List ℕ
  starts_expression k (comma x y) = k ∷ (starts_expression k x ++ starts_expression (k + length (spell_expression x) + 1) y)
  starts_expression k (assign o x y) = k ∷ (starts_expression k x ++ starts_expression (k + length (spell_expression x) + 1) y)
  starts_expression k (choose x y z) = k ∷ (starts_expression k x ++ (starts_expression (k + length (spell_expression x) + 1) y ++ starts_expression (k + length (spell_expression x) + 1 + length (spell_expression y) + 1) z))
  starts_expression k (binary o x y) = k ∷ (starts_expression k x ++ starts_expression (k + length (spell_expression x) + 1) y)
  starts_expression k (cast t x) = k ∷ (starts_type (k + 1) t ++ starts_expression (k + 1 + length (spell_type t) + 1) x)
  starts_expression k (unary o x) = k ∷ starts_expression (k + 1) x
  starts_expression k (before o x) = k ∷ starts_expression (k + 1) x
  starts_expression k (size_of x) = k ∷ starts_expression (k + 1) x
  starts_expression k (size_of_type t) = k ∷ starts_type (k + 1 + 1) t
  starts_expression k (index x y) = k ∷ (starts_expression k x ++ starts_expression (k + length (spell_expression x) + 1) y)
  starts_expression k (call f xs) = k ∷ (starts_expression k f ++ starts_expressions (k + length (spell_expression f) + 1) xs)
  starts_expression k (dot x n) = k ∷ starts_expression k x
  starts_expression k (arrow x n) = k ∷ starts_expression k x
  starts_expression k (after o x) = k ∷ starts_expression k x
  starts_expression k (name n) = k ∷ []
  starts_expression k (integer n) = k ∷ []
  starts_expression k (character n) = k ∷ []
  starts_expression k (text ns) = k ∷ []
  starts_expression k (paren x) = k ∷ starts_expression (k + 1) x

  -- a comma stands before each expression but the first
  pub starts_expressions : ℕ → Expressions → List ℕ
  starts_expressions k no_expressions = []
  starts_expressions k (expressions x xs) = starts_expression k x ++ starts_expressions (k + length (spell_expression x) + 1) xs

  pub starts_sizes : ℕ → Sizes → List ℕ
  starts_sizes k no_sizes = []
  starts_sizes k (open_size xs) = starts_sizes (k + 2) xs
  starts_sizes k (size x xs) = starts_expression (k + 1) x ++ starts_sizes (k + 1 + length (spell_expression x) + 1) xs

  pub starts_type : ℕ → TypeTree → List ℕ
  starts_type k (typed ws b) = starts_specifiers k ws ++ starts_bare (k + length (spell_specifiers ws)) b

  pub starts_specifiers : ℕ → Specifiers → List ℕ
  starts_specifiers k no_specifiers = []
  starts_specifiers k (specifiers w ws) = starts_specifier k w ++ starts_specifiers (k + length (spell_specifier w)) ws

  pub starts_specifier : ℕ → Specifier → List ℕ
  starts_specifier k (struct_of t ms) = starts_members (k + 1 + length (spell_tag t) + 1) ms
  starts_specifier k (enum_of t es last) = starts_enumerators (k + 1 + length (spell_tag t) + 1) es
  starts_specifier k _ = []

  pub starts_members : ℕ → Members → List ℕ
  starts_members k no_members = []
  starts_members k (member ws ds ms) = starts_specifiers k ws ++ (starts_declarators (k + length (spell_specifiers ws)) ds ++ starts_members (k + length (spell_specifiers ws) + length (spell_declarators ds) + 1) ms)

  -- a comma stands before each declarator but the first
  pub starts_declarators : ℕ → Declarators → List ℕ
  starts_declarators k no_declarators = []
  starts_declarators k (declarators d ds) = k ∷ (starts_declarator k d ++ starts_declarators (k + length (spell_declarator d) + 1) ds)

  -- a comma stands before each enumerator but the first
  pub starts_enumerators : ℕ → Enumerators → List ℕ
  starts_enumerators k no_enumerators = []
  starts_enumerators k (enumerator n es) = k ∷ starts_enumerators (k + 1 + 1) es
  starts_enumerators k (enumerator_with n x es) = k ∷ (starts_expression (k + 2) x ++ starts_enumerators (k + 2 + length (spell_expression x) + 1) es)

  pub starts_declarator : ℕ → DeclaratorTree → List ℕ
  starts_declarator k (plain ss n) = []
  starts_declarator k (array ss n xs) = starts_sizes (k + length (spell_stars ss) + 1) xs
  starts_declarator k (function ss n ps v) = starts_parameters (k + length (spell_stars ss) + 2) ps
  starts_declarator k (pointer ss qs n xs ps v) = starts_sizes (k + length (spell_stars ss) + 2 + length (spell_quals qs) + 1) xs ++ starts_parameters (k + length (spell_stars ss) + 2 + length (spell_quals qs) + 1 + length (spell_sizes xs) + 2) ps

  -- a comma stands before each parameter but the first
  pub starts_parameters : ℕ → Parameters → List ℕ
  starts_parameters k no_parameters = []
  starts_parameters k (parameters ws f ps) = starts_form k (starts_specifiers k ws) (k + length (spell_specifiers ws)) f ++ starts_parameters (k + (length (spell_specifiers ws) + length (spell_form f)) + 1) ps

  -- k: the first specifier; inside: the nodes in the specifiers; behind: the token behind the specifiers
  pub starts_form : ℕ → List ℕ → ℕ → ParameterForm → List ℕ
  starts_form k inside behind (named_form d) = k ∷ (inside ++ starts_declarator behind d)
  starts_form k inside behind (bare_form b) = inside ++ starts_bare behind b

  pub starts_bare : ℕ → BareTree → List ℕ
  starts_bare k (bare_stars ss) = []
  starts_bare k (bare_pointer ss qs ps v) = starts_parameters (k + length (spell_stars ss) + 2 + length (spell_quals qs) + 2) ps

abbrev mutual
  pub starts_init : ℕ → Initializer → List ℕ
  starts_init k (single x) = starts_expression k x
  starts_init k (listed ps last) = k ∷ starts_initializers (k + 1) ps

  -- a comma stands before each initialiser but the first
  pub starts_initializers : ℕ → Initializers → List ℕ
  starts_initializers k no_initializers = []
  starts_initializers k (initializers n i ps) = starts_init (k + length (spell_designator n)) i ++ starts_initializers (k + length (spell_designator n) + length (spell_init i) + 1) ps

-- k: the sign of equality before the initialiser
abbrev pub starts_optional_init : ℕ → Option Initializer → List ℕ
starts_optional_init k None = []
starts_optional_init k (Some i) = starts_init (k + 1) i

abbrev pub starts_named : ℕ → NamedTree → List ℕ
starts_named k n = k ∷ (starts_declarator k n.declarator ++ starts_optional_init (k + length (spell_declarator n.declarator)) n.init)

-- a comma stands before each name but the first
abbrev pub starts_names : ℕ → List NamedTree → List ℕ
starts_names k [] = []
starts_names k (n ∷ ns) = starts_named k n ++ starts_names (k + length (spell_named n) + 1) ns

abbrev pub starts_declaration : ℕ → DeclarationTree → List ℕ
starts_declaration k d = k ∷ (starts_specifiers (k + length (spell_storage d.storage)) d.specs ++ starts_names (k + length (spell_storage d.storage) + length (spell_specifiers d.specs)) d.names)

abbrev pub starts_optional : ℕ → Option Expression → List ℕ
starts_optional k None = []
starts_optional k (Some x) = starts_expression k x

abbrev pub starts_for_start : ℕ → ForStartTree → List ℕ
starts_for_start k (start_declaration d) = starts_declaration k d
starts_for_start k (start_expression x) = starts_optional k x

abbrev mutual
  pub starts_statement : ℕ → StatementTree → List ℕ
  starts_statement k (block ss) = k ∷ starts_statements (k + 1) ss
  starts_statement k (declaration d) = starts_declaration k d
  starts_statement k (expression_statement x) = k ∷ starts_optional k x
  starts_statement k (if_statement x s) = k ∷ (starts_expression (k + 2) x ++ starts_statement (k + 2 + length (spell_expression x) + 1) s)
  starts_statement k (if_else_statement x s r) = k ∷ (starts_expression (k + 2) x ++ (starts_statement (k + 2 + length (spell_expression x) + 1) s ++ starts_statement (k + 2 + length (spell_expression x) + 1 + length (spell_statement s) + 1) r))
  starts_statement k (while_statement x s) = k ∷ (starts_expression (k + 2) x ++ starts_statement (k + 2 + length (spell_expression x) + 1) s)
  starts_statement k (do_statement s x) = k ∷ (starts_statement (k + 1) s ++ starts_expression (k + 1 + length (spell_statement s) + 2) x)
  starts_statement k (for_statement a x y s) = k ∷ (starts_for_start (k + 2) a ++ (starts_optional (k + 2 + length (spell_for_start a)) x ++ (starts_optional (k + 2 + length (spell_for_start a) + length (spell_optional x) + 1) y ++ starts_statement (k + 2 + length (spell_for_start a) + length (spell_optional x) + 1 + length (spell_optional y) + 1) s)))
  starts_statement k (switch_statement x s) = k ∷ (starts_expression (k + 2) x ++ starts_statement (k + 2 + length (spell_expression x) + 1) s)
  starts_statement k (case_label x) = k ∷ starts_expression (k + 1) x
  starts_statement k default_label = k ∷ []
  starts_statement k (named_label n) = k ∷ []
  starts_statement k break_statement = k ∷ []
  starts_statement k continue_statement = k ∷ []
  starts_statement k (return_statement x) = k ∷ starts_optional (k + 1) x
  starts_statement k (goto_statement n) = k ∷ []

  pub starts_statements : ℕ → Statements → List ℕ
  starts_statements k no_statements = []
  starts_statements k (statements s ss) = starts_statement k s ++ starts_statements (k + length (spell_statement s)) ss

abbrev pub starts_function : ℕ → FunctionTree → List ℕ
starts_function k f =
    k ∷ (starts_specifiers (k + length (spell_storage f.storage)) f.specs
    ++ (starts_parameters (k + length (spell_storage f.storage) + length (spell_specifiers f.specs) + length (spell_stars f.stars) + 2) f.params
    ++ starts_statement (k + length (spell_storage f.storage) + length (spell_specifiers f.specs) + length (spell_stars f.stars) + 2 + (length (spell_parameters f.params f.word) + 1)) f.body))

abbrev pub starts_item : ℕ → ItemTree → List ℕ
starts_item k (function_item f) = starts_function k f
starts_item k (declaration_item d) = starts_declaration k d

abbrev pub starts_items : ℕ → List ItemTree → List ℕ
starts_items k [] = []
starts_items k (i ∷ is) = starts_item k i ++ starts_items (k + length (spell_item i)) is

-- the nodes of a program: the program itself stands at its first token, and so does its first item
abbrev pub starts : List ItemTree → List ℕ
starts items = 0 ∷ starts_items 0 items

-- the last token of each function, its closing brace
abbrev pub closes_items : ℕ → List ItemTree → List ℕ
closes_items k [] = []
closes_items k (function_item f ∷ is) = (k + length (spell_item (function_item f)) - 1) ∷ closes_items (k + length (spell_item (function_item f))) is
closes_items k (declaration_item d ∷ is) = closes_items (k + length (spell_declaration d)) is

abbrev pub closes : List ItemTree → List ℕ
closes items = closes_items 0 items
