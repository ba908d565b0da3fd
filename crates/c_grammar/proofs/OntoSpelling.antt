-- The tokens that a tree spells before others are its spelling, and the others.
use Rattle.std.proofs.Common.{◌≡◌, List, [], ◌∷◌, ◌++◌, Option, Some, None, Bool, true, false, map, refl, append_assoc}
use Rattle.c_tree.specs.declared.tree.Storage.{Storage}
use Rattle.c_tree.specs.declared.tree.Storage.TheVariants as st
use Rattle.c_tree.specs.Marks.{Tokens, text_token}
use Rattle.c_tree.specs.Tree.{Name, Quals, Stars, Expression, comma, assign, choose, binary, cast, unary, before, size_of, size_of_type, index, call, dot, arrow, after, name, integer, character, text, paren, Expressions, no_expressions, expressions, Sizes, no_sizes, open_size, size, TypeTree, typed, Specifiers, no_specifiers, specifiers, Specifier, const_word, volatile_word, void_word, char_word, short_word, int_word, long_word, signed_word, unsigned_word, type_name, struct_tag, struct_of, enum_tag, enum_of, Members, no_members, member, Declarators, no_declarators, declarators, Enumerators, no_enumerators, enumerator, enumerator_with, DeclaratorTree, plain, array, function, pointer, Parameters, no_parameters, parameters, ParameterForm, named_form, bare_form, BareTree, bare_stars, bare_pointer, Initializer, single, listed, Initializers, no_initializers, initializers, NamedTree, DeclarationTree, ForStartTree, start_declaration, start_expression, StatementTree, block, declaration, expression_statement, if_statement, if_else_statement, while_statement, do_statement, for_statement, switch_statement, case_label, default_label, named_label, break_statement, continue_statement, return_statement, goto_statement, Statements, no_statements, statements, ItemTree, function_item, declaration_item}
use Rattle.c_tree.specs.Spelling.{spell_quals, spell_stars, spell_tag, trailing, spell_expression, spell_arguments, spell_more, spell_sizes, spell_type, spell_specifiers, spell_specifier, spell_members, spell_declarators, spell_more_declarators, spell_enumerators, spell_more_enumerators, spell_declarator, spell_parameters, spell_more_parameters, spell_form, spell_bare, spell_designator, spell_init, spell_initializers, spell_more_initializers, spell_storage, spell_initial, spell_named, spell_more_named, spell_all_named, spell_declaration, spell_optional, spell_for_start, spell_statement, spell_statements, spell_item, spell}
use Rattle.c_grammar.proofs.Onto.{onto_quals, onto_texts, onto_stars, onto_tag, onto_trailing, onto_expression, onto_arguments, onto_more, onto_sizes, onto_type, onto_specifiers, onto_specifier, onto_members, onto_declarators, onto_more_declarators, onto_enumerators, onto_more_enumerators, onto_declarator, onto_parameters, onto_more_parameters, onto_form, onto_bare, onto_designator, onto_init, onto_initializers, onto_more_initializers, onto_storage, onto_initial, onto_named, onto_more_named, onto_all_named, onto_declaration, onto_optional, onto_for_start, onto_statement, onto_statements, onto_item, onto_program}

-- the tokens of qualifiers, before others
pub quals_onto : (x : Quals) (r : Tokens) → onto_quals x r ≡ spell_quals x ++ r
quals_onto [] r = refl
quals_onto (q ∷ qs) r = simp (quals_onto qs)

-- the tokens of string literals, before others
pub texts_onto : (x : List Name) (r : Tokens) → onto_texts x r ≡ map text_token x ++ r
texts_onto [] r = refl
texts_onto (n ∷ ns) r = simp (texts_onto ns)

-- the tokens of stars, before others
pub stars_onto : (x : Stars) (r : Tokens) → onto_stars x r ≡ spell_stars x ++ r
stars_onto [] r = refl
stars_onto (x ∷ xs) r = simp (append_assoc, quals_onto x, stars_onto xs)

-- the tokens of a tag, before others
pub tag_onto : (x : Option Name) (r : Tokens) → onto_tag x r ≡ spell_tag x ++ r
tag_onto None r = refl
tag_onto (Some n) r = refl

-- the tokens of a trailing comma, before others
pub trailing_onto : (x : Bool) (r : Tokens) → onto_trailing x r ≡ trailing x ++ r
trailing_onto true r = refl
trailing_onto false r = refl

mutual
  -- the tokens of an expression, before others
  pub expression_onto : (x : Expression) (r : Tokens) → onto_expression x r ≡ spell_expression x ++ r
  expression_onto (comma x y) r = simp (append_assoc, expression_onto x, expression_onto y)
  expression_onto (assign o x y) r = simp (append_assoc, expression_onto x, expression_onto y)
  expression_onto (choose x y z) r = simp (append_assoc, expression_onto x, expression_onto y, expression_onto z)
  expression_onto (binary o x y) r = simp (append_assoc, expression_onto x, expression_onto y)
  expression_onto (cast t x) r = simp (append_assoc, type_onto t, expression_onto x)
  expression_onto (unary o x) r = simp (expression_onto x)
  expression_onto (before o x) r = simp (expression_onto x)
  expression_onto (size_of x) r = simp (expression_onto x)
  expression_onto (size_of_type t) r = simp (append_assoc, type_onto t)
  expression_onto (index x y) r = simp (append_assoc, expression_onto x, expression_onto y)
  expression_onto (call f xs) r = simp (append_assoc, expression_onto f, arguments_onto xs)
  expression_onto (dot x n) r = simp (append_assoc, expression_onto x)
  expression_onto (arrow x n) r = simp (append_assoc, expression_onto x)
  expression_onto (after o x) r = simp (append_assoc, expression_onto x)
  expression_onto (name n) r = refl
  expression_onto (integer n) r = refl
  expression_onto (character n) r = refl
  expression_onto (text ns) r = simp (texts_onto ns)
  expression_onto (paren x) r = simp (append_assoc, expression_onto x)

  -- the tokens of arguments, before others
  pub arguments_onto : (x : Expressions) (r : Tokens) → onto_arguments x r ≡ spell_arguments x ++ r
  arguments_onto no_expressions r = refl
  arguments_onto (expressions x xs) r = simp (append_assoc, expression_onto x, more_onto xs)

  -- the tokens of arguments behind the first, before others
  pub more_onto : (x : Expressions) (r : Tokens) → onto_more x r ≡ spell_more x ++ r
  more_onto no_expressions r = refl
  more_onto (expressions x xs) r = simp (append_assoc, expression_onto x, more_onto xs)

  -- the tokens of sizes, before others
  pub sizes_onto : (x : Sizes) (r : Tokens) → onto_sizes x r ≡ spell_sizes x ++ r
  sizes_onto no_sizes r = refl
  sizes_onto (open_size ds) r = simp (sizes_onto ds)
  sizes_onto (size x ds) r = simp (append_assoc, expression_onto x, sizes_onto ds)

  -- the tokens of a type, before others
  pub type_onto : (x : TypeTree) (r : Tokens) → onto_type x r ≡ spell_type x ++ r
  type_onto (typed ws b) r = simp (append_assoc, specifiers_onto ws, bare_onto b)

  -- the tokens of specifiers, before others
  pub specifiers_onto : (x : Specifiers) (r : Tokens) → onto_specifiers x r ≡ spell_specifiers x ++ r
  specifiers_onto no_specifiers r = refl
  specifiers_onto (specifiers w ws) r = simp (append_assoc, specifier_onto w, specifiers_onto ws)

  -- the tokens of a specifier, before others
  pub specifier_onto : (x : Specifier) (r : Tokens) → onto_specifier x r ≡ spell_specifier x ++ r
  specifier_onto const_word r = refl
  specifier_onto volatile_word r = refl
  specifier_onto void_word r = refl
  specifier_onto char_word r = refl
  specifier_onto short_word r = refl
  specifier_onto int_word r = refl
  specifier_onto long_word r = refl
  specifier_onto signed_word r = refl
  specifier_onto unsigned_word r = refl
  specifier_onto (type_name n) r = refl
  specifier_onto (struct_tag n) r = refl
  specifier_onto (struct_of t ms) r = simp (append_assoc, tag_onto t, members_onto ms)
  specifier_onto (enum_tag n) r = refl
  specifier_onto (enum_of t es last) r = simp (append_assoc, tag_onto t, enumerators_onto es, trailing_onto last)

  -- the tokens of members, before others
  pub members_onto : (x : Members) (r : Tokens) → onto_members x r ≡ spell_members x ++ r
  members_onto no_members r = refl
  members_onto (member ws ns ms) r = simp (append_assoc, specifiers_onto ws, declarators_onto ns, members_onto ms)

  -- the tokens of declarators, before others
  pub declarators_onto : (x : Declarators) (r : Tokens) → onto_declarators x r ≡ spell_declarators x ++ r
  declarators_onto no_declarators r = refl
  declarators_onto (declarators d ds) r = simp (append_assoc, declarator_onto d, more_declarators_onto ds)

  -- the tokens of declarators behind the first, before others
  pub more_declarators_onto : (x : Declarators) (r : Tokens) → onto_more_declarators x r ≡ spell_more_declarators x ++ r
  more_declarators_onto no_declarators r = refl
  more_declarators_onto (declarators d ds) r = simp (append_assoc, declarator_onto d, more_declarators_onto ds)

  -- the tokens of enumerators, before others
  pub enumerators_onto : (x : Enumerators) (r : Tokens) → onto_enumerators x r ≡ spell_enumerators x ++ r
  enumerators_onto no_enumerators r = refl
  enumerators_onto (enumerator n es) r = simp (more_enumerators_onto es)
  enumerators_onto (enumerator_with n x es) r = simp (append_assoc, expression_onto x, more_enumerators_onto es)

  -- the tokens of enumerators behind the first, before others
  pub more_enumerators_onto : (x : Enumerators) (r : Tokens) → onto_more_enumerators x r ≡ spell_more_enumerators x ++ r
  more_enumerators_onto no_enumerators r = refl
  more_enumerators_onto (enumerator n es) r = simp (more_enumerators_onto es)
  more_enumerators_onto (enumerator_with n x es) r = simp (append_assoc, expression_onto x, more_enumerators_onto es)

  -- the tokens of a declarator, before others
  pub declarator_onto : (x : DeclaratorTree) (r : Tokens) → onto_declarator x r ≡ spell_declarator x ++ r
  declarator_onto (plain ss n) r = simp (append_assoc, stars_onto ss)
  declarator_onto (array ss n ds) r = simp (append_assoc, stars_onto ss, sizes_onto ds)
  declarator_onto (function ss n ps v) r = simp (append_assoc, stars_onto ss, parameters_onto ps v)
  declarator_onto (pointer ss qs n ds ps v) r = simp (append_assoc, stars_onto ss, quals_onto qs, sizes_onto ds, parameters_onto ps v)

  -- the tokens of parameters, before others
  pub parameters_onto : (x : Parameters) (v : Bool) (r : Tokens) → onto_parameters x v r ≡ spell_parameters x v ++ r
  parameters_onto no_parameters true r = refl
  parameters_onto no_parameters false r = refl
  parameters_onto (parameters ws f ps) v r = simp (append_assoc, specifiers_onto ws, form_onto f, more_parameters_onto ps)

  -- the tokens of parameters behind the first, before others
  pub more_parameters_onto : (x : Parameters) (r : Tokens) → onto_more_parameters x r ≡ spell_more_parameters x ++ r
  more_parameters_onto no_parameters r = refl
  more_parameters_onto (parameters ws f ps) r = simp (append_assoc, specifiers_onto ws, form_onto f, more_parameters_onto ps)

  -- the tokens of the form of a parameter, before others
  pub form_onto : (x : ParameterForm) (r : Tokens) → onto_form x r ≡ spell_form x ++ r
  form_onto (named_form d) r = simp (declarator_onto d)
  form_onto (bare_form b) r = simp (bare_onto b)

  -- the tokens of a declarator without a name, before others
  pub bare_onto : (x : BareTree) (r : Tokens) → onto_bare x r ≡ spell_bare x ++ r
  bare_onto (bare_stars ss) r = simp (stars_onto ss)
  bare_onto (bare_pointer ss qs ps v) r = simp (append_assoc, stars_onto ss, quals_onto qs, parameters_onto ps v)

-- the tokens of a designator, before others
pub designator_onto : (x : Option Name) (r : Tokens) → onto_designator x r ≡ spell_designator x ++ r
designator_onto None r = refl
designator_onto (Some n) r = refl

mutual
  -- the tokens of an initialiser, before others
  pub init_onto : (x : Initializer) (r : Tokens) → onto_init x r ≡ spell_init x ++ r
  init_onto (single x) r = simp (expression_onto x)
  init_onto (listed ps last) r = simp (append_assoc, initializers_onto ps, trailing_onto last)

  -- the tokens of initialisers, before others
  pub initializers_onto : (x : Initializers) (r : Tokens) → onto_initializers x r ≡ spell_initializers x ++ r
  initializers_onto no_initializers r = refl
  initializers_onto (initializers n i ps) r = simp (append_assoc, designator_onto n, init_onto i, more_initializers_onto ps)

  -- the tokens of initialisers behind the first, before others
  pub more_initializers_onto : (x : Initializers) (r : Tokens) → onto_more_initializers x r ≡ spell_more_initializers x ++ r
  more_initializers_onto no_initializers r = refl
  more_initializers_onto (initializers n i ps) r = simp (append_assoc, designator_onto n, init_onto i, more_initializers_onto ps)

-- the tokens of a storage class, before others
pub storage_onto : (x : Storage) (r : Tokens) → onto_storage x r ≡ spell_storage x ++ r
storage_onto st.Nothing r = refl
storage_onto st.Static r = refl
storage_onto st.Extern r = refl
storage_onto st.Typedef r = refl

-- the tokens of an initial value, before others
pub initial_onto : (x : Option Initializer) (r : Tokens) → onto_initial x r ≡ spell_initial x ++ r
initial_onto None r = refl
initial_onto (Some i) r = simp (init_onto i)

-- the tokens of a declared name, before others
pub named_onto : (x : NamedTree) (r : Tokens) → onto_named x r ≡ spell_named x ++ r
named_onto n r = simp (append_assoc, declarator_onto n.declarator, initial_onto n.init)

-- the tokens of declared names behind the first, before others
pub more_named_onto : (x : List NamedTree) (r : Tokens) → onto_more_named x r ≡ spell_more_named x ++ r
more_named_onto [] r = refl
more_named_onto (n ∷ ns) r = simp (append_assoc, named_onto n, more_named_onto ns)

-- the tokens of declared names, before others
pub all_named_onto : (x : List NamedTree) (r : Tokens) → onto_all_named x r ≡ spell_all_named x ++ r
all_named_onto [] r = refl
all_named_onto (n ∷ ns) r = simp (append_assoc, named_onto n, more_named_onto ns)

-- the tokens of a declaration, before others
pub declaration_onto : (x : DeclarationTree) (r : Tokens) → onto_declaration x r ≡ spell_declaration x ++ r
declaration_onto d r = simp (append_assoc, storage_onto d.storage, specifiers_onto d.specs, all_named_onto d.names)

-- the tokens of an expression or nothing, before others
pub optional_onto : (x : Option Expression) (r : Tokens) → onto_optional x r ≡ spell_optional x ++ r
optional_onto None r = refl
optional_onto (Some x) r = simp (expression_onto x)

-- the tokens of the start of a for, before others
pub for_start_onto : (x : ForStartTree) (r : Tokens) → onto_for_start x r ≡ spell_for_start x ++ r
for_start_onto (start_declaration d) r = simp (append_assoc, declaration_onto d)
for_start_onto (start_expression x) r = simp (append_assoc, optional_onto x)

mutual
  -- the tokens of a statement, before others
  pub statement_onto : (x : StatementTree) (r : Tokens) → onto_statement x r ≡ spell_statement x ++ r
  statement_onto (block ss) r = simp (append_assoc, statements_onto ss)
  statement_onto (declaration d) r = simp (append_assoc, declaration_onto d)
  statement_onto (expression_statement x) r = simp (append_assoc, optional_onto x)
  statement_onto (if_statement x y) r = simp (append_assoc, expression_onto x, statement_onto y)
  statement_onto (if_else_statement x y z) r = simp (append_assoc, expression_onto x, statement_onto y, statement_onto z)
  statement_onto (while_statement x y) r = simp (append_assoc, expression_onto x, statement_onto y)
  statement_onto (do_statement x y) r = simp (append_assoc, statement_onto x, expression_onto y)
  statement_onto (for_statement a x y s) r = simp (append_assoc, for_start_onto a, optional_onto x, optional_onto y, statement_onto s)
  statement_onto (switch_statement x y) r = simp (append_assoc, expression_onto x, statement_onto y)
  statement_onto (case_label x) r = simp (append_assoc, expression_onto x)
  statement_onto default_label r = refl
  statement_onto (named_label n) r = refl
  statement_onto break_statement r = refl
  statement_onto continue_statement r = refl
  statement_onto (return_statement x) r = simp (append_assoc, optional_onto x)
  statement_onto (goto_statement n) r = refl

  -- the tokens of statements, before others
  pub statements_onto : (x : Statements) (r : Tokens) → onto_statements x r ≡ spell_statements x ++ r
  statements_onto no_statements r = refl
  statements_onto (statements s ss) r = simp (append_assoc, statement_onto s, statements_onto ss)

-- the tokens of an item, before others
pub item_onto : (x : ItemTree) (r : Tokens) → onto_item x r ≡ spell_item x ++ r
item_onto (function_item f) r = simp (append_assoc, storage_onto f.storage, specifiers_onto f.specs, stars_onto f.stars, parameters_onto f.params f.word, statement_onto f.body)
item_onto (declaration_item d) r = simp (append_assoc, declaration_onto d)

-- the tokens of a program, before others
pub program_onto : (x : List ItemTree) (r : Tokens) → onto_program x r ≡ spell x ++ r
program_onto [] r = refl
program_onto (t ∷ ts) r = simp (append_assoc, item_onto t, program_onto ts)
