-- The tokens that a tree spells, before others: its spelling without joining lists.
use Rattle.std.specs.Prelude.{List, [], ◌∷◌, Option, Some, None, Bool, true, false, codes}
use Rattle.c_tree.specs.declared.tree.Storage.{Storage}
use Rattle.c_tree.specs.declared.tree.Storage.TheVariants as st
use Rattle.c_tree.specs.Marks.{Tokens, keyword, name_token, integer_token, character_token, text_token, mark, op_text, assign_text, unary_text, step_text}
use Rattle.c_tree.specs.Tree.{Name, Quals, Stars, Expression, comma, assign, choose, binary, cast, unary, before, size_of, size_of_type, index, call, dot, arrow, after, name, integer, character, text, paren, Expressions, no_expressions, expressions, Sizes, no_sizes, open_size, size, TypeTree, typed, Specifiers, no_specifiers, specifiers, Specifier, const_word, volatile_word, void_word, char_word, short_word, int_word, long_word, signed_word, unsigned_word, type_name, struct_tag, struct_of, enum_tag, enum_of, Members, no_members, member, Declarators, no_declarators, declarators, Enumerators, no_enumerators, enumerator, enumerator_with, DeclaratorTree, plain, array, function, pointer, Parameters, no_parameters, parameters, ParameterForm, named_form, bare_form, BareTree, bare_stars, bare_pointer, Initializer, single, listed, Initializers, no_initializers, initializers, NamedTree, DeclarationTree, ForStartTree, start_declaration, start_expression, StatementTree, block, declaration, expression_statement, if_statement, if_else_statement, while_statement, do_statement, for_statement, switch_statement, case_label, default_label, named_label, break_statement, continue_statement, return_statement, goto_statement, Statements, no_statements, statements, ItemTree, function_item, declaration_item}
use Rattle.c_tree.specs.Spelling.{qualifier_token}

abbrev pub onto_quals : Quals → Tokens → Tokens
onto_quals [] r = r
onto_quals (q ∷ qs) r = qualifier_token q ∷ onto_quals qs r

abbrev pub onto_texts : List Name → Tokens → Tokens
onto_texts [] r = r
onto_texts (n ∷ ns) r = text_token n ∷ onto_texts ns r

abbrev pub onto_stars : Stars → Tokens → Tokens
onto_stars [] r = r
onto_stars (x ∷ xs) r = mark (codes "*") ∷ onto_quals x (onto_stars xs r)

abbrev pub onto_tag : Option Name → Tokens → Tokens
onto_tag None r = r
onto_tag (Some n) r = name_token n ∷ r

abbrev pub onto_trailing : Bool → Tokens → Tokens
onto_trailing true r = mark (codes ",") ∷ r
onto_trailing false r = r

abbrev mutual
  pub onto_expression : Expression → Tokens → Tokens
  onto_expression (comma x y) r = onto_expression x (mark (codes ",") ∷ onto_expression y r)
  onto_expression (assign o x y) r = onto_expression x (mark (assign_text o) ∷ onto_expression y r)
  onto_expression (choose x y z) r = onto_expression x (mark (codes "?") ∷ onto_expression y (mark (codes ":") ∷ onto_expression z r))
  onto_expression (binary o x y) r = onto_expression x (mark (op_text o) ∷ onto_expression y r)
  onto_expression (cast t x) r = mark (codes "(") ∷ onto_type t (mark (codes ")") ∷ onto_expression x r)
  onto_expression (unary o x) r = mark (unary_text o) ∷ onto_expression x r
  onto_expression (before o x) r = mark (step_text o) ∷ onto_expression x r
  onto_expression (size_of x) r = keyword (codes "sizeof") ∷ onto_expression x r
  onto_expression (size_of_type t) r = keyword (codes "sizeof") ∷ mark (codes "(") ∷ onto_type t (mark (codes ")") ∷ r)
  onto_expression (index x y) r = onto_expression x (mark (codes "[") ∷ onto_expression y (mark (codes "]") ∷ r))
  onto_expression (call f xs) r = onto_expression f (mark (codes "(") ∷ onto_arguments xs (mark (codes ")") ∷ r))
  onto_expression (dot x n) r = onto_expression x (mark (codes ".") ∷ name_token n ∷ r)
  onto_expression (arrow x n) r = onto_expression x (mark (codes "->") ∷ name_token n ∷ r)
  onto_expression (after o x) r = onto_expression x (mark (step_text o) ∷ r)
  onto_expression (name n) r = name_token n ∷ r
  onto_expression (integer n) r = integer_token n ∷ r
  onto_expression (character n) r = character_token n ∷ r
  onto_expression (text ns) r = onto_texts ns r
  onto_expression (paren x) r = mark (codes "(") ∷ onto_expression x (mark (codes ")") ∷ r)

  pub onto_arguments : Expressions → Tokens → Tokens
  onto_arguments no_expressions r = r
  onto_arguments (expressions x xs) r = onto_expression x (onto_more xs r)

  pub onto_more : Expressions → Tokens → Tokens
  onto_more no_expressions r = r
  onto_more (expressions x xs) r = mark (codes ",") ∷ onto_expression x (onto_more xs r)

  pub onto_sizes : Sizes → Tokens → Tokens
  onto_sizes no_sizes r = r
  onto_sizes (open_size ds) r = mark (codes "[") ∷ mark (codes "]") ∷ onto_sizes ds r
  onto_sizes (size x ds) r = mark (codes "[") ∷ onto_expression x (mark (codes "]") ∷ onto_sizes ds r)

  pub onto_type : TypeTree → Tokens → Tokens
  onto_type (typed ws b) r = onto_specifiers ws (onto_bare b r)

  pub onto_specifiers : Specifiers → Tokens → Tokens
  onto_specifiers no_specifiers r = r
  onto_specifiers (specifiers w ws) r = onto_specifier w (onto_specifiers ws r)

  pub onto_specifier : Specifier → Tokens → Tokens
  onto_specifier const_word r = keyword (codes "const") ∷ r
  onto_specifier volatile_word r = keyword (codes "volatile") ∷ r
  onto_specifier void_word r = keyword (codes "void") ∷ r
  onto_specifier char_word r = keyword (codes "char") ∷ r
  onto_specifier short_word r = keyword (codes "short") ∷ r
  onto_specifier int_word r = keyword (codes "int") ∷ r
  onto_specifier long_word r = keyword (codes "long") ∷ r
  onto_specifier signed_word r = keyword (codes "signed") ∷ r
  onto_specifier unsigned_word r = keyword (codes "unsigned") ∷ r
  onto_specifier (type_name n) r = name_token n ∷ r
  onto_specifier (struct_tag n) r = keyword (codes "struct") ∷ name_token n ∷ r
  onto_specifier (struct_of t ms) r = keyword (codes "struct") ∷ onto_tag t (mark (codes "{") ∷ onto_members ms (mark (codes "}") ∷ r))
  onto_specifier (enum_tag n) r = keyword (codes "enum") ∷ name_token n ∷ r
  onto_specifier (enum_of t es last) r = keyword (codes "enum") ∷ onto_tag t (mark (codes "{") ∷ onto_enumerators es (onto_trailing last (mark (codes "}") ∷ r)))

  pub onto_members : Members → Tokens → Tokens
  onto_members no_members r = r
  onto_members (member ws ns ms) r = onto_specifiers ws (onto_declarators ns (mark (codes ";") ∷ onto_members ms r))

  pub onto_declarators : Declarators → Tokens → Tokens
  onto_declarators no_declarators r = r
  onto_declarators (declarators d ds) r = onto_declarator d (onto_more_declarators ds r)

  pub onto_more_declarators : Declarators → Tokens → Tokens
  onto_more_declarators no_declarators r = r
  onto_more_declarators (declarators d ds) r = mark (codes ",") ∷ onto_declarator d (onto_more_declarators ds r)

  pub onto_enumerators : Enumerators → Tokens → Tokens
  onto_enumerators no_enumerators r = r
  onto_enumerators (enumerator n es) r = name_token n ∷ onto_more_enumerators es r
  onto_enumerators (enumerator_with n x es) r = name_token n ∷ mark (codes "=") ∷ onto_expression x (onto_more_enumerators es r)

  pub onto_more_enumerators : Enumerators → Tokens → Tokens
  onto_more_enumerators no_enumerators r = r
  onto_more_enumerators (enumerator n es) r = mark (codes ",") ∷ name_token n ∷ onto_more_enumerators es r
  onto_more_enumerators (enumerator_with n x es) r = mark (codes ",") ∷ name_token n ∷ mark (codes "=") ∷ onto_expression x (onto_more_enumerators es r)

  pub onto_declarator : DeclaratorTree → Tokens → Tokens
  onto_declarator (plain ss n) r = onto_stars ss (name_token n ∷ r)
  onto_declarator (array ss n ds) r = onto_stars ss (name_token n ∷ onto_sizes ds r)
  onto_declarator (function ss n ps v) r = onto_stars ss (name_token n ∷ mark (codes "(") ∷ onto_parameters ps v (mark (codes ")") ∷ r))
  onto_declarator (pointer ss qs n ds ps v) r = onto_stars ss (mark (codes "(") ∷ mark (codes "*") ∷ onto_quals qs (name_token n ∷ onto_sizes ds (mark (codes ")") ∷ mark (codes "(") ∷ onto_parameters ps v (mark (codes ")") ∷ r))))

  pub onto_parameters : Parameters → Bool → Tokens → Tokens
  onto_parameters no_parameters true r = keyword (codes "void") ∷ r
  onto_parameters no_parameters false r = r
  onto_parameters (parameters ws f ps) v r = onto_specifiers ws (onto_form f (onto_more_parameters ps r))

  pub onto_more_parameters : Parameters → Tokens → Tokens
  onto_more_parameters no_parameters r = r
  onto_more_parameters (parameters ws f ps) r = mark (codes ",") ∷ onto_specifiers ws (onto_form f (onto_more_parameters ps r))

  pub onto_form : ParameterForm → Tokens → Tokens
  onto_form (named_form d) r = onto_declarator d r
  onto_form (bare_form b) r = onto_bare b r

  pub onto_bare : BareTree → Tokens → Tokens
  onto_bare (bare_stars ss) r = onto_stars ss r
  onto_bare (bare_pointer ss qs ps v) r = onto_stars ss (mark (codes "(") ∷ mark (codes "*") ∷ onto_quals qs (mark (codes ")") ∷ mark (codes "(") ∷ onto_parameters ps v (mark (codes ")") ∷ r)))

abbrev pub onto_designator : Option Name → Tokens → Tokens
onto_designator None r = r
onto_designator (Some n) r = mark (codes ".") ∷ name_token n ∷ mark (codes "=") ∷ r

abbrev mutual
  pub onto_init : Initializer → Tokens → Tokens
  onto_init (single x) r = onto_expression x r
  onto_init (listed ps last) r = mark (codes "{") ∷ onto_initializers ps (onto_trailing last (mark (codes "}") ∷ r))

  pub onto_initializers : Initializers → Tokens → Tokens
  onto_initializers no_initializers r = r
  onto_initializers (initializers n i ps) r = onto_designator n (onto_init i (onto_more_initializers ps r))

  pub onto_more_initializers : Initializers → Tokens → Tokens
  onto_more_initializers no_initializers r = r
  onto_more_initializers (initializers n i ps) r = mark (codes ",") ∷ onto_designator n (onto_init i (onto_more_initializers ps r))

abbrev pub onto_storage : Storage → Tokens → Tokens
onto_storage st.Nothing r = r
onto_storage st.Static r = keyword (codes "static") ∷ r
onto_storage st.Extern r = keyword (codes "extern") ∷ r
onto_storage st.Typedef r = keyword (codes "typedef") ∷ r

abbrev pub onto_initial : Option Initializer → Tokens → Tokens
onto_initial None r = r
onto_initial (Some i) r = mark (codes "=") ∷ onto_init i r

abbrev pub onto_named : NamedTree → Tokens → Tokens
onto_named n r = onto_declarator n.declarator (onto_initial n.init r)

abbrev pub onto_more_named : List NamedTree → Tokens → Tokens
onto_more_named [] r = r
onto_more_named (n ∷ ns) r = mark (codes ",") ∷ onto_named n (onto_more_named ns r)

abbrev pub onto_all_named : List NamedTree → Tokens → Tokens
onto_all_named [] r = r
onto_all_named (n ∷ ns) r = onto_named n (onto_more_named ns r)

abbrev pub onto_declaration : DeclarationTree → Tokens → Tokens
onto_declaration d r = onto_storage d.storage (onto_specifiers d.specs (onto_all_named d.names (mark (codes ";") ∷ r)))

abbrev pub onto_optional : Option Expression → Tokens → Tokens
onto_optional None r = r
onto_optional (Some x) r = onto_expression x r

abbrev pub onto_for_start : ForStartTree → Tokens → Tokens
onto_for_start (start_declaration d) r = onto_declaration d r
onto_for_start (start_expression x) r = onto_optional x (mark (codes ";") ∷ r)

abbrev mutual
  pub onto_statement : StatementTree → Tokens → Tokens
  onto_statement (block ss) r = mark (codes "{") ∷ onto_statements ss (mark (codes "}") ∷ r)
  onto_statement (declaration d) r = onto_declaration d r
  onto_statement (expression_statement x) r = onto_optional x (mark (codes ";") ∷ r)
  onto_statement (if_statement x y) r = keyword (codes "if") ∷ mark (codes "(") ∷ onto_expression x (mark (codes ")") ∷ onto_statement y r)
  onto_statement (if_else_statement x y z) r = keyword (codes "if") ∷ mark (codes "(") ∷ onto_expression x (mark (codes ")") ∷ onto_statement y (keyword (codes "else") ∷ onto_statement z r))
  onto_statement (while_statement x y) r = keyword (codes "while") ∷ mark (codes "(") ∷ onto_expression x (mark (codes ")") ∷ onto_statement y r)
  onto_statement (do_statement x y) r = keyword (codes "do") ∷ onto_statement x (keyword (codes "while") ∷ mark (codes "(") ∷ onto_expression y (mark (codes ")") ∷ mark (codes ";") ∷ r))
  onto_statement (for_statement a x y s) r = keyword (codes "for") ∷ mark (codes "(") ∷ onto_for_start a (onto_optional x (mark (codes ";") ∷ onto_optional y (mark (codes ")") ∷ onto_statement s r)))
  onto_statement (switch_statement x y) r = keyword (codes "switch") ∷ mark (codes "(") ∷ onto_expression x (mark (codes ")") ∷ onto_statement y r)
  onto_statement (case_label x) r = keyword (codes "case") ∷ onto_expression x (mark (codes ":") ∷ r)
  onto_statement default_label r = keyword (codes "default") ∷ mark (codes ":") ∷ r
  onto_statement (named_label n) r = name_token n ∷ mark (codes ":") ∷ r
  onto_statement break_statement r = keyword (codes "break") ∷ mark (codes ";") ∷ r
  onto_statement continue_statement r = keyword (codes "continue") ∷ mark (codes ";") ∷ r
  onto_statement (return_statement x) r = keyword (codes "return") ∷ onto_optional x (mark (codes ";") ∷ r)
  onto_statement (goto_statement n) r = keyword (codes "goto") ∷ name_token n ∷ mark (codes ";") ∷ r

  pub onto_statements : Statements → Tokens → Tokens
  onto_statements no_statements r = r
  onto_statements (statements s ss) r = onto_statement s (onto_statements ss r)

abbrev pub onto_item : ItemTree → Tokens → Tokens
onto_item (function_item f) r = onto_storage f.storage (onto_specifiers f.specs (onto_stars f.stars (name_token f.name ∷ mark (codes "(") ∷ onto_parameters f.params f.word (mark (codes ")") ∷ onto_statement f.body r))))
onto_item (declaration_item d) r = onto_declaration d r

abbrev pub onto_program : List ItemTree → Tokens → Tokens
onto_program [] r = r
onto_program (t ∷ ts) r = onto_item t (onto_program ts r)
