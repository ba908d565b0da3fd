-- The tokens that a tree spells, in order (C11 6.5 to 6.9, for what the subset keeps).
use Rattle.std.specs.Prelude.{List, [], ◌∷◌, ◌++◌, Option, Some, None, Bool, true, false, codes, map}
use Rattle.c_tree.specs.declared.tree.Storage.{Storage}
use Rattle.c_tree.specs.declared.tree.Storage.TheVariants as st
use Rattle.c_tree.specs.declared.tree.Qual.{Qual}
use Rattle.c_tree.specs.declared.tree.Qual.TheVariants as q
use Rattle.base_core.specs.declared.token.Token.{Token}
use Rattle.c_tree.specs.Marks.{Tokens, keyword, name_token, integer_token, character_token, text_token, mark, op_text, assign_text, unary_text, step_text}
use Rattle.c_tree.specs.Tree.{Name, Quals, Stars, Expression, comma, assign, choose, binary, cast, unary, before, size_of, size_of_type, index, call, dot, arrow, after, name, integer, character, text, paren, Expressions, no_expressions, expressions, Sizes, no_sizes, open_size, size, TypeTree, typed, Specifiers, no_specifiers, specifiers, Specifier, const_word, volatile_word, void_word, char_word, short_word, int_word, long_word, signed_word, unsigned_word, type_name, struct_tag, struct_of, enum_tag, enum_of, Members, no_members, member, Declarators, no_declarators, declarators, Enumerators, no_enumerators, enumerator, enumerator_with, DeclaratorTree, plain, array, function, pointer, Parameters, no_parameters, parameters, ParameterForm, named_form, bare_form, BareTree, bare_stars, bare_pointer, Initializer, single, listed, Initializers, no_initializers, initializers, NamedTree, DeclarationTree, ForStartTree, start_declaration, start_expression, StatementTree, block, declaration, expression_statement, if_statement, if_else_statement, while_statement, do_statement, for_statement, switch_statement, case_label, default_label, named_label, break_statement, continue_statement, return_statement, goto_statement, Statements, no_statements, statements, ItemTree, function_item, declaration_item}

abbrev pub qualifier_token : Qual → Token
qualifier_token q.Const = keyword (codes "const")
qualifier_token q.Volatile = keyword (codes "volatile")

abbrev pub spell_quals : Quals → Tokens
spell_quals = map qualifier_token

abbrev pub spell_stars : Stars → Tokens
spell_stars [] = []
spell_stars (x ∷ xs) = mark (codes "*") ∷ (spell_quals x ++ spell_stars xs)

abbrev pub spell_tag : Option Name → Tokens
spell_tag None = []
spell_tag (Some n) = name_token n ∷ []

abbrev pub trailing : Bool → Tokens
trailing true = mark (codes ",") ∷ []
trailing false = []

abbrev pub in_parens : Tokens → Tokens
in_parens ts = mark (codes "(") ∷ (ts ++ mark (codes ")") ∷ [])

abbrev pub in_braces : Tokens → Tokens
in_braces ts = mark (codes "{") ∷ (ts ++ mark (codes "}") ∷ [])

abbrev mutual
  pub spell_expression : Expression → Tokens
  spell_expression (comma x y) = spell_expression x ++ mark (codes ",") ∷ spell_expression y
  spell_expression (assign o x y) = spell_expression x ++ mark (assign_text o) ∷ spell_expression y
  spell_expression (choose x y z) = spell_expression x ++ mark (codes "?") ∷ (spell_expression y ++ mark (codes ":") ∷ spell_expression z)
  spell_expression (binary o x y) = spell_expression x ++ mark (op_text o) ∷ spell_expression y
  spell_expression (cast t x) = in_parens (spell_type t) ++ spell_expression x
  spell_expression (unary o x) = mark (unary_text o) ∷ spell_expression x
  spell_expression (before o x) = mark (step_text o) ∷ spell_expression x
  spell_expression (size_of x) = keyword (codes "sizeof") ∷ spell_expression x
  spell_expression (size_of_type t) = keyword (codes "sizeof") ∷ in_parens (spell_type t)
  spell_expression (index x y) = spell_expression x ++ mark (codes "[") ∷ (spell_expression y ++ mark (codes "]") ∷ [])
  spell_expression (call f xs) = spell_expression f ++ in_parens (spell_arguments xs)
  spell_expression (dot x n) = spell_expression x ++ mark (codes ".") ∷ name_token n ∷ []
  spell_expression (arrow x n) = spell_expression x ++ mark (codes "->") ∷ name_token n ∷ []
  spell_expression (after o x) = spell_expression x ++ mark (step_text o) ∷ []
  spell_expression (name n) = name_token n ∷ []
  spell_expression (integer n) = integer_token n ∷ []
  spell_expression (character n) = character_token n ∷ []
  spell_expression (text ns) = map text_token ns
  spell_expression (paren x) = in_parens (spell_expression x)

  pub spell_arguments : Expressions → Tokens
  spell_arguments no_expressions = []
  spell_arguments (expressions x xs) = spell_expression x ++ spell_more xs

  pub spell_more : Expressions → Tokens
  spell_more no_expressions = []
  spell_more (expressions x xs) = mark (codes ",") ∷ (spell_expression x ++ spell_more xs)

  pub spell_sizes : Sizes → Tokens
  spell_sizes no_sizes = []
  spell_sizes (open_size ds) = mark (codes "[") ∷ mark (codes "]") ∷ spell_sizes ds
  spell_sizes (size x ds) = mark (codes "[") ∷ (spell_expression x ++ mark (codes "]") ∷ spell_sizes ds)

  pub spell_type : TypeTree → Tokens
  spell_type (typed ws b) = spell_specifiers ws ++ spell_bare b

  pub spell_specifiers : Specifiers → Tokens
  spell_specifiers no_specifiers = []
  spell_specifiers (specifiers w ws) = spell_specifier w ++ spell_specifiers ws

  pub spell_specifier : Specifier → Tokens
  spell_specifier const_word = keyword (codes "const") ∷ []
  spell_specifier volatile_word = keyword (codes "volatile") ∷ []
  spell_specifier void_word = keyword (codes "void") ∷ []
  spell_specifier char_word = keyword (codes "char") ∷ []
  spell_specifier short_word = keyword (codes "short") ∷ []
  spell_specifier int_word = keyword (codes "int") ∷ []
  spell_specifier long_word = keyword (codes "long") ∷ []
  spell_specifier signed_word = keyword (codes "signed") ∷ []
  spell_specifier unsigned_word = keyword (codes "unsigned") ∷ []
  spell_specifier (type_name n) = name_token n ∷ []
  spell_specifier (struct_tag n) = keyword (codes "struct") ∷ name_token n ∷ []
  spell_specifier (struct_of t ms) = keyword (codes "struct") ∷ (spell_tag t ++ in_braces (spell_members ms))
  spell_specifier (enum_tag n) = keyword (codes "enum") ∷ name_token n ∷ []
  spell_specifier (enum_of t es last) = keyword (codes "enum") ∷ (spell_tag t ++ in_braces (spell_enumerators es ++ trailing last))

  pub spell_members : Members → Tokens
  spell_members no_members = []
  spell_members (member ws ns ms) = spell_specifiers ws ++ (spell_declarators ns ++ mark (codes ";") ∷ spell_members ms)

  pub spell_declarators : Declarators → Tokens
  spell_declarators no_declarators = []
  spell_declarators (declarators d ds) = spell_declarator d ++ spell_more_declarators ds

  pub spell_more_declarators : Declarators → Tokens
  spell_more_declarators no_declarators = []
  spell_more_declarators (declarators d ds) = mark (codes ",") ∷ (spell_declarator d ++ spell_more_declarators ds)

  pub spell_enumerators : Enumerators → Tokens
  spell_enumerators no_enumerators = []
  spell_enumerators (enumerator n es) = name_token n ∷ spell_more_enumerators es
  spell_enumerators (enumerator_with n x es) = name_token n ∷ mark (codes "=") ∷ (spell_expression x ++ spell_more_enumerators es)

  pub spell_more_enumerators : Enumerators → Tokens
  spell_more_enumerators no_enumerators = []
  spell_more_enumerators (enumerator n es) = mark (codes ",") ∷ name_token n ∷ spell_more_enumerators es
  spell_more_enumerators (enumerator_with n x es) = mark (codes ",") ∷ name_token n ∷ mark (codes "=") ∷ (spell_expression x ++ spell_more_enumerators es)

  pub spell_declarator : DeclaratorTree → Tokens
  spell_declarator (plain ss n) = spell_stars ss ++ name_token n ∷ []
  spell_declarator (array ss n ds) = spell_stars ss ++ name_token n ∷ spell_sizes ds
  spell_declarator (function ss n ps v) = spell_stars ss ++ name_token n ∷ in_parens (spell_parameters ps v)
  spell_declarator (pointer ss qs n ds ps v) = spell_stars ss ++ (in_parens (mark (codes "*") ∷ (spell_quals qs ++ name_token n ∷ spell_sizes ds)) ++ in_parens (spell_parameters ps v))

  pub spell_parameters : Parameters → Bool → Tokens
  spell_parameters no_parameters true = keyword (codes "void") ∷ []
  spell_parameters no_parameters false = []
  spell_parameters (parameters ws f ps) v = spell_specifiers ws ++ (spell_form f ++ spell_more_parameters ps)

  pub spell_more_parameters : Parameters → Tokens
  spell_more_parameters no_parameters = []
  spell_more_parameters (parameters ws f ps) = mark (codes ",") ∷ (spell_specifiers ws ++ (spell_form f ++ spell_more_parameters ps))

  pub spell_form : ParameterForm → Tokens
  spell_form (named_form d) = spell_declarator d
  spell_form (bare_form b) = spell_bare b

  pub spell_bare : BareTree → Tokens
  spell_bare (bare_stars ss) = spell_stars ss
  spell_bare (bare_pointer ss qs ps v) = spell_stars ss ++ (in_parens (mark (codes "*") ∷ spell_quals qs) ++ in_parens (spell_parameters ps v))

abbrev pub spell_designator : Option Name → Tokens
spell_designator None = []
spell_designator (Some n) = mark (codes ".") ∷ name_token n ∷ mark (codes "=") ∷ []

abbrev mutual
  pub spell_init : Initializer → Tokens
  spell_init (single x) = spell_expression x
  spell_init (listed ps last) = in_braces (spell_initializers ps ++ trailing last)

  pub spell_initializers : Initializers → Tokens
  spell_initializers no_initializers = []
  spell_initializers (initializers n i ps) = spell_designator n ++ (spell_init i ++ spell_more_initializers ps)

  pub spell_more_initializers : Initializers → Tokens
  spell_more_initializers no_initializers = []
  spell_more_initializers (initializers n i ps) = mark (codes ",") ∷ (spell_designator n ++ (spell_init i ++ spell_more_initializers ps))

abbrev pub spell_storage : Storage → Tokens
spell_storage st.Nothing = []
spell_storage st.Static = keyword (codes "static") ∷ []
spell_storage st.Extern = keyword (codes "extern") ∷ []
spell_storage st.Typedef = keyword (codes "typedef") ∷ []

abbrev pub spell_initial : Option Initializer → Tokens
spell_initial None = []
spell_initial (Some i) = mark (codes "=") ∷ spell_init i

abbrev pub spell_named : NamedTree → Tokens
spell_named n = spell_declarator n.declarator ++ spell_initial n.init

abbrev pub spell_more_named : List NamedTree → Tokens
spell_more_named [] = []
spell_more_named (n ∷ ns) = mark (codes ",") ∷ (spell_named n ++ spell_more_named ns)

abbrev pub spell_all_named : List NamedTree → Tokens
spell_all_named [] = []
spell_all_named (n ∷ ns) = spell_named n ++ spell_more_named ns

abbrev pub spell_declaration : DeclarationTree → Tokens
spell_declaration d = spell_storage d.storage ++ (spell_specifiers d.specs ++ (spell_all_named d.names ++ mark (codes ";") ∷ []))

abbrev pub spell_optional : Option Expression → Tokens
spell_optional None = []
spell_optional (Some x) = spell_expression x

abbrev pub spell_for_start : ForStartTree → Tokens
spell_for_start (start_declaration d) = spell_declaration d
spell_for_start (start_expression x) = spell_optional x ++ mark (codes ";") ∷ []

abbrev mutual
  pub spell_statement : StatementTree → Tokens
  spell_statement (block ss) = in_braces (spell_statements ss)
  spell_statement (declaration d) = spell_declaration d
  spell_statement (expression_statement x) = spell_optional x ++ mark (codes ";") ∷ []
  spell_statement (if_statement x y) = keyword (codes "if") ∷ (in_parens (spell_expression x) ++ spell_statement y)
  spell_statement (if_else_statement x y z) = keyword (codes "if") ∷ (in_parens (spell_expression x) ++ (spell_statement y ++ keyword (codes "else") ∷ spell_statement z))
  spell_statement (while_statement x y) = keyword (codes "while") ∷ (in_parens (spell_expression x) ++ spell_statement y)
  spell_statement (do_statement x y) = keyword (codes "do") ∷ (spell_statement x ++ keyword (codes "while") ∷ (in_parens (spell_expression y) ++ mark (codes ";") ∷ []))
  spell_statement (for_statement a x y s) = keyword (codes "for") ∷ (in_parens (spell_for_start a ++ (spell_optional x ++ mark (codes ";") ∷ spell_optional y)) ++ spell_statement s)
  spell_statement (switch_statement x y) = keyword (codes "switch") ∷ (in_parens (spell_expression x) ++ spell_statement y)
  spell_statement (case_label x) = keyword (codes "case") ∷ (spell_expression x ++ mark (codes ":") ∷ [])
  spell_statement default_label = keyword (codes "default") ∷ mark (codes ":") ∷ []
  spell_statement (named_label n) = name_token n ∷ mark (codes ":") ∷ []
  spell_statement break_statement = keyword (codes "break") ∷ mark (codes ";") ∷ []
  spell_statement continue_statement = keyword (codes "continue") ∷ mark (codes ";") ∷ []
  spell_statement (return_statement x) = keyword (codes "return") ∷ (spell_optional x ++ mark (codes ";") ∷ [])
  spell_statement (goto_statement n) = keyword (codes "goto") ∷ name_token n ∷ mark (codes ";") ∷ []

  pub spell_statements : Statements → Tokens
  spell_statements no_statements = []
  spell_statements (statements s ss) = spell_statement s ++ spell_statements ss

abbrev pub spell_item : ItemTree → Tokens
spell_item (function_item f) = spell_storage f.storage ++ (spell_specifiers f.specs ++ (spell_stars f.stars ++ name_token f.name ∷ (in_parens (spell_parameters f.params f.word) ++ spell_statement f.body)))
spell_item (declaration_item d) = spell_declaration d

abbrev pub spell : List ItemTree → Tokens
spell [] = []
spell (t ∷ ts) = spell_item t ++ spell ts
