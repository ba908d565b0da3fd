-- A walk passes the tokens that a tree spells, and finds its nodes where they stand.
use Rattle.std.proofs.Common.{◌≡◌, ℕ, ◌+◌, ◌≤◌, List, [], ◌∷◌, ◌++◌, length, Option, Some, None, Bool, true, false, refl, sym, arith, length-append}
use Rattle.std.specs.Prelude.{is_some}
use Rattle.std.proofs.lemmas.List.{length-map}
use Rattle.c_tree.specs.declared.tree.Storage.{Storage}
use Rattle.c_tree.specs.declared.tree.Storage.TheVariants as st
use Rattle.c_tree.specs.Marks.{Tokens, text_token}
use Rattle.c_tree.specs.Spelling.{qualifier_token, spell_quals, spell_stars, spell_tag, trailing, spell_expression, spell_arguments, spell_more, spell_sizes, spell_type, spell_specifiers, spell_specifier, spell_members, spell_declarators, spell_more_declarators, spell_enumerators, spell_more_enumerators, spell_declarator, spell_parameters, spell_more_parameters, spell_form, spell_bare, spell_designator, spell_init, spell_initializers, spell_more_initializers, spell_storage, spell_initial, spell_named, spell_more_named, spell_all_named, spell_declaration, spell_optional, spell_for_start, spell_statement, spell_statements, spell_item, spell}
use Rattle.c_tree.specs.Tree.{Name, Quals, Stars, Expression, comma, assign, choose, binary, cast, unary, before, size_of, size_of_type, index, call, dot, arrow, after, name, integer, character, text, paren, Expressions, no_expressions, expressions, Sizes, no_sizes, open_size, size, TypeTree, typed, Specifiers, no_specifiers, specifiers, Specifier, const_word, volatile_word, void_word, char_word, short_word, int_word, long_word, signed_word, unsigned_word, type_name, struct_tag, struct_of, enum_tag, enum_of, Members, no_members, member, Declarators, no_declarators, declarators, Enumerators, no_enumerators, enumerator, enumerator_with, DeclaratorTree, plain, array, function, pointer, Parameters, no_parameters, parameters, ParameterForm, named_form, bare_form, BareTree, bare_stars, bare_pointer, Initializer, single, listed, Initializers, no_initializers, initializers, NamedTree, DeclarationTree, ForStartTree, start_declaration, start_expression, StatementTree, block, declaration, expression_statement, if_statement, if_else_statement, while_statement, do_statement, for_statement, switch_statement, case_label, default_label, named_label, break_statement, continue_statement, return_statement, goto_statement, Statements, no_statements, statements, FunctionTree, ItemTree, function_item, declaration_item}
use Rattle.node_places.specs.Walked.{Walked, skip, skip_if, begin}
use Rattle.node_places.specs.Past.{past_stars, is_void, past_expression, past_expressions, past_sizes, past_type, past_specifiers, past_specifier, past_members, past_declarators, past_enumerators, past_declarator, past_parameters, past_form, past_bare, past_designator, past_init, past_initializers, past_optional_init, past_named, past_names, past_storage, past_declaration, past_optional, past_for_start, past_statement, past_statements, past_function, past_items}
use Rattle.node_places.specs.Starts.{starts_expression, starts_expressions, starts_sizes, starts_type, starts_specifiers, starts_specifier, starts_members, starts_declarators, starts_enumerators, starts_declarator, starts_parameters, starts_form, starts_bare, starts_init, starts_initializers, starts_optional_init, starts_named, starts_names, starts_declaration, starts_optional, starts_for_start, starts_statement, starts_statements, starts_function, starts_items, closes_items, starts, closes}
use Rattle.c_tree.specs.Nodes.{Node, parameter_node, member_node, enumerator_node, initializers_node, named_node, declaration_node, statement_node, expression_node, nodes_expression, nodes_expressions, nodes_sizes, nodes_type, nodes_specifiers, nodes_specifier, nodes_members, nodes_declarators, nodes_enumerators, nodes_declarator, nodes_parameters, nodes_form, nodes_bare, nodes_init, nodes_initializers, nodes_optional_init, nodes_named, nodes_names, nodes_declaration, nodes_optional, nodes_start, nodes_statement, nodes_statements, nodes_item, nodes_items}
use Rattle.node_places.proofs.Goes.{Goes, none, stay, skipped, begun, behind, ahead, then, ended, counted, Inside, inside_ahead, inside_skipped, inside_begun, inside_behind, inside_then, inside_counted, Runs, no_runs, runs, runs_then, runs_counted, closed}

-- a list that stands behind others of its kind has a comma before each of its parts
abbrev lead : Bool → ℕ → ℕ
lead false k = k
lead true k = k + 1

abbrev listed_expressions : Bool → Expressions → Tokens
listed_expressions false xs = spell_arguments xs
listed_expressions true xs = spell_more xs

abbrev listed_declarators : Bool → Declarators → Tokens
listed_declarators false xs = spell_declarators xs
listed_declarators true xs = spell_more_declarators xs

abbrev listed_enumerators : Bool → Enumerators → Tokens
listed_enumerators false xs = spell_enumerators xs
listed_enumerators true xs = spell_more_enumerators xs

abbrev listed_parameters : Bool → Parameters → Tokens
listed_parameters false xs = spell_parameters xs false
listed_parameters true xs = spell_more_parameters xs

abbrev listed_initializers : Bool → Initializers → Tokens
listed_initializers false xs = spell_initializers xs
listed_initializers true xs = spell_more_initializers xs

abbrev listed_names : Bool → List NamedTree → Tokens
listed_names false xs = spell_all_named xs
listed_names true xs = spell_more_named xs

quals_go : {w : Walked} (qs : Quals) → Goes w (skip (length qs) w) (length (spell_quals qs)) none []
quals_go {w} qs = counted (skipped w (length qs)) (sym (length-map qs qualifier_token))

stars_go : (ss : Stars) {w : Walked} → Goes w (past_stars w ss) (length (spell_stars ss)) none []
stars_go [] {w} = stay w
stars_go (qs ∷ ss) {w} = counted (behind 1 (then (quals_go qs) (stars_go ss))) (simp length-append (omega arith))

tag_goes : {w : Walked} (t : Option Name) → Goes w (skip_if (is_some t) w) (length (spell_tag t)) none []
tag_goes {w} None = stay w
tag_goes {w} (Some n) = skipped w 1

trailing_goes : {w : Walked} (last : Bool) → Goes w (skip_if last w) (length (trailing last)) none []
trailing_goes {w} false = stay w
trailing_goes {w} true = skipped w 1

-- the word void or parameters, and the bracket behind them
brackets_go : {w : Walked} (ps : Parameters) (word : Bool) → ((v : Walked) → Goes v (past_parameters false v ps) (length (listed_parameters false ps)) (λ k. starts_parameters k ps) (nodes_parameters ps)) →
    Goes w (skip 1 (past_parameters false (skip_if (is_void ps word) w) ps)) (length (spell_parameters ps word) + 1) (λ k. starts_parameters k ps) (nodes_parameters ps)
brackets_go {w} no_parameters false p = ahead 1 (stay w)
brackets_go {w} no_parameters true p = ahead 1 (skipped w 1)
brackets_go {w} (parameters ws f ps) false p = ahead 1 (p w)
brackets_go {w} (parameters ws f ps) true p = ahead 1 (p w)

mutual
  pub expression_goes : {w : Walked} (x : Expression) → Goes w (past_expression w x) (length (spell_expression x)) (λ k. starts_expression k x) (nodes_expression x)
  expression_goes {w} (comma x y) = counted (begun (expression_node (comma x y)) refl (then (expression_goes x) (behind 1 (expression_goes y)))) (simp length-append (omega arith))
  expression_goes {w} (assign o x y) = counted (begun (expression_node (assign o x y)) refl (then (expression_goes x) (behind 1 (expression_goes y)))) (simp length-append (omega arith))
  expression_goes {w} (choose x y z) = counted (begun (expression_node (choose x y z)) refl (then (expression_goes x) (behind 1 (then (expression_goes y) (behind 1 (expression_goes z)))))) (simp length-append (omega arith))
  expression_goes {w} (binary o x y) = counted (begun (expression_node (binary o x y)) refl (then (expression_goes x) (behind 1 (expression_goes y)))) (simp length-append (omega arith))
  expression_goes {w} (cast t x) = counted (begun (expression_node (cast t x)) refl (behind 1 (then (type_goes t) (behind 1 (expression_goes x))))) (simp length-append (omega arith))
  expression_goes {w} (unary o x) = counted (begun (expression_node (unary o x)) refl (behind 1 (expression_goes x))) (omega arith)
  expression_goes {w} (before o x) = counted (begun (expression_node (before o x)) refl (behind 1 (expression_goes x))) (omega arith)
  expression_goes {w} (size_of x) = counted (begun (expression_node (size_of x)) refl (behind 1 (expression_goes x))) (omega arith)
  expression_goes {w} (size_of_type t) = counted (begun (expression_node (size_of_type t)) refl (behind 1 (behind 1 (ahead 1 (type_goes t))))) (simp length-append (omega arith))
  expression_goes {w} (index x y) = counted (begun (expression_node (index x y)) refl (then (expression_goes x) (behind 1 (ahead 1 (expression_goes y))))) (simp length-append (omega arith))
  expression_goes {w} (call f xs) = counted (begun (expression_node (call f xs)) refl (then (expression_goes f) (behind 1 (ahead 1 (expressions_go false xs))))) (simp length-append (omega arith))
  expression_goes {w} (dot x n) = counted (begun (expression_node (dot x n)) refl (ahead 2 (expression_goes x))) (simp length-append (omega arith))
  expression_goes {w} (arrow x n) = counted (begun (expression_node (arrow x n)) refl (ahead 2 (expression_goes x))) (simp length-append (omega arith))
  expression_goes {w} (after o x) = counted (begun (expression_node (after o x)) refl (ahead 1 (expression_goes x))) (simp length-append (omega arith))
  expression_goes {w} (name n) = begun (expression_node (name n)) refl (skipped (begin w) 1)
  expression_goes {w} (integer n) = begun (expression_node (integer n)) refl (skipped (begin w) 1)
  expression_goes {w} (character n) = begun (expression_node (character n)) refl (skipped (begin w) 1)
  expression_goes {w} (text ns) = counted (begun (expression_node (text ns)) refl (skipped (begin w) (length ns))) (sym (length-map ns text_token))
  expression_goes {w} (paren x) = counted (begun (expression_node (paren x)) refl (behind 1 (ahead 1 (expression_goes x)))) (simp length-append (omega arith))

  pub expressions_go : {w : Walked} (is_behind : Bool) (x : Expressions) → Goes w (past_expressions is_behind w x) (length (listed_expressions is_behind x)) (λ k. starts_expressions (lead is_behind k) x) (nodes_expressions x)
  expressions_go {w} false no_expressions = stay w
  expressions_go {w} true no_expressions = stay w
  expressions_go {w} false (expressions x xs) = counted (then (expression_goes x) (expressions_go true xs)) (simp length-append (omega arith))
  expressions_go {w} true (expressions x xs) = counted (behind 1 (then (expression_goes x) (expressions_go true xs))) (simp length-append (omega arith))

  pub sizes_go : {w : Walked} (x : Sizes) → Goes w (past_sizes w x) (length (spell_sizes x)) (λ k. starts_sizes k x) (nodes_sizes x)
  sizes_go {w} no_sizes = stay w
  sizes_go {w} (open_size xs) = counted (behind 2 (sizes_go xs)) (omega arith)
  sizes_go {w} (size x xs) = counted (behind 1 (then (expression_goes x) (behind 1 (sizes_go xs)))) (simp length-append (omega arith))

  pub type_goes : {w : Walked} (x : TypeTree) → Goes w (past_type w x) (length (spell_type x)) (λ k. starts_type k x) (nodes_type x)
  type_goes {w} (typed ws b) = counted (then (specifiers_go ws) (bare_goes b)) (simp length-append (omega arith))

  pub specifiers_go : {w : Walked} (x : Specifiers) → Goes w (past_specifiers w x) (length (spell_specifiers x)) (λ k. starts_specifiers k x) (nodes_specifiers x)
  specifiers_go {w} no_specifiers = stay w
  specifiers_go {w} (specifiers s ws) = counted (then (specifier_goes s) (specifiers_go ws)) (simp length-append (omega arith))

  pub specifier_goes : {w : Walked} (x : Specifier) → Goes w (past_specifier w x) (length (spell_specifier x)) (λ k. starts_specifier k x) (nodes_specifier x)
  specifier_goes {w} const_word = skipped w 1
  specifier_goes {w} volatile_word = skipped w 1
  specifier_goes {w} void_word = skipped w 1
  specifier_goes {w} char_word = skipped w 1
  specifier_goes {w} short_word = skipped w 1
  specifier_goes {w} int_word = skipped w 1
  specifier_goes {w} long_word = skipped w 1
  specifier_goes {w} signed_word = skipped w 1
  specifier_goes {w} unsigned_word = skipped w 1
  specifier_goes {w} (type_name n) = skipped w 1
  specifier_goes {w} (struct_tag n) = behind 1 (skipped (skip 1 w) 1)
  specifier_goes {w} (struct_of t ms) = counted (behind 1 (then (tag_goes t) (behind 1 (ahead 1 (members_go ms))))) (simp length-append (omega arith))
  specifier_goes {w} (enum_tag n) = behind 1 (skipped (skip 1 w) 1)
  specifier_goes {w} (enum_of t es last) = counted (behind 1 (then (tag_goes t) (behind 1 (ahead 1 (ended (enumerators_go false es) (trailing_goes last)))))) (simp length-append (omega arith))

  pub members_go : {w : Walked} (x : Members) → Goes w (past_members w x) (length (spell_members x)) (λ k. starts_members k x) (nodes_members x)
  members_go {w} no_members = stay w
  members_go {w} (member ws ds ms) = counted (then (specifiers_go ws) (then (declarators_go false ds) (behind 1 (members_go ms)))) (simp length-append (omega arith))

  pub declarators_go : {w : Walked} (is_behind : Bool) (x : Declarators) → Goes w (past_declarators is_behind w x) (length (listed_declarators is_behind x)) (λ k. starts_declarators (lead is_behind k) x) (nodes_declarators x)
  declarators_go {w} false no_declarators = stay w
  declarators_go {w} true no_declarators = stay w
  declarators_go {w} false (declarators d ds) = counted (begun (member_node d) refl (then (declarator_goes d) (declarators_go true ds))) (simp length-append (omega arith))
  declarators_go {w} true (declarators d ds) = counted (behind 1 (begun (member_node d) refl (then (declarator_goes d) (declarators_go true ds)))) (simp length-append (omega arith))

  pub enumerators_go : {w : Walked} (is_behind : Bool) (x : Enumerators) → Goes w (past_enumerators is_behind w x) (length (listed_enumerators is_behind x)) (λ k. starts_enumerators (lead is_behind k) x) (nodes_enumerators x)
  enumerators_go {w} false no_enumerators = stay w
  enumerators_go {w} true no_enumerators = stay w
  enumerators_go {w} false (enumerator n es) = counted (begun (enumerator_node n None) refl (behind 1 (enumerators_go true es))) (omega arith)
  enumerators_go {w} true (enumerator n es) = counted (behind 1 (begun (enumerator_node n None) refl (behind 1 (enumerators_go true es)))) (omega arith)
  enumerators_go {w} false (enumerator_with n x es) = counted (begun (enumerator_node n (Some x)) refl (behind 2 (then (expression_goes x) (enumerators_go true es)))) (simp length-append (omega arith))
  enumerators_go {w} true (enumerator_with n x es) = counted (behind 1 (begun (enumerator_node n (Some x)) refl (behind 2 (then (expression_goes x) (enumerators_go true es))))) (simp length-append (omega arith))

  pub declarator_goes : {w : Walked} (x : DeclaratorTree) → Goes w (past_declarator w x) (length (spell_declarator x)) (λ k. starts_declarator k x) (nodes_declarator x)
  declarator_goes {w} (plain ss n) = counted (ahead 1 (stars_go ss)) (simp length-append (omega arith))
  declarator_goes {w} (array ss n xs) = counted (then (stars_go ss) (behind 1 (sizes_go xs))) (simp length-append (omega arith))
  declarator_goes {w} (function ss n ps v) = counted (then (stars_go ss) (behind 2 (brackets_go ps v (λ u. parameters_go {w = u} false ps)))) (simp length-append (omega arith))
  declarator_goes {w} (pointer ss qs n xs ps v) = counted (then (stars_go ss) (behind 2 (then (quals_go qs) (behind 1 (then (sizes_go xs) (behind 2 (brackets_go ps v (λ u. parameters_go {w = u} false ps)))))))) (simp length-append (omega arith))

  pub parameters_go : {w : Walked} (is_behind : Bool) (x : Parameters) → Goes w (past_parameters is_behind w x) (length (listed_parameters is_behind x)) (λ k. starts_parameters (lead is_behind k) x) (nodes_parameters x)
  parameters_go {w} false no_parameters = stay w
  parameters_go {w} true no_parameters = stay w
  parameters_go {w} false (parameters ws f ps) = counted (then (form_goes (λ v. past_specifiers v ws) (length (spell_specifiers ws)) (λ k. starts_specifiers k ws) (nodes_specifiers ws) ws (λ v. specifiers_go {w = v} ws) f) (parameters_go true ps)) (simp length-append (omega arith))
  parameters_go {w} true (parameters ws f ps) = counted (behind 1 (then (form_goes (λ v. past_specifiers v ws) (length (spell_specifiers ws)) (λ k. starts_specifiers k ws) (nodes_specifiers ws) ws (λ v. specifiers_go {w = v} ws) f) (parameters_go true ps))) (simp length-append (omega arith))

  pub form_goes : {w : Walked} (inside : Walked → Walked) (n : ℕ) (ks : ℕ → List ℕ) (ns : List Node) (ws : Specifiers) → ((v : Walked) → Goes v (inside v) n ks ns) → (f : ParameterForm) →
      Goes w (past_form w inside f) (n + length (spell_form f)) (λ k. starts_form k (ks k) (k + n) f) (nodes_form ns ws f)
  form_goes {w} inside n ks ns ws p (named_form d) = begun (parameter_node ws (named_form d)) refl (then (p (begin w)) (declarator_goes d))
  form_goes {w} inside n ks ns ws p (bare_form b) = then (p w) (bare_goes b)

  pub bare_goes : {w : Walked} (x : BareTree) → Goes w (past_bare w x) (length (spell_bare x)) (λ k. starts_bare k x) (nodes_bare x)
  bare_goes {w} (bare_stars ss) = stars_go ss
  bare_goes {w} (bare_pointer ss qs ps v) = counted (then (stars_go ss) (behind 2 (then (quals_go qs) (behind 2 (brackets_go ps v (λ u. parameters_go {w = u} false ps)))))) (simp length-append (omega arith))

designator_goes : {w : Walked} (n : Option Name) → Goes w (past_designator n w) (length (spell_designator n)) none []
designator_goes {w} None = stay w
designator_goes {w} (Some n) = skipped w 3

mutual
  pub init_goes : {w : Walked} (x : Initializer) → Goes w (past_init w x) (length (spell_init x)) (λ k. starts_init k x) (nodes_init x)
  init_goes {w} (single x) = expression_goes x
  init_goes {w} (listed ps last) = counted (begun (initializers_node ps last) refl (behind 1 (ahead 1 (ended (initializers_go false ps) (trailing_goes last))))) (simp length-append (omega arith))

  pub initializers_go : {w : Walked} (is_behind : Bool) (x : Initializers) → Goes w (past_initializers is_behind w x) (length (listed_initializers is_behind x)) (λ k. starts_initializers (lead is_behind k) x) (nodes_initializers x)
  initializers_go {w} false no_initializers = stay w
  initializers_go {w} true no_initializers = stay w
  initializers_go {w} false (initializers n i ps) = counted (then (designator_goes n) (then (init_goes i) (initializers_go true ps))) (simp length-append (omega arith))
  initializers_go {w} true (initializers n i ps) = counted (behind 1 (then (designator_goes n) (then (init_goes i) (initializers_go true ps)))) (simp length-append (omega arith))

pub optional_init_goes : {w : Walked} (x : Option Initializer) → Goes w (past_optional_init w x) (length (spell_initial x)) (λ k. starts_optional_init k x) (nodes_optional_init x)
optional_init_goes {w} None = stay w
optional_init_goes {w} (Some i) = counted (behind 1 (init_goes i)) (omega arith)

pub named_goes : {w : Walked} (x : NamedTree) → Goes w (past_named w x) (length (spell_named x)) (λ k. starts_named k x) (nodes_named x)
named_goes {w} n = counted (begun (named_node n) refl (then (declarator_goes n.declarator) (optional_init_goes n.init))) (simp length-append (omega arith))

pub names_go : (is_behind : Bool) (x : List NamedTree) {w : Walked} → Goes w (past_names is_behind w x) (length (listed_names is_behind x)) (λ k. starts_names (lead is_behind k) x) (nodes_names x)
names_go false [] {w} = stay w
names_go true [] {w} = stay w
names_go false (n ∷ ns) {w} = counted (then (named_goes n) (names_go true ns)) (simp length-append (omega arith))
names_go true (n ∷ ns) {w} = counted (behind 1 (then (named_goes n) (names_go true ns))) (simp length-append (omega arith))

storage_goes : {w : Walked} (s : Storage) → Goes w (past_storage s w) (length (spell_storage s)) none []
storage_goes {w} st.Nothing = stay w
storage_goes {w} st.Static = skipped w 1
storage_goes {w} st.Extern = skipped w 1
storage_goes {w} st.Typedef = skipped w 1

pub declaration_stands : {w : Walked} (x : DeclarationTree) → Inside w (past_declaration w x) (length (spell_declaration x)) (λ k. starts_declaration k x) (nodes_declaration x)
declaration_stands {w} d = inside_counted (inside_begun (declaration_node d) refl (inside_then (storage_goes d.storage) (inside_then (specifiers_go d.specs) (inside_ahead 1 (omega arith) (names_go false d.names))))) (simp length-append (omega arith))

optional_goes : {w : Walked} (x : Option Expression) → Goes w (past_optional w x) (length (spell_optional x)) (λ k. starts_optional k x) (nodes_optional x)
optional_goes {w} None = stay w
optional_goes {w} (Some x) = expression_goes x

pub for_start_goes : {w : Walked} (x : ForStartTree) → Goes w (past_for_start w x) (length (spell_for_start x)) (λ k. starts_for_start k x) (nodes_start x)
for_start_goes {w} (start_declaration d) = (declaration_stands d).goes
for_start_goes {w} (start_expression x) = counted (ahead 1 (optional_goes x)) (simp length-append (omega arith))

mutual
  pub statement_stands : {w : Walked} (x : StatementTree) → Inside w (past_statement w x) (length (spell_statement x)) (λ k. starts_statement k x) (nodes_statement x)
  statement_stands {w} (block ss) = inside_counted (inside_begun (statement_node (block ss)) refl (inside_behind 1 (inside_ahead 1 (omega arith) (statements_go ss)))) (simp length-append (omega arith))
  statement_stands {w} (declaration d) = declaration_stands d
  statement_stands {w} (expression_statement x) = inside_counted (inside_begun (statement_node (expression_statement x)) refl (inside_ahead 1 (omega arith) (optional_goes x))) (simp length-append (omega arith))
  statement_stands {w} (if_statement x s) = inside_counted (inside_begun (statement_node (if_statement x s)) refl (inside_behind 2 (inside_then (expression_goes x) (inside_behind 1 (statement_stands s))))) (simp length-append (omega arith))
  statement_stands {w} (if_else_statement x s r) = inside_counted (inside_begun (statement_node (if_else_statement x s r)) refl (inside_behind 2 (inside_then (expression_goes x) (inside_behind 1 (inside_then ((statement_stands s).goes) (inside_behind 1 (statement_stands r))))))) (simp length-append (omega arith))
  statement_stands {w} (while_statement x s) = inside_counted (inside_begun (statement_node (while_statement x s)) refl (inside_behind 2 (inside_then (expression_goes x) (inside_behind 1 (statement_stands s))))) (simp length-append (omega arith))
  statement_stands {w} (do_statement s x) = inside_counted (inside_begun (statement_node (do_statement s x)) refl (inside_behind 1 (inside_then ((statement_stands s).goes) (inside_behind 2 (inside_ahead 2 (omega arith) (expression_goes x)))))) (simp length-append (omega arith))
  statement_stands {w} (for_statement a x y s) = inside_counted (inside_begun (statement_node (for_statement a x y s)) refl (inside_behind 2 (inside_then (for_start_goes a) (inside_then (optional_goes x) (inside_behind 1 (inside_then (optional_goes y) (inside_behind 1 (statement_stands s)))))))) (simp length-append (omega arith))
  statement_stands {w} (switch_statement x s) = inside_counted (inside_begun (statement_node (switch_statement x s)) refl (inside_behind 2 (inside_then (expression_goes x) (inside_behind 1 (statement_stands s))))) (simp length-append (omega arith))
  statement_stands {w} (case_label x) = inside_counted (inside_begun (statement_node (case_label x)) refl (inside_behind 1 (inside_ahead 1 (omega arith) (expression_goes x)))) (simp length-append (omega arith))
  statement_stands {w} default_label = inside_begun (statement_node default_label) refl (inside_skipped (begin w) 2 (omega arith))
  statement_stands {w} (named_label n) = inside_begun (statement_node (named_label n)) refl (inside_skipped (begin w) 2 (omega arith))
  statement_stands {w} break_statement = inside_begun (statement_node break_statement) refl (inside_skipped (begin w) 2 (omega arith))
  statement_stands {w} continue_statement = inside_begun (statement_node continue_statement) refl (inside_skipped (begin w) 2 (omega arith))
  statement_stands {w} (return_statement x) = inside_counted (inside_begun (statement_node (return_statement x)) refl (inside_behind 1 (inside_ahead 1 (omega arith) (optional_goes x)))) (simp length-append (omega arith))
  statement_stands {w} (goto_statement n) = inside_begun (statement_node (goto_statement n)) refl (inside_skipped (begin w) 3 (omega arith))

  pub statements_go : {w : Walked} (x : Statements) → Goes w (past_statements w x) (length (spell_statements x)) (λ k. starts_statements k x) (nodes_statements x)
  statements_go {w} no_statements = stay w
  statements_go {w} (statements s ss) = counted (then ((statement_stands s).goes) (statements_go ss)) (simp length-append (omega arith))

-- up to the end of the function's body
abbrev past_body : Walked → FunctionTree → Walked
past_body w f =
    past_statement (skip 1 (past_parameters false (skip_if (is_void f.params f.word) (skip 2
    (past_stars (past_specifiers (past_storage f.storage (begin w)) f.specs) f.stars))) f.params)) f.body

-- where the nodes in a function stand, and which they are
abbrev body_starts : FunctionTree → ℕ → List ℕ
body_starts f k =
    starts_specifiers (k + length (spell_storage f.storage)) f.specs
    ++ (starts_parameters (k + length (spell_storage f.storage) + length (spell_specifiers f.specs) + length (spell_stars f.stars) + 2) f.params
    ++ starts_statement (k + length (spell_storage f.storage) + length (spell_specifiers f.specs) + length (spell_stars f.stars) + 2 + (length (spell_parameters f.params f.word) + 1)) f.body)

abbrev nodes_body : FunctionTree → List Node
nodes_body f = nodes_specifiers f.specs ++ (nodes_parameters f.params ++ nodes_statement f.body)

body_stands : (w : Walked) (f : FunctionTree) → Inside (begin w) (past_body w f) (length (spell_item (function_item f))) (body_starts f) (nodes_body f)
body_stands w f =
    inside_counted (inside_then (storage_goes f.storage) (inside_then (specifiers_go f.specs) (inside_then (stars_go f.stars) (inside_behind 2
    (inside_then (brackets_go f.params f.word (λ u. parameters_go {w = u} false f.params)) (statement_stands f.body))))))
    (simp length-append (omega arith))

function_runs : {w : Walked} (f : FunctionTree) → Runs w (past_function w f) (length (spell_item (function_item f))) (λ k. starts_function k f) (λ k. closes_items k (function_item f ∷ [])) (nodes_item (function_item f))
function_runs {w} f = closed f (body_stands w f)

pub items_run : (is : List ItemTree) {w : Walked} → Runs w (past_items w is) (length (spell is)) (λ k. starts_items k is) (λ k. closes_items k is) (nodes_items is)
items_run [] {w} = no_runs w
items_run (function_item f ∷ is) {w} = runs_counted (runs_then (function_runs f) (items_run is)) (simp length-append (omega arith))
items_run (declaration_item d ∷ is) {w} = runs_counted (runs_then (runs (declaration_stands d)) (items_run is)) (simp length-append (omega arith))

-- a walk over a whole program
abbrev pub entry : Walked
entry = begin (record { at = 0; starts = []; closes = [] })

pub all_starts : (is : List ItemTree) → (past_items entry is).starts ≡ starts is
all_starts is = (items_run is {w = entry}).starts

pub all_closes : (is : List ItemTree) → (past_items entry is).closes ≡ closes is
all_closes is = (items_run is {w = entry}).closes

pub item_spelled : (i : ItemTree) → 1 ≤ length (spell_item i)
item_spelled (function_item f) = (body_stands entry f).some
item_spelled (declaration_item d) = (declaration_stands {w = entry} d).some
