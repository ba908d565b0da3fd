-- What goes down a tree adds the names that the tree declares, in order.
use Rattle.std.proofs.Common.{◌≡◌, List, [], ◌∷◌, ◌++◌, Option, Some, None, refl, ap, sym, ◌∙◌}
use Rattle.std.proofs.lemmas.List.{append_assoc, append-nil}
use Rattle.c_tree.specs.DeclaredNames.{declared_expression, declared_expressions, declared_sizes, declared_type, declared_specifiers, declared_specifier, declared_members, declared_declarators, declared_enumerators, declared_declarator, declared_parameters, declared_form, declared_bare, declared_inside, declared_init, declared_initializers, declared_optional_init, declared_named, declared_names, declared_declaration, declared_optional, declared_start, declared_statement, declared_statements, declared_function}
use Rattle.c_tree.specs.Tree.{Name, Expression, comma, assign, choose, binary, cast, unary, before, size_of, size_of_type, index, call, dot, arrow, after, name, integer, character, text, paren, Expressions, no_expressions, expressions, Sizes, no_sizes, open_size, size, TypeTree, typed, Specifiers, no_specifiers, specifiers, Specifier, struct_of, enum_of, Members, no_members, member, Declarators, no_declarators, declarators, Enumerators, no_enumerators, enumerator, enumerator_with, DeclaratorTree, plain, array, function, pointer, Parameters, no_parameters, parameters, ParameterForm, named_form, bare_form, BareTree, bare_stars, bare_pointer, Initializer, single, listed, Initializers, no_initializers, initializers, NamedTree, DeclarationTree, ForStartTree, start_declaration, start_expression, StatementTree, block, declaration, expression_statement, if_statement, if_else_statement, while_statement, do_statement, for_statement, switch_statement, case_label, default_label, named_label, break_statement, continue_statement, return_statement, goto_statement, Statements, no_statements, statements, FunctionTree}
use Rattle.program_scope.specs.With.{with_name, with_all, with_expression, with_expressions, with_sizes, with_type, with_specifiers, with_specifier, with_members, with_declarators, with_enumerators, with_declarator, with_parameters, with_form, with_bare, with_inside, with_init, with_initializers, with_optional_init, with_named, with_names, with_declaration, with_optional, with_start, with_statement, with_statements, with_function}

-- no names
none : (ks : List Name) → ks ≡ ks ++ []
none ks = sym (append-nil ks)

-- some names, and then others
both : (p a b : List Name) {q r : List Name} → q ≡ p ++ a → r ≡ q ++ b → r ≡ p ++ (a ++ b)
both p a b e f = f ∙ ap (λ v. v ++ b) e ∙ append_assoc p a b

-- a name, and then others
name_and : (ks : List Name) (n : Name) (b : List Name) {r : List Name} → r ≡ with_name ks n ++ b → r ≡ ks ++ n ∷ b
name_and ks n b f = f ∙ append_assoc ks (n ∷ []) b

pub added_all : (ks : List Name) (ns : List Name) → with_all ks ns ≡ ks ++ ns
added_all ks [] = none ks
added_all ks (n ∷ ns) = name_and ks n ns (added_all (with_name ks n) ns)

mutual
  pub added_expression : (ks : List Name) (x : Expression) → with_expression ks x ≡ ks ++ declared_expression x
  added_expression ks (comma x y) = both ks (declared_expression x) (declared_expression y) (added_expression ks x) (added_expression (with_expression ks x) y)
  added_expression ks (assign o x y) = both ks (declared_expression x) (declared_expression y) (added_expression ks x) (added_expression (with_expression ks x) y)
  added_expression ks (choose x y z) = both ks (declared_expression x) (declared_expression y ++ (declared_expression z)) (added_expression ks x) (both (with_expression ks x) (declared_expression y) (declared_expression z) (added_expression (with_expression ks x) y) (added_expression (with_expression (with_expression ks x) y) z))
  added_expression ks (binary o x y) = both ks (declared_expression x) (declared_expression y) (added_expression ks x) (added_expression (with_expression ks x) y)
  added_expression ks (cast t x) = both ks (declared_type t) (declared_expression x) (added_type ks t) (added_expression (with_type ks t) x)
  added_expression ks (unary o x) = added_expression ks x
  added_expression ks (before o x) = added_expression ks x
  added_expression ks (size_of x) = added_expression ks x
  added_expression ks (size_of_type t) = added_type ks t
  added_expression ks (index x y) = both ks (declared_expression x) (declared_expression y) (added_expression ks x) (added_expression (with_expression ks x) y)
  added_expression ks (call f xs) = both ks (declared_expression f) (declared_expressions xs) (added_expression ks f) (added_expressions (with_expression ks f) xs)
  added_expression ks (dot x n) = added_expression ks x
  added_expression ks (arrow x n) = added_expression ks x
  added_expression ks (after o x) = added_expression ks x
  added_expression ks (name n) = none ks
  added_expression ks (integer n) = none ks
  added_expression ks (character n) = none ks
  added_expression ks (text ts) = none ks
  added_expression ks (paren x) = added_expression ks x

  pub added_expressions : (ks : List Name) (x : Expressions) → with_expressions ks x ≡ ks ++ declared_expressions x
  added_expressions ks no_expressions = none ks
  added_expressions ks (expressions x xs) = both ks (declared_expression x) (declared_expressions xs) (added_expression ks x) (added_expressions (with_expression ks x) xs)

  pub added_sizes : (ks : List Name) (x : Sizes) → with_sizes ks x ≡ ks ++ declared_sizes x
  added_sizes ks no_sizes = none ks
  added_sizes ks (open_size xs) = added_sizes ks xs
  added_sizes ks (size x xs) = both ks (declared_expression x) (declared_sizes xs) (added_expression ks x) (added_sizes (with_expression ks x) xs)

  pub added_type : (ks : List Name) (x : TypeTree) → with_type ks x ≡ ks ++ declared_type x
  added_type ks (typed ws b) = both ks (declared_specifiers ws) (declared_bare b) (added_specifiers ks ws) (added_bare (with_specifiers ks ws) b)

  pub added_specifiers : (ks : List Name) (x : Specifiers) → with_specifiers ks x ≡ ks ++ declared_specifiers x
  added_specifiers ks no_specifiers = none ks
  added_specifiers ks (specifiers w ws) = both ks (declared_specifier w) (declared_specifiers ws) (added_specifier ks w) (added_specifiers (with_specifier ks w) ws)

  pub added_specifier : (ks : List Name) (x : Specifier) → with_specifier ks x ≡ ks ++ declared_specifier x
  added_specifier ks (struct_of t ms) = added_members ks ms
  added_specifier ks (enum_of t es last) = added_enumerators ks es
  added_specifier ks _ = none ks

  pub added_members : (ks : List Name) (x : Members) → with_members ks x ≡ ks ++ declared_members x
  added_members ks no_members = none ks
  added_members ks (member ws ds ms) = both ks (declared_specifiers ws) (declared_declarators ds ++ (declared_members ms)) (added_specifiers ks ws) (both (with_specifiers ks ws) (declared_declarators ds) (declared_members ms) (added_declarators (with_specifiers ks ws) ds) (added_members (with_declarators (with_specifiers ks ws) ds) ms))

  pub added_declarators : (ks : List Name) (x : Declarators) → with_declarators ks x ≡ ks ++ declared_declarators x
  added_declarators ks no_declarators = none ks
  added_declarators ks (declarators d ds) = both ks (declared_declarator d) (declared_declarators ds) (added_declarator ks d) (added_declarators (with_declarator ks d) ds)

  pub added_enumerators : (ks : List Name) (x : Enumerators) → with_enumerators ks x ≡ ks ++ declared_enumerators x
  added_enumerators ks no_enumerators = none ks
  added_enumerators ks (enumerator n es) = name_and ks n (declared_enumerators es) (added_enumerators (with_name ks n) es)
  added_enumerators ks (enumerator_with n x es) = name_and ks n (declared_expression x ++ (declared_enumerators es)) (both (with_name ks n) (declared_expression x) (declared_enumerators es) (added_expression (with_name ks n) x) (added_enumerators (with_expression (with_name ks n) x) es))

  pub added_declarator : (ks : List Name) (x : DeclaratorTree) → with_declarator ks x ≡ ks ++ declared_declarator x
  added_declarator ks (plain ss n) = refl
  added_declarator ks (array ss n xs) = name_and ks n (declared_sizes xs) (added_sizes (with_name ks n) xs)
  added_declarator ks (function ss n ps v) = name_and ks n (declared_parameters ps) (added_parameters (with_name ks n) ps)
  added_declarator ks (pointer ss qs n xs ps v) = name_and ks n (declared_sizes xs ++ (declared_parameters ps)) (both (with_name ks n) (declared_sizes xs) (declared_parameters ps) (added_sizes (with_name ks n) xs) (added_parameters (with_sizes (with_name ks n) xs) ps))

  pub added_parameters : (ks : List Name) (x : Parameters) → with_parameters ks x ≡ ks ++ declared_parameters x
  added_parameters ks no_parameters = none ks
  added_parameters ks (parameters ws f ps) = both ks (declared_specifiers ws) (declared_form f ++ (declared_parameters ps)) (added_specifiers ks ws) (both (with_specifiers ks ws) (declared_form f) (declared_parameters ps) (added_form (with_specifiers ks ws) f) (added_parameters (with_form (with_specifiers ks ws) f) ps))

  pub added_form : (ks : List Name) (x : ParameterForm) → with_form ks x ≡ ks ++ declared_form x
  added_form ks (named_form d) = added_declarator ks d
  added_form ks (bare_form b) = added_bare ks b

  pub added_bare : (ks : List Name) (x : BareTree) → with_bare ks x ≡ ks ++ declared_bare x
  added_bare ks (bare_stars ss) = none ks
  added_bare ks (bare_pointer ss qs ps v) = added_parameters ks ps

pub added_inside : (ks : List Name) (x : DeclaratorTree) → with_inside ks x ≡ ks ++ declared_inside x
added_inside ks (plain ss n) = none ks
added_inside ks (array ss n xs) = added_sizes ks xs
added_inside ks (function ss n ps v) = added_parameters ks ps
added_inside ks (pointer ss qs n xs ps v) = both ks (declared_sizes xs) (declared_parameters ps) (added_sizes ks xs) (added_parameters (with_sizes ks xs) ps)

mutual
  pub added_init : (ks : List Name) (x : Initializer) → with_init ks x ≡ ks ++ declared_init x
  added_init ks (single x) = added_expression ks x
  added_init ks (listed ps last) = added_initializers ks ps

  pub added_initializers : (ks : List Name) (x : Initializers) → with_initializers ks x ≡ ks ++ declared_initializers x
  added_initializers ks no_initializers = none ks
  added_initializers ks (initializers n i ps) = both ks (declared_init i) (declared_initializers ps) (added_init ks i) (added_initializers (with_init ks i) ps)

pub added_optional_init : (ks : List Name) (x : Option Initializer) → with_optional_init ks x ≡ ks ++ declared_optional_init x
added_optional_init ks None = none ks
added_optional_init ks (Some i) = added_init ks i

pub added_named : (ks : List Name) (x : NamedTree) → with_named ks x ≡ ks ++ declared_named x
added_named ks n = both ks (declared_declarator n.declarator) (declared_optional_init n.init) (added_declarator ks n.declarator) (added_optional_init (with_declarator ks n.declarator) n.init)

pub added_names : (ks : List Name) (x : List NamedTree) → with_names ks x ≡ ks ++ declared_names x
added_names ks [] = none ks
added_names ks (n ∷ ns) = both ks (declared_named n) (declared_names ns) (added_named ks n) (added_names (with_named ks n) ns)

pub added_declaration : (ks : List Name) (x : DeclarationTree) → with_declaration ks x ≡ ks ++ declared_declaration x
added_declaration ks d = both ks (declared_specifiers d.specs) (declared_names d.names) (added_specifiers ks d.specs) (added_names (with_specifiers ks d.specs) d.names)

pub added_optional : (ks : List Name) (x : Option Expression) → with_optional ks x ≡ ks ++ declared_optional x
added_optional ks None = none ks
added_optional ks (Some x) = added_expression ks x

pub added_start : (ks : List Name) (x : ForStartTree) → with_start ks x ≡ ks ++ declared_start x
added_start ks (start_declaration d) = added_declaration ks d
added_start ks (start_expression x) = added_optional ks x

mutual
  pub added_statement : (ks : List Name) (x : StatementTree) → with_statement ks x ≡ ks ++ declared_statement x
  added_statement ks (block ss) = added_statements ks ss
  added_statement ks (declaration d) = added_declaration ks d
  added_statement ks (expression_statement x) = added_optional ks x
  added_statement ks (if_statement x s) = both ks (declared_expression x) (declared_statement s) (added_expression ks x) (added_statement (with_expression ks x) s)
  added_statement ks (if_else_statement x s r) = both ks (declared_expression x) (declared_statement s ++ (declared_statement r)) (added_expression ks x) (both (with_expression ks x) (declared_statement s) (declared_statement r) (added_statement (with_expression ks x) s) (added_statement (with_statement (with_expression ks x) s) r))
  added_statement ks (while_statement x s) = both ks (declared_expression x) (declared_statement s) (added_expression ks x) (added_statement (with_expression ks x) s)
  added_statement ks (do_statement s x) = both ks (declared_statement s) (declared_expression x) (added_statement ks s) (added_expression (with_statement ks s) x)
  added_statement ks (for_statement a x y s) = both ks (declared_start a) (declared_optional x ++ (declared_optional y ++ (declared_statement s))) (added_start ks a) (both (with_start ks a) (declared_optional x) (declared_optional y ++ (declared_statement s)) (added_optional (with_start ks a) x) (both (with_optional (with_start ks a) x) (declared_optional y) (declared_statement s) (added_optional (with_optional (with_start ks a) x) y) (added_statement (with_optional (with_optional (with_start ks a) x) y) s)))
  added_statement ks (switch_statement x s) = both ks (declared_expression x) (declared_statement s) (added_expression ks x) (added_statement (with_expression ks x) s)
  added_statement ks (case_label x) = added_expression ks x
  added_statement ks default_label = none ks
  added_statement ks (named_label n) = refl
  added_statement ks break_statement = none ks
  added_statement ks continue_statement = none ks
  added_statement ks (return_statement x) = added_optional ks x
  added_statement ks (goto_statement n) = none ks

  pub added_statements : (ks : List Name) (x : Statements) → with_statements ks x ≡ ks ++ declared_statements x
  added_statements ks no_statements = none ks
  added_statements ks (statements s ss) = both ks (declared_statement s) (declared_statements ss) (added_statement ks s) (added_statements (with_statement ks s) ss)

pub added_function : (ks : List Name) (x : FunctionTree) → with_function ks x ≡ ks ++ declared_function x
added_function ks f = both ks (declared_specifiers f.specs) (f.name ∷ (declared_parameters f.params ++ (declared_statement f.body))) (added_specifiers ks f.specs) (name_and (with_specifiers ks f.specs) f.name (declared_parameters f.params ++ (declared_statement f.body)) (both (with_name (with_specifiers ks f.specs) f.name) (declared_parameters f.params) (declared_statement f.body) (added_parameters (with_name (with_specifiers ks f.specs) f.name) f.params) (added_statement (with_parameters (with_name (with_specifiers ks f.specs) f.name) f.params) f.body)))
