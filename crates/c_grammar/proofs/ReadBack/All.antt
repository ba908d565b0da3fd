-- Each tree of the right shape is read.
use Rattle.std.proofs.Common.{◌≤◌, Bool, false, [], ◌++◌, arith}
use Rattle.c_tree.specs.Tree.{Expression, comma, assign, choose, binary, cast, unary, before, size_of, size_of_type, index, call, dot, arrow, after, name, integer, character, text, paren, Expressions, no_expressions, expressions, Sizes, no_sizes, open_size, size, TypeTree, typed, Specifiers, no_specifiers, specifiers, Specifier, const_word, volatile_word, void_word, char_word, short_word, int_word, long_word, signed_word, unsigned_word, type_name, struct_tag, struct_of, enum_tag, enum_of, Members, no_members, member, Declarators, no_declarators, declarators, Enumerators, no_enumerators, enumerator, enumerator_with, DeclaratorTree, plain, array, function, pointer, Parameters, no_parameters, parameters, ParameterForm, named_form, bare_form, BareTree, bare_stars, bare_pointer}
use Rattle.c_tree.specs.TypeWords.{IsOrdinary}
use Rattle.c_tree.specs.DeclaredNames.{declared_expression, declared_expressions, declared_sizes, declared_type, declared_specifiers, declared_specifier, declared_members, declared_declarators, declared_enumerators, declared_declarator, declared_parameters, declared_form, declared_bare, declarator_name, declared_inside}
use Rattle.c_tree.specs.ExpressionShape.{level, ShapeExpression, ShapeArguments, ShapeSizes, ShapeType, ShapeSpecifiers, ShapeSpecifier, ShapeMembers, ShapeDeclarators, ShapeEnumerators, ShapeDeclarator, ShapeParameters, ShapeForm, ShapeBare}
use Rattle.c_grammar.specs.Rules.{NameEnvironment, inside}
use Rattle.c_grammar.proofs.KindLemmas.{neither_among}
use Rattle.c_grammar.proofs.Avoiding.{Avoids, avoids_left, avoids_right, avoids_head, avoids_tail, avoids_name, avoids_inside}
use Rattle.c_grammar.proofs.MoreKinds.{operator_least}
use Rattle.c_grammar.proofs.TypeHeads.{specifiers_head, type_head}
use Rattle.c_grammar.proofs.ReadBack.Tree.{ReadsExpression, ReadsArguments, ReadsSizes, ReadsType, ReadsSpecifiers, ReadsSpecifier, ReadsMembers, ReadsDeclarators, ReadsEnumerators, ReadsDeclarator, ReadsNamed, ReadsParameters, ReadsForm, ReadsBare}
use Rattle.c_grammar.proofs.ReadBack.Operators.{comma_reads, assign_reads, choose_reads, binary_reads, index_reads, call_reads, dot_reads, arrow_reads, after_reads}
use Rattle.c_grammar.proofs.ReadBack.Prefixes.{name_reads, integer_reads, character_reads, text_reads, paren_reads, cast_reads, unary_reads, before_reads, size_of_type_reads, size_of_reads}
use Rattle.c_grammar.proofs.ReadBack.Lists.{no_expressions_reads, expressions_reads, no_sizes_reads, open_size_reads, size_reads, no_enumerators_reads, enumerator_reads, enumerator_with_reads}
use Rattle.c_grammar.proofs.ReadBack.Words.{no_specifiers_reads, specifiers_reads, const_reads, volatile_reads, void_reads, char_reads, short_reads, int_reads, long_reads, signed_reads, unsigned_reads, type_name_reads, struct_tag_reads, struct_of_reads, enum_tag_reads, enum_of_reads}
use Rattle.c_grammar.proofs.ReadBack.MemberLists.{typed_reads, no_declarators_reads, declarators_reads, no_members_reads, member_reads}
use Rattle.c_grammar.proofs.ReadBack.ParameterLists.{list_read, no_parameters_reads, parameters_reads, named_form_reads, bare_form_reads, bare_stars_reads, bare_pointer_reads}
use Rattle.c_grammar.proofs.ReadBack.Declarators.{plain_reads, array_reads, function_reads, pointer_reads, plain_named, array_named, function_named, pointer_named}

-- no level is 0
pub level_least : (x : Expression) → 1 ≤ level x
level_least (binary o x y) = omega (arith, operator_least o)
level_least (comma x y) = omega arith
level_least _ = omega arith

mutual
  -- an expression of the right shape is read
  pub expression_reads : (t : NameEnvironment) (x : Expression) → ShapeExpression t.types x → Avoids t.reserved (declared_expression x) → ReadsExpression t x
  expression_reads t (comma x y) s a = comma_reads t x y s.0 s.1 (expression_reads t x s.2 (avoids_left t.reserved _ (declared_expression y) a)) (expression_reads t y s.3 (avoids_right t.reserved (declared_expression x) _ a))
  expression_reads t (assign o x y) s a = assign_reads t o x y s.0 s.1 (expression_reads t x s.2 (avoids_left t.reserved _ (declared_expression y) a)) (expression_reads t y s.3 (avoids_right t.reserved (declared_expression x) _ a))
  expression_reads t (choose x y z) s a =
      let b = avoids_right t.reserved (declared_expression x) (declared_expression y ++ declared_expression z) a in
      choose_reads t x y z s.0 s.1 s.2 (expression_reads t x s.3 (avoids_left t.reserved _ (declared_expression y ++ declared_expression z) a))
      (expression_reads t y s.4 (avoids_left t.reserved _ (declared_expression z) b)) (expression_reads t z s.5 (avoids_right t.reserved (declared_expression y) _ b))
  expression_reads t (binary o x y) s a = binary_reads t o x y s.0 s.1 (expression_reads t x s.2 (avoids_left t.reserved _ (declared_expression y) a)) (expression_reads t y s.3 (avoids_right t.reserved (declared_expression x) _ a))
  expression_reads t (cast y x) s a =
      cast_reads t y x s.0 (λ us. type_head t y us s.1) (type_reads t y s.1 (avoids_left t.reserved _ (declared_expression x) a)) (expression_reads t x s.2 (avoids_right t.reserved (declared_type y) _ a))
  expression_reads t (unary o x) s a = unary_reads t o x s.0 (expression_reads t x s.1 a)
  expression_reads t (before o x) s a = before_reads t o x s.0 (expression_reads t x s.1 a)
  expression_reads t (size_of x) s a = size_of_reads t x s.1 s.0 (expression_reads t x s.1 a)
  expression_reads t (size_of_type y) s a = size_of_type_reads t y (λ us. type_head t y us s) (type_reads t y s a)
  expression_reads t (index x y) s a =
      index_reads t x y s.0 (level_least y) (expression_reads t x s.1 (avoids_left t.reserved _ (declared_expression y) a)) (expression_reads t y s.2 (avoids_right t.reserved (declared_expression x) _ a))
  expression_reads t (call f xs) s a =
      call_reads t f xs s.0 (expression_reads t f s.1 (avoids_left t.reserved _ (declared_expressions xs) a)) (arguments_reads t xs s.2 (avoids_right t.reserved (declared_expression f) _ a))
  expression_reads t (dot x n) s a = dot_reads t x n s.0 s.1 (expression_reads t x s.2 a)
  expression_reads t (arrow x n) s a = arrow_reads t x n s.0 s.1 (expression_reads t x s.2 a)
  expression_reads t (after o x) s a = after_reads t o x s.0 (expression_reads t x s.1 a)
  expression_reads t (name n) s a = name_reads t n s
  expression_reads t (integer n) s a = integer_reads t n
  expression_reads t (character n) s a = character_reads t n
  expression_reads t (text ns) s a = text_reads t ns s
  expression_reads t (paren x) s a = paren_reads t x s (level_least x) (expression_reads t x s a)

  -- arguments of the right shape are read
  pub arguments_reads : (t : NameEnvironment) (xs : Expressions) → ShapeArguments t.types xs → Avoids t.reserved (declared_expressions xs) → ReadsArguments t xs
  arguments_reads t no_expressions s a = no_expressions_reads t
  arguments_reads t (expressions x xs) s a =
      expressions_reads t x xs s.0 s.1 (expression_reads t x s.1 (avoids_left t.reserved _ (declared_expressions xs) a)) (arguments_reads t xs s.2 (avoids_right t.reserved (declared_expression x) _ a))

  -- sizes of the right shape are read
  pub sizes_reads : (t : NameEnvironment) (xs : Sizes) → ShapeSizes t.types xs → Avoids t.reserved (declared_sizes xs) → ReadsSizes t xs
  sizes_reads t no_sizes s a = no_sizes_reads t
  sizes_reads t (open_size xs) s a = open_size_reads t xs (sizes_reads t xs s a)
  sizes_reads t (size x xs) s a =
      size_reads t x xs s.0 s.1 (expression_reads t x s.1 (avoids_left t.reserved _ (declared_sizes xs) a)) (sizes_reads t xs s.2 (avoids_right t.reserved (declared_expression x) _ a))

  -- a type of the right shape is read
  pub type_reads : (t : NameEnvironment) (y : TypeTree) → ShapeType t.types y → Avoids t.reserved (declared_type y) → ReadsType t y
  type_reads t (typed ws b) s a =
      typed_reads t ws b s.0 (words_reads t ws s.1 (avoids_left t.reserved _ (declared_bare b) a)) (bare_reads t b s.2 (avoids_right t.reserved (declared_specifiers ws) _ a))

  -- specifiers of the right shape are read
  pub words_reads : (t : NameEnvironment) (xs : Specifiers) → ShapeSpecifiers t.types xs → Avoids t.reserved (declared_specifiers xs) → ReadsSpecifiers t xs
  words_reads t no_specifiers s a = no_specifiers_reads t
  words_reads t (specifiers w ws) s a =
      specifiers_reads t w ws (word_reads t w s.0 (avoids_left t.reserved _ (declared_specifiers ws) a)) (words_reads t ws s.1 (avoids_right t.reserved (declared_specifier w) _ a))

  word_reads : (t : NameEnvironment) (w : Specifier) → ShapeSpecifier t.types w → Avoids t.reserved (declared_specifier w) → ReadsSpecifier t w
  word_reads t const_word s a = const_reads t
  word_reads t volatile_word s a = volatile_reads t
  word_reads t void_word s a = void_reads t
  word_reads t char_word s a = char_reads t
  word_reads t short_word s a = short_reads t
  word_reads t int_word s a = int_reads t
  word_reads t long_word s a = long_reads t
  word_reads t signed_word s a = signed_reads t
  word_reads t unsigned_word s a = unsigned_reads t
  word_reads t (type_name n) s a = type_name_reads t n s
  word_reads t (struct_tag n) s a = struct_tag_reads t n
  word_reads t (struct_of n ms) s a = struct_of_reads t n ms s.0 (members_reads t ms s.1 a)
  word_reads t (enum_tag n) s a = enum_tag_reads t n
  word_reads t (enum_of n es c) s a = enum_of_reads t n es c s.0 (enumerators_reads t es s.1 a)

  members_reads : (t : NameEnvironment) (ms : Members) → ShapeMembers t.types ms → Avoids t.reserved (declared_members ms) → ReadsMembers t ms
  members_reads t no_members s a = no_members_reads t
  members_reads t (member ws cs ms) s a =
      let b = avoids_right t.reserved (declared_specifiers ws) (declared_declarators cs ++ declared_members ms) a in
      member_reads t ws cs ms s.0 s.2 s.3 (λ us. specifiers_head t ws us s.1 s.0) (words_reads t ws s.1 (avoids_left t.reserved _ (declared_declarators cs ++ declared_members ms) a))
      (names_reads t cs s.3 (avoids_left t.reserved _ (declared_members ms) b)) (members_reads t ms s.4 (avoids_right t.reserved (declared_declarators cs) _ b))

  names_reads : (t : NameEnvironment) (cs : Declarators) → ShapeDeclarators t.types cs → Avoids t.reserved (declared_declarators cs) → ReadsDeclarators t cs
  names_reads t no_declarators s a = no_declarators_reads t
  names_reads t (declarators c cs) s a =
      let b = avoids_left t.reserved (declared_declarator c) (declared_declarators cs) a in
      declarators_reads t c cs s.0 (declarator_reads t false c s.1 (avoids_name t.reserved c b) (avoids_inside t.reserved c b)) (names_reads t cs s.2 (avoids_right t.reserved (declared_declarator c) _ a))

  enumerators_reads : (t : NameEnvironment) (es : Enumerators) → ShapeEnumerators t.types es → Avoids t.reserved (declared_enumerators es) → ReadsEnumerators t es
  enumerators_reads t no_enumerators s a = no_enumerators_reads t
  enumerators_reads t (enumerator n es) s a =
      enumerator_reads t n es (neither_among t.reserved t.types n (avoids_head t.reserved n _ a) s.0) (enumerators_reads t es s.1 (avoids_tail t.reserved n _ a))
  enumerators_reads t (enumerator_with n x es) s a =
      let b = avoids_tail t.reserved n (declared_expression x ++ declared_enumerators es) a in
      enumerator_with_reads t n x es (neither_among t.reserved t.types n (avoids_head t.reserved n _ a) s.0) s.1 (expression_reads t x s.2 (avoids_left t.reserved _ (declared_enumerators es) b))
      (enumerators_reads t es s.3 (avoids_right t.reserved (declared_expression x) _ b))

  -- a declarator of the right shape is read, perhaps of a type
  pub declarator_reads : (t : NameEnvironment) (y : Bool) (c : DeclaratorTree) → ShapeDeclarator t.types c → IsOrdinary t.reserved (declarator_name c) → Avoids (inside y (declarator_name c) t).reserved (declared_inside c) →
      ReadsDeclarator t y c
  declarator_reads t y (plain ss n) s new a = plain_reads t y ss n (neither_among t.reserved t.types n new s)
  declarator_reads t y (array ss n xs) s new a = array_reads t y ss n xs (neither_among t.reserved t.types n new s.0) s.1 (sizes_reads (inside y n t) xs s.2 a)
  declarator_reads t y (function ss n ps v) s new a =
      function_reads t y ss n ps v (neither_among t.reserved t.types n new s.0) (list_read (inside y n t) ps v s.1 s.2 s.3 (some_reads (inside y n t) ps s.3 a))
  declarator_reads t y (pointer ss qs n xs ps v) s new a =
      pointer_reads t y ss qs n xs ps v (neither_among t.reserved t.types n new s.0) s.1 (sizes_reads (inside y n t) xs s.2 (avoids_left (inside y n t).reserved _ (declared_parameters ps) a))
      (list_read (inside y n t) ps v s.3 s.4 s.5 (some_reads (inside y n t) ps s.5 (avoids_right (inside y n t).reserved (declared_sizes xs) _ a)))

  -- a declarator of the right shape is read behind the specifiers of a parameter
  named_reads : (t : NameEnvironment) (c : DeclaratorTree) → ShapeDeclarator t.types c → Avoids t.reserved (declared_declarator c) → ReadsNamed t c
  named_reads t (plain ss n) s a = plain_named t ss n (neither_among t.reserved t.types n (avoids_head t.reserved n [] a) s)
  named_reads t (array ss n xs) s a = array_named t ss n xs (neither_among t.reserved t.types n (avoids_head t.reserved n _ a) s.0) s.1 (sizes_reads t xs s.2 (avoids_tail t.reserved n _ a))
  named_reads t (function ss n ps v) s a = function_named t ss n ps v
  named_reads t (pointer ss qs n xs ps v) s a =
      let b = avoids_tail t.reserved n (declared_sizes xs ++ declared_parameters ps) a in
      pointer_named t ss qs n xs ps v (neither_among t.reserved t.types n (avoids_head t.reserved n _ a) s.0) s.1 (sizes_reads t xs s.2 (avoids_left t.reserved _ (declared_parameters ps) b))
      (list_read t ps v s.3 s.4 s.5 (some_reads t ps s.5 (avoids_right t.reserved (declared_sizes xs) _ b)))

  -- parameters of the right shape are read
  pub some_reads : (t : NameEnvironment) (ps : Parameters) → ShapeParameters t.types ps → Avoids t.reserved (declared_parameters ps) → ReadsParameters t ps
  some_reads t no_parameters s a = no_parameters_reads t
  some_reads t (parameters ws f ps) s a =
      let b = avoids_right t.reserved (declared_specifiers ws) (declared_form f ++ declared_parameters ps) a in
      parameters_reads t ws f ps s.0 s.2 (words_reads t ws s.1 (avoids_left t.reserved _ (declared_form f ++ declared_parameters ps) a)) (form_reads t f s.2 (avoids_left t.reserved _ (declared_parameters ps) b))
      (some_reads t ps s.3 (avoids_right t.reserved (declared_form f) _ b))

  form_reads : (t : NameEnvironment) (f : ParameterForm) → ShapeForm t.types f → Avoids t.reserved (declared_form f) → ReadsForm t f
  form_reads t (named_form c) s a = named_form_reads t c s.0 (named_reads t c s.1 a)
  form_reads t (bare_form b) s a = bare_form_reads t b (bare_reads t b s a)

  bare_reads : (t : NameEnvironment) (b : BareTree) → ShapeBare t.types b → Avoids t.reserved (declared_bare b) → ReadsBare t b
  bare_reads t (bare_stars ss) s a = bare_stars_reads t ss
  bare_reads t (bare_pointer ss qs ps v) s a = bare_pointer_reads t ss qs ps v (list_read t ps v s.0 s.1 s.2 (some_reads t ps s.2 a))
