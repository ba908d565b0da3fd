-- The conditions of shape on expressions, types and declarators (C11 6.5 to 6.7): which operands stand where, and which
-- names are types. Each definition takes the names that are types at its place.
use Rattle.std.specs.Prelude.{ℕ, suc, ◌≤◌, List, [], length, Bool, true, false, ⊤}
use Rattle.c_tree.specs.declared.tree.BinaryOp.{BinaryOp}
use Rattle.c_tree.specs.declared.tree.BinaryOp.TheVariants as b
use Rattle.c_tree.specs.TypeWords.{IsTypeName, IsOrdinary, NamesType}
use Rattle.c_tree.specs.Tree.{Name, Expression, comma, assign, choose, binary, cast, unary, before, size_of, size_of_type, index, call, dot, arrow, after, name, integer, character, text, paren, Expressions, no_expressions, expressions, Sizes, no_sizes, open_size, size, TypeTree, typed, Specifiers, no_specifiers, specifiers, Specifier, void_word, type_name, struct_of, enum_of, Members, no_members, member, Declarators, no_declarators, declarators, Enumerators, no_enumerators, enumerator, enumerator_with, DeclaratorTree, plain, array, function, pointer, Parameters, no_parameters, parameters, ParameterForm, named_form, bare_form, BareTree, bare_stars, bare_pointer}

-- how tightly an operator binds: a higher level binds its operands first (C11 6.5.5 to 6.5.14)
abbrev pub op_level : BinaryOp → ℕ
op_level b.Or = 4
op_level b.And = 5
op_level b.BitOr = 6
op_level b.BitXor = 7
op_level b.BitAnd = 8
op_level b.Equal = 9
op_level b.Unequal = 9
op_level b.Less = 10
op_level b.Greater = 10
op_level b.AtMost = 10
op_level b.AtLeast = 10
op_level b.ShiftLeft = 11
op_level b.ShiftRight = 11
op_level b.Add = 12
op_level b.Sub = 12
op_level b.Mul = 13
op_level b.Div = 13
op_level b.Rem = 13

-- the level of an expression: 17 is primary, 16 postfix, 15 unary, 14 a cast, and 1 the comma (C11 6.5.1 to 6.5.17)
abbrev pub level : Expression → ℕ
level (comma x y) = 1
level (assign o x y) = 2
level (choose x y z) = 3
level (binary o x y) = op_level o
level (cast t x) = 14
level (unary o x) = 15
level (before o x) = 15
level (size_of x) = 15
level (size_of_type t) = 15
level (index x y) = 16
level (call f xs) = 16
level (dot x n) = 16
level (arrow x n) = 16
level (after o x) = 16
level (name n) = 17
level (integer n) = 17
level (character n) = 17
level (text ns) = 17
level (paren x) = 17

-- the word void for an empty list stands before no parameter (C11 6.7.6.3p10)
abbrev pub FitsWord : Bool → Parameters → Type 0
FitsWord false ps = ⊤
FitsWord true no_parameters = ⊤
FitsWord true (parameters ws f ps) = ⊥

-- the one word void is the empty list, and no parameter (C11 6.7.6.3p10)
abbrev pub IsNotVoid : Parameters → Type 0
IsNotVoid (parameters (specifiers void_word no_specifiers) (bare_form (bare_stars [])) no_parameters) = ⊥
IsNotVoid _ = ⊤

-- the pointer of a pointer declarator has at most one size
abbrev pub AtMostOne : Sizes → Type 0
AtMostOne no_sizes = ⊤
AtMostOne (open_size no_sizes) = ⊤
AtMostOne (size x no_sizes) = ⊤
AtMostOne _ = ⊥

abbrev pub AtLeastOne : Sizes → Type 0
AtLeastOne no_sizes = ⊥
AtLeastOne (open_size xs) = ⊤
AtLeastOne (size x xs) = ⊤

abbrev pub HasMember : Members → Type 0
HasMember no_members = ⊥
HasMember (member ws ds ms) = ⊤

abbrev pub HasDeclarator : Declarators → Type 0
HasDeclarator no_declarators = ⊥
HasDeclarator (declarators d ds) = ⊤

abbrev pub HasEnumerator : Enumerators → Type 0
HasEnumerator no_enumerators = ⊥
HasEnumerator (enumerator n es) = ⊤
HasEnumerator (enumerator_with n x es) = ⊤

-- members and parameters are objects: no function is declared there
abbrev pub IsNoFunction : DeclaratorTree → Type 0
IsNoFunction (plain ss n) = ⊤
IsNoFunction (array ss n xs) = ⊤
IsNoFunction (function ss n ps v) = ⊥
IsNoFunction (pointer ss qs n xs ps v) = ⊤

abbrev mutual
  pub ShapeExpression : List Name → Expression → Type 0
  ShapeExpression types (comma x y) = (1 ≤ level x) × (2 ≤ level y) × ShapeExpression types x × ShapeExpression types y
  ShapeExpression types (assign o x y) = (15 ≤ level x) × (2 ≤ level y) × ShapeExpression types x × ShapeExpression types y
  ShapeExpression types (choose x y z) = (4 ≤ level x) × (1 ≤ level y) × (3 ≤ level z) × ShapeExpression types x × ShapeExpression types y × ShapeExpression types z
  ShapeExpression types (binary o x y) = (op_level o ≤ level x) × (suc (op_level o) ≤ level y) × ShapeExpression types x × ShapeExpression types y
  ShapeExpression types (cast t x) = (14 ≤ level x) × ShapeType types t × ShapeExpression types x
  ShapeExpression types (unary o x) = (14 ≤ level x) × ShapeExpression types x
  ShapeExpression types (before o x) = (15 ≤ level x) × ShapeExpression types x
  ShapeExpression types (size_of x) = (15 ≤ level x) × ShapeExpression types x
  ShapeExpression types (size_of_type t) = ShapeType types t
  ShapeExpression types (index x y) = (16 ≤ level x) × ShapeExpression types x × ShapeExpression types y
  ShapeExpression types (call f xs) = (16 ≤ level f) × ShapeExpression types f × ShapeArguments types xs
  ShapeExpression types (dot x n) = (16 ≤ level x) × IsOrdinary types n × ShapeExpression types x
  ShapeExpression types (arrow x n) = (16 ≤ level x) × IsOrdinary types n × ShapeExpression types x
  ShapeExpression types (after o x) = (16 ≤ level x) × ShapeExpression types x
  ShapeExpression types (name n) = IsOrdinary types n
  ShapeExpression types (integer n) = ⊤
  ShapeExpression types (character n) = ⊤
  ShapeExpression types (text ns) = 1 ≤ length ns
  ShapeExpression types (paren x) = ShapeExpression types x

  pub ShapeArguments : List Name → Expressions → Type 0
  ShapeArguments types no_expressions = ⊤
  ShapeArguments types (expressions x xs) = (2 ≤ level x) × ShapeExpression types x × ShapeArguments types xs

  pub ShapeSizes : List Name → Sizes → Type 0
  ShapeSizes types no_sizes = ⊤
  ShapeSizes types (open_size xs) = ShapeSizes types xs
  ShapeSizes types (size x xs) = (3 ≤ level x) × ShapeExpression types x × ShapeSizes types xs

  pub ShapeType : List Name → TypeTree → Type 0
  ShapeType types (typed ws b) = NamesType ws × ShapeSpecifiers types ws × ShapeBare types b

  pub ShapeSpecifiers : List Name → Specifiers → Type 0
  ShapeSpecifiers types no_specifiers = ⊤
  ShapeSpecifiers types (specifiers w ws) = ShapeSpecifier types w × ShapeSpecifiers types ws

  pub ShapeSpecifier : List Name → Specifier → Type 0
  ShapeSpecifier types (type_name n) = IsTypeName types n
  ShapeSpecifier types (struct_of t ms) = HasMember ms × ShapeMembers types ms
  ShapeSpecifier types (enum_of t es c) = HasEnumerator es × ShapeEnumerators types es
  ShapeSpecifier types _ = ⊤

  pub ShapeMembers : List Name → Members → Type 0
  ShapeMembers types no_members = ⊤
  ShapeMembers types (member ws ds ms) = NamesType ws × ShapeSpecifiers types ws × HasDeclarator ds × ShapeDeclarators types ds × ShapeMembers types ms

  pub ShapeDeclarators : List Name → Declarators → Type 0
  ShapeDeclarators types no_declarators = ⊤
  ShapeDeclarators types (declarators d ds) = IsNoFunction d × ShapeDeclarator types d × ShapeDeclarators types ds

  pub ShapeEnumerators : List Name → Enumerators → Type 0
  ShapeEnumerators types no_enumerators = ⊤
  ShapeEnumerators types (enumerator n es) = IsOrdinary types n × ShapeEnumerators types es
  ShapeEnumerators types (enumerator_with n x es) = IsOrdinary types n × (3 ≤ level x) × ShapeExpression types x × ShapeEnumerators types es

  pub ShapeDeclarator : List Name → DeclaratorTree → Type 0
  ShapeDeclarator types (plain ss n) = IsOrdinary types n
  ShapeDeclarator types (array ss n xs) = IsOrdinary types n × AtLeastOne xs × ShapeSizes types xs
  ShapeDeclarator types (function ss n ps v) = IsOrdinary types n × FitsWord v ps × IsNotVoid ps × ShapeParameters types ps
  ShapeDeclarator types (pointer ss qs n xs ps v) = IsOrdinary types n × AtMostOne xs × ShapeSizes types xs × FitsWord v ps × IsNotVoid ps × ShapeParameters types ps

  pub ShapeParameters : List Name → Parameters → Type 0
  ShapeParameters types no_parameters = ⊤
  ShapeParameters types (parameters ws f ps) = NamesType ws × ShapeSpecifiers types ws × ShapeForm types f × ShapeParameters types ps

  pub ShapeForm : List Name → ParameterForm → Type 0
  ShapeForm types (named_form d) = IsNoFunction d × ShapeDeclarator types d
  ShapeForm types (bare_form b) = ShapeBare types b

  pub ShapeBare : List Name → BareTree → Type 0
  ShapeBare types (bare_stars ss) = ⊤
  ShapeBare types (bare_pointer ss qs ps v) = FitsWord v ps × IsNotVoid ps × ShapeParameters types ps
