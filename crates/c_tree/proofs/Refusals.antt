-- Trees that break one condition of shape each, and are refused.
use Rattle.std.proofs.Common.{◌≡◌, List, [], ◌∷◌, Some, None, Bool, true, false, refl, arith, codes}
use Rattle.c_tree.specs.declared.tree.AssignOp.TheVariants as assign_op
use Rattle.c_tree.specs.declared.tree.BinaryOp.TheVariants as op
use Rattle.c_tree.specs.declared.tree.UnaryOp.TheVariants as unary_op
use Rattle.c_tree.specs.declared.tree.StepOp.TheVariants as step_op
use Rattle.c_tree.specs.declared.tree.Storage.{Storage}
use Rattle.c_tree.specs.declared.tree.Storage.TheVariants as storage
use Rattle.c_tree.specs.TypeWords.{NamesType}
use Rattle.c_tree.specs.ExpressionShape.{ShapeExpression, ShapeSpecifier, ShapeDeclarator, ShapeParameters}
use Rattle.c_tree.specs.Shape.{Scope, ShapeInit, ShapeDeclaration, ShapeStatement, ShapeFunction, outside}
use Rattle.c_tree.specs.Tree.{Expression, comma, assign, choose, binary, cast, unary, before, size_of, index, call, dot, arrow, after, name, integer, text, no_expressions, expressions, no_sizes, size, typed, Specifiers, no_specifiers, specifiers, struct_of, enum_of, no_members, member, no_declarators, declarators, no_enumerators, enumerator_with, DeclaratorTree, plain, array, function, pointer, Parameters, no_parameters, parameters, named_form, bare_form, bare_stars, Initializer, single, listed, no_initializers, NamedTree, DeclarationTree, start_declaration, StatementTree, block, declaration, expression_statement, if_statement, if_else_statement, while_statement, for_statement, switch_statement, case_label, default_label, named_label, break_statement, continue_statement, goto_statement, no_statements, statements, FunctionTree, const_word, void_word, char_word, short_word, int_word, long_word, signed_word, unsigned_word, type_name}

abbrev a : Expression
a = name (codes "a")

abbrev b : Expression
b = name (codes "b")

abbrev c : Expression
c = name (codes "c")

abbrev x : Expression
x = name (codes "x")

abbrev one : Expression
one = integer (codes "1")

abbrev two : Expression
two = integer (codes "2")

abbrev void : Specifiers
void = specifiers void_word no_specifiers

abbrev int : Specifiers
int = specifiers int_word no_specifiers

-- a declaration with these names
abbrev declares : Storage → Specifiers → List NamedTree → DeclarationTree
declares s ws ns = record { storage = s; specs = ws; names = ns }

abbrev bare_name : DeclaratorTree → NamedTree
bare_name d = record { declarator = d; init = None }

abbrev with_init : DeclaratorTree → Initializer → NamedTree
with_init d i = record { declarator = d; init = Some i }

abbrev empty : Scope
empty = record { types = []; others = [] }

abbrev does : Expression → StatementTree
does e = expression_statement (Some e)

abbrev void_function : Parameters → Bool → StatementTree → FunctionTree
void_function ps word body = record { storage = storage.Nothing; specs = void; stars = []; name = codes "f"; params = ps; word = word; body = body }

not_true : false ≡ true → ⊥
not_true e = cc

not_false : true ≡ false → ⊥
not_false e = cc

-- an operand of the comma is no comma on its right
pub comma_on_the_right-refused : ShapeExpression [] (comma a (comma b c)) → ⊥
comma_on_the_right-refused s = omega (arith, s.1)

-- the left side of an assignment is unary
pub assigned_sum-refused : ShapeExpression [] (assign assign_op.Plain (binary op.Add a b) c) → ⊥
assigned_sum-refused s = omega (arith, s.0)

-- the right side of an assignment is no comma
pub assigned_comma-refused : ShapeExpression [] (assign assign_op.Plain a (comma b c)) → ⊥
assigned_comma-refused s = omega (arith, s.1)

-- the condition of a choice is no assignment
pub chosen_by_assignment-refused : ShapeExpression [] (choose (assign assign_op.Plain a b) b c) → ⊥
chosen_by_assignment-refused s = omega (arith, s.0)

-- the last operand of a choice is no assignment
pub chosen_assignment-refused : ShapeExpression [] (choose a b (assign assign_op.Plain b c)) → ⊥
chosen_assignment-refused s = omega (arith, s.2)

-- a difference on the right of a difference stands in brackets
pub difference_on_the_right-refused : ShapeExpression [] (binary op.Sub a (binary op.Sub b c)) → ⊥
difference_on_the_right-refused s = omega (arith, s.1)

-- a sum in a product stands in brackets
pub sum_in_a_product-refused : ShapeExpression [] (binary op.Mul (binary op.Add a b) c) → ⊥
sum_in_a_product-refused s = omega (arith, s.0)

-- a cast takes no sum
pub cast_sum-refused : ShapeExpression [] (cast (typed int (bare_stars [])) (binary op.Add a b)) → ⊥
cast_sum-refused s = omega (arith, s.0)

-- a unary operator takes no sum
pub negated_sum-refused : ShapeExpression [] (unary unary_op.Minus (binary op.Add a b)) → ⊥
negated_sum-refused s = omega (arith, s.0)

-- a step before takes no cast
pub stepped_cast-refused : ShapeExpression [] (before step_op.Up (cast (typed int (bare_stars [])) a)) → ⊥
stepped_cast-refused s = omega (arith, s.0)

-- sizeof takes no cast
pub size_of_cast-refused : ShapeExpression [] (size_of (cast (typed int (bare_stars [])) a)) → ⊥
size_of_cast-refused s = omega (arith, s.0)

-- an index takes a postfix expression
pub indexed_unary-refused : ShapeExpression [] (index (unary unary_op.Follow a) one) → ⊥
indexed_unary-refused s = omega (arith, s.0)

-- a call takes a postfix expression
pub called_unary-refused : ShapeExpression [] (call (unary unary_op.Follow a) no_expressions) → ⊥
called_unary-refused s = omega (arith, s.0)

-- a member takes a postfix expression
pub member_of_unary-refused : ShapeExpression [] (dot (unary unary_op.Follow a) (codes "m")) → ⊥
member_of_unary-refused s = omega (arith, s.0)

-- an arrow takes a postfix expression
pub arrow_of_unary-refused : ShapeExpression [] (arrow (unary unary_op.Follow a) (codes "m")) → ⊥
arrow_of_unary-refused s = omega (arith, s.0)

-- a step behind takes a postfix expression
pub step_after_unary-refused : ShapeExpression [] (after step_op.Up (unary unary_op.Follow a)) → ⊥
step_after_unary-refused s = omega (arith, s.0)

-- an argument is no comma
pub comma_argument-refused : ShapeExpression [] (call a (expressions (comma b c) no_expressions)) → ⊥
comma_argument-refused s = omega (arith, s.2.0)

-- a text has a string
pub no_strings-refused : ShapeExpression [] (text []) → ⊥
no_strings-refused s = omega (arith, s)

-- a type is no expression
pub type_as_value-refused : ShapeExpression (codes "T" ∷ []) (name (codes "T")) → ⊥
type_as_value-refused s = cc

-- a type names no member
pub type_as_member-refused : ShapeExpression (codes "T" ∷ []) (dot (name (codes "a")) (codes "T")) → ⊥
type_as_member-refused s = not_false s.1

-- a type name is known
pub unknown_type-refused : ShapeSpecifier [] (type_name (codes "T")) → ⊥
unknown_type-refused s = cc

-- the sign of a char stands before it
pub char_unsigned-refused : NamesType (specifiers char_word (specifiers unsigned_word no_specifiers)) → ⊥
char_unsigned-refused s = cc

-- an integer is not short and long
pub short_long-refused : NamesType (specifiers short_word (specifiers long_word no_specifiers)) → ⊥
short_long-refused s = cc

-- int stands once
pub int_int-refused : NamesType (specifiers int_word (specifiers int_word no_specifiers)) → ⊥
int_int-refused s = cc

-- long stands at most twice
pub three_longs-refused : NamesType (specifiers long_word (specifiers long_word (specifiers long_word no_specifiers))) → ⊥
three_longs-refused s = cc

-- an integer has one sign
pub two_signs-refused : NamesType (specifiers signed_word (specifiers unsigned_word no_specifiers)) → ⊥
two_signs-refused s = cc

-- a qualifier is no type
pub qualifier_alone-refused : NamesType (specifiers const_word no_specifiers) → ⊥
qualifier_alone-refused s = cc

-- a type name stands alone
pub int_and_type-refused : NamesType (specifiers int_word (specifiers (type_name (codes "T")) no_specifiers)) → ⊥
int_and_type-refused s = cc

-- a char has no length
pub long_char-refused : NamesType (specifiers long_word (specifiers char_word no_specifiers)) → ⊥
long_char-refused s = cc

-- specifiers have a word
pub no_words-refused : NamesType (no_specifiers) → ⊥
no_words-refused s = cc

-- a struct has a member
pub empty_struct-refused : ShapeSpecifier [] (struct_of None no_members) → ⊥
empty_struct-refused s = s.0

-- an enum has an enumerator
pub empty_enum-refused : ShapeSpecifier [] (enum_of None no_enumerators false) → ⊥
empty_enum-refused s = s.0

-- a member has a declarator
pub member_without_name-refused : ShapeSpecifier [] (struct_of None (member int no_declarators no_members)) → ⊥
member_without_name-refused s = s.1.2

-- a member is no function
pub function_member-refused : ShapeSpecifier [] (struct_of None (member int (declarators (function [] (codes "f") no_parameters true) no_declarators) no_members)) → ⊥
function_member-refused s = s.1.3.0

-- a member has a type
pub member_of_no_type-refused : ShapeSpecifier [] (struct_of None (member no_specifiers (declarators (plain [] (codes "m")) no_declarators) no_members)) → ⊥
member_of_no_type-refused s = not_true s.1.0

-- the value of an enumerator is no assignment
pub enumerated_assignment-refused : ShapeSpecifier [] (enum_of None (enumerator_with (codes "A") (assign assign_op.Plain a b) no_enumerators) false) → ⊥
enumerated_assignment-refused s = omega (arith, s.1.1)

-- an array has brackets
pub array_without_size-refused : ShapeDeclarator [] (array [] (codes "a") no_sizes) → ⊥
array_without_size-refused s = s.1

-- a size is no assignment
pub size_by_assignment-refused : ShapeDeclarator [] (array [] (codes "a") (size (assign assign_op.Plain a b) no_sizes)) → ⊥
size_by_assignment-refused s = omega (arith, s.2.0)

-- a pointer declarator has at most one array
pub pointers_in_two_arrays-refused : ShapeDeclarator [] (pointer [] [] (codes "a") (size one (size two no_sizes)) no_parameters true) → ⊥
pointers_in_two_arrays-refused s = s.1

-- the word void stands before no parameter
pub void_and_parameter-refused : ShapeDeclarator [] (function [] (codes "f") (parameters int (bare_form (bare_stars [])) no_parameters) true) → ⊥
void_and_parameter-refused s = s.1

-- the one word void is no parameter
pub void_parameter-refused : ShapeDeclarator [] (function [] (codes "f") (parameters void (bare_form (bare_stars [])) no_parameters) false) → ⊥
void_parameter-refused s = s.2

-- a parameter is no function
pub function_parameter-refused : ShapeParameters [] (parameters int (named_form (function [] (codes "g") no_parameters true)) no_parameters) → ⊥
function_parameter-refused s = s.2.0

-- a type is declared as nothing else
pub type_as_name-refused : ShapeDeclarator (codes "T" ∷ []) (plain [] (codes "T")) → ⊥
type_as_name-refused s = cc

-- a declaration without names has a struct or an enum
pub nothing_declared-refused : ShapeDeclaration (declares storage.Nothing int []) empty → ⊥
nothing_declared-refused s = not_true (s.2 refl)

-- a typedef has no initialiser
pub type_with_value-refused : ShapeDeclaration (declares storage.Typedef int (with_init (plain [] (codes "T")) (single one) ∷ [])) empty → ⊥
type_with_value-refused s = s.3.0.2

-- a function has no initialiser
pub function_with_value-refused : ShapeDeclaration (declares storage.Nothing int (with_init (function [] (codes "f") no_parameters true) (single one) ∷ [])) empty → ⊥
function_with_value-refused s = s.3.0.2

-- a typedef declares no name that was declared before
pub type_declared_before-refused : ShapeDeclaration (declares storage.Typedef int (bare_name (plain [] (codes "T")) ∷ [])) (record { types = []; others = codes "T" ∷ [] }) → ⊥
type_declared_before-refused s = not_false s.3.0.1.0

-- nor one that its own parameters declare
pub type_of_its_parameter-refused : ShapeDeclaration (declares storage.Typedef int (bare_name (function [] (codes "T") (parameters int (named_form (plain [] (codes "T"))) no_parameters) false) ∷ [])) empty → ⊥
type_of_its_parameter-refused s = not_false s.3.0.1.1

-- nor one that its specifiers declare
pub type_of_its_member-refused : ShapeDeclaration (declares storage.Typedef (specifiers (struct_of None (member int (declarators (plain [] (codes "a")) no_declarators) no_members)) no_specifiers) (bare_name (plain [] (codes "a")) ∷ [])) empty → ⊥
type_of_its_member-refused s = not_false s.3.0.1.0

-- a typedef declares a name once
pub type_twice-refused : ShapeDeclaration (declares storage.Typedef int (bare_name (plain [] (codes "T")) ∷ bare_name (plain [] (codes "T")) ∷ [])) empty → ⊥
type_twice-refused s = not_false s.3.1.0.0

-- a list of initialisers has a part
pub empty_list-refused : ShapeInit [] (listed no_initializers false) → ⊥
empty_list-refused s = s.0

-- an initialiser is no comma
pub initial_comma-refused : ShapeInit [] (single (comma a b)) → ⊥
initial_comma-refused s = omega (arith, s.0)

-- an if without else is not the last part of a then-branch
pub open_if_before_else-refused : ShapeStatement [] (if_else_statement a (if_statement b (does c)) (does x)) outside → ⊥
open_if_before_else-refused s = not_false s.0

-- nor the last part of its last part
pub open_if_in_a_loop_before_else-refused : ShapeStatement [] (if_else_statement a (while_statement b (if_statement c (does x))) (does x)) outside → ⊥
open_if_in_a_loop_before_else-refused s = not_false s.0

-- break stands in a loop or a switch
pub break_alone-refused : ShapeStatement [] (break_statement) outside → ⊥
break_alone-refused s = cc

-- continue stands in a loop
pub continue_alone-refused : ShapeStatement [] (continue_statement) outside → ⊥
continue_alone-refused s = cc

-- a switch is no loop
pub continue_in_a_switch-refused : ShapeStatement [] (switch_statement a (block (statements continue_statement no_statements))) outside → ⊥
continue_in_a_switch-refused s = not_true s.1.0

-- a case stands in a switch
pub case_alone-refused : ShapeStatement [] (block (statements (case_label one) no_statements)) outside → ⊥
case_alone-refused s = not_true s.0.0

-- a case stands directly in the block of a switch
pub case_in_a_block-refused : ShapeStatement [] (switch_statement a (block (statements (block (statements (case_label one) no_statements)) no_statements))) outside → ⊥
case_in_a_block-refused s = not_true s.1.0.0.0

-- so does default
pub default_in_a_branch-refused : ShapeStatement [] (switch_statement a (block (statements (if_statement b default_label) no_statements))) outside → ⊥
default_in_a_branch-refused s = not_true s.1.0.1

-- the value of a case is no assignment
pub case_by_assignment-refused : ShapeStatement [] (switch_statement a (block (statements (case_label (assign assign_op.Plain a b)) no_statements))) outside → ⊥
case_by_assignment-refused s = omega (arith, s.1.0.1)

-- a label stands directly in a block
pub label_as_branch-refused : ShapeStatement [] (if_statement a (named_label (codes "l"))) outside → ⊥
label_as_branch-refused s = not_true s.1.0

-- a declaration stands directly in a block
pub declaration_as_branch-refused : ShapeStatement [] (while_statement a (declaration (declares storage.Nothing int (bare_name (plain [] (codes "x")) ∷ [])))) outside → ⊥
declaration_as_branch-refused s = not_true s.1.0

-- a typedef stands outside functions
pub type_in_a_block-refused : ShapeStatement [] (block (statements (declaration (declares storage.Typedef int (bare_name (plain [] (codes "T")) ∷ []))) no_statements)) outside → ⊥
type_in_a_block-refused s = s.0.1.0

-- and outside the parts of a for
pub type_in_a_for-refused : ShapeStatement [] (for_statement (start_declaration (declares storage.Typedef int (bare_name (plain [] (codes "T")) ∷ []))) None None (does a)) outside → ⊥
type_in_a_for-refused s = s.0.0

-- the body of a switch is a block
pub switch_without_block-refused : ShapeStatement [] (switch_statement a (does b)) outside → ⊥
switch_without_block-refused s = s.1

-- the body of a function is a block
pub body_without_block-refused : ShapeFunction [] (void_function no_parameters true (does a)) → ⊥
body_without_block-refused s = s.7

-- a function is no typedef
pub typedef_function-refused : ShapeFunction [] (record { storage = storage.Typedef; specs = void; stars = []; name = codes "f"; params = no_parameters; word = true; body = block no_statements }) → ⊥
typedef_function-refused s = s.0

-- a label is no type
pub goto_a_type-refused : ShapeStatement (codes "T" ∷ []) (goto_statement (codes "T")) outside → ⊥
goto_a_type-refused s = cc
