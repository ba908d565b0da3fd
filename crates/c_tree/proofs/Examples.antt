-- Declarations, statements and programs of the grammar: what they spell, and that they have its shape.
use Rattle.std.proofs.Common.{◌≡◌, List, [], ◌∷◌, Some, None, Bool, true, false, length, refl, rules, codes}
use Rattle.c_tree.specs.declared.tree.AssignOp.TheVariants as assign_op
use Rattle.c_tree.specs.declared.tree.BinaryOp.TheVariants as op
use Rattle.c_tree.specs.declared.tree.UnaryOp.TheVariants as unary_op
use Rattle.c_tree.specs.declared.tree.StepOp.TheVariants as step_op
use Rattle.c_tree.specs.declared.tree.Storage.{Storage}
use Rattle.c_tree.specs.declared.tree.Storage.TheVariants as storage
use Rattle.c_tree.specs.Marks.{keyword, name_token, integer_token, mark}
use Rattle.c_tree.specs.Spelling.{spell_expression, spell_declaration, spell_statement, spell}
use Rattle.c_tree.specs.TypeWords.{built_in_types}
use Rattle.c_tree.specs.ExpressionShape.{ShapeExpression}
use Rattle.c_tree.specs.Shape.{Scope, ShapeDeclaration, ShapeStatement, Shape, outside}
use Rattle.c_tree.specs.Nodes.{nodes}
use Rattle.c_tree.specs.Depth.{depth}
use Rattle.c_tree.specs.Tree.{Expression, assign, choose, binary, cast, unary, size_of_type, index, call, dot, arrow, after, name, integer, paren, no_expressions, expressions, no_sizes, size, typed, Specifiers, no_specifiers, specifiers, struct_of, enum_of, no_members, member, no_declarators, declarators, no_enumerators, enumerator, enumerator_with, DeclaratorTree, plain, pointer, Parameters, no_parameters, parameters, bare_form, bare_stars, Initializer, single, listed, no_initializers, initializers, NamedTree, DeclarationTree, start_declaration, StatementTree, block, expression_statement, if_statement, if_else_statement, while_statement, do_statement, for_statement, switch_statement, case_label, default_label, named_label, break_statement, goto_statement, no_statements, statements, FunctionTree, ItemTree, function_item, declaration_item, const_word, void_word, int_word, long_word, unsigned_word, type_name}

abbrev a : Expression
a = name (codes "a")

abbrev b : Expression
b = name (codes "b")

abbrev c : Expression
c = name (codes "c")

abbrev x : Expression
x = name (codes "x")

abbrev one : Expression
one = integer (codes "1")

abbrev two : Expression
two = integer (codes "2")

abbrev void : Specifiers
void = specifiers void_word no_specifiers

abbrev int : Specifiers
int = specifiers int_word no_specifiers

-- a declaration with these names
abbrev declares : Storage → Specifiers → List NamedTree → DeclarationTree
declares s ws ns = record { storage = s; specs = ws; names = ns }

abbrev bare_name : DeclaratorTree → NamedTree
bare_name d = record { declarator = d; init = None }

abbrev with_init : DeclaratorTree → Initializer → NamedTree
with_init d i = record { declarator = d; init = Some i }

abbrev empty : Scope
empty = record { types = []; others = [] }

abbrev does : Expression → StatementTree
does e = expression_statement (Some e)

abbrev void_function : Parameters → Bool → StatementTree → FunctionTree
void_function ps word body = record { storage = storage.Nothing; specs = void; stars = []; name = codes "f"; params = ps; word = word; body = body }

-- a - b - c
abbrev differences : Expression
differences =
    binary op.Sub (binary op.Sub a b) c

pub differences-spelt : spell_expression differences ≡
    name_token (codes "a") ∷ mark (codes "-") ∷ name_token (codes "b") ∷ mark (codes "-") ∷ name_token (codes "c") ∷ []
differences-spelt = refl

pub differences-shaped : ShapeExpression [] differences
differences-shaped = search rules

-- a = b = c
abbrev assignments : Expression
assignments =
    assign assign_op.Plain a (assign assign_op.Plain b c)

pub assignments-spelt : spell_expression assignments ≡
    name_token (codes "a") ∷ mark (codes "=") ∷ name_token (codes "b") ∷ mark (codes "=") ∷ name_token (codes "c") ∷ []
assignments-spelt = refl

pub assignments-shaped : ShapeExpression [] assignments
assignments-shaped = search rules

-- a ? b : c ? 1 : 2
abbrev choices : Expression
choices =
    choose a b (choose c one two)

pub choices-spelt : spell_expression choices ≡
    name_token (codes "a") ∷ mark (codes "?") ∷ name_token (codes "b") ∷ mark (codes ":") ∷ name_token (codes "c") ∷ mark (codes "?") ∷ integer_token (codes "1") ∷ mark (codes ":") ∷ integer_token (codes "2") ∷ []
choices-spelt = refl

pub choices-shaped : ShapeExpression [] choices
choices-shaped = search rules

-- sizeof ( int )
abbrev size_of_a_type : Expression
size_of_a_type =
    size_of_type (typed int (bare_stars []))

pub size_of_a_type-spelt : spell_expression size_of_a_type ≡
    keyword (codes "sizeof") ∷ mark (codes "(") ∷ keyword (codes "int") ∷ mark (codes ")") ∷ []
size_of_a_type-spelt = refl

pub size_of_a_type-shaped : ShapeExpression [] size_of_a_type
size_of_a_type-shaped = search rules

-- ( int ) - x
abbrev cast_of_a_minus : Expression
cast_of_a_minus =
    cast (typed int (bare_stars [])) (unary unary_op.Minus x)

pub cast_of_a_minus-spelt : spell_expression cast_of_a_minus ≡
    mark (codes "(") ∷ keyword (codes "int") ∷ mark (codes ")") ∷ mark (codes "-") ∷ name_token (codes "x") ∷ []
cast_of_a_minus-spelt = refl

pub cast_of_a_minus-shaped : ShapeExpression [] cast_of_a_minus
cast_of_a_minus-shaped = search rules

-- x [ 1 ] ( a , b ) . y -> z ++
abbrev postfix : Expression
postfix =
    after step_op.Up (arrow (dot (call (index x one) (expressions a (expressions b no_expressions))) (codes "y")) (codes "z"))

pub postfix-spelt : spell_expression postfix ≡
    name_token (codes "x") ∷ mark (codes "[") ∷ integer_token (codes "1") ∷ mark (codes "]") ∷ mark (codes "(") ∷ name_token (codes "a") ∷ mark (codes ",") ∷ name_token (codes "b") ∷ mark (codes ")") ∷ mark (codes ".") ∷ name_token (codes "y") ∷ mark (codes "->") ∷ name_token (codes "z") ∷ mark (codes "++") ∷ []
postfix-spelt = refl

pub postfix-shaped : ShapeExpression [] postfix
postfix-shaped = search rules

-- ( a + b ) * c
abbrev product_of_a_sum : Expression
product_of_a_sum =
    binary op.Mul (paren (binary op.Add a b)) c

pub product_of_a_sum-spelt : spell_expression product_of_a_sum ≡
    mark (codes "(") ∷ name_token (codes "a") ∷ mark (codes "+") ∷ name_token (codes "b") ∷ mark (codes ")") ∷ mark (codes "*") ∷ name_token (codes "c") ∷ []
product_of_a_sum-spelt = refl

pub product_of_a_sum-shaped : ShapeExpression [] product_of_a_sum
product_of_a_sum-shaped = search rules

-- int * ( * f ) ( void ) ;
abbrev pointer_to_function : DeclarationTree
pointer_to_function =
    declares storage.Nothing int (bare_name (pointer ([] ∷ []) [] (codes "f") no_sizes no_parameters true) ∷ [])

pub pointer_to_function-spelt : spell_declaration pointer_to_function ≡
    keyword (codes "int") ∷ mark (codes "*") ∷ mark (codes "(") ∷ mark (codes "*") ∷ name_token (codes "f") ∷ mark (codes ")") ∷ mark (codes "(") ∷ keyword (codes "void") ∷ mark (codes ")") ∷ mark (codes ";") ∷ []
pointer_to_function-spelt = refl

pub pointer_to_function-shaped : ShapeDeclaration pointer_to_function empty
pointer_to_function-shaped = search rules

-- int ( * f [ 2 ] ) ( int ) ;
abbrev array_of_pointers : DeclarationTree
array_of_pointers =
    declares storage.Nothing int (bare_name (pointer [] [] (codes "f") (size two no_sizes) (parameters int (bare_form (bare_stars [])) no_parameters) false) ∷ [])

pub array_of_pointers-spelt : spell_declaration array_of_pointers ≡
    keyword (codes "int") ∷ mark (codes "(") ∷ mark (codes "*") ∷ name_token (codes "f") ∷ mark (codes "[") ∷ integer_token (codes "2") ∷ mark (codes "]") ∷ mark (codes ")") ∷ mark (codes "(") ∷ keyword (codes "int") ∷ mark (codes ")") ∷ mark (codes ";") ∷ []
array_of_pointers-spelt = refl

pub array_of_pointers-shaped : ShapeDeclaration array_of_pointers empty
array_of_pointers-shaped = search rules

-- struct s { int a , * b ; } x = { . a = 1 , 2 , } ;
abbrev struct_with_value : DeclarationTree
struct_with_value =
    declares storage.Nothing (specifiers (struct_of (Some (codes "s")) (member int (declarators (plain [] (codes "a")) (declarators (plain ([] ∷ []) (codes "b")) no_declarators)) no_members)) no_specifiers) (with_init (plain [] (codes "x")) (listed (initializers (Some (codes "a")) (single one) (initializers None (single two) no_initializers)) true) ∷ [])

pub struct_with_value-spelt : spell_declaration struct_with_value ≡
    keyword (codes "struct") ∷ name_token (codes "s") ∷ mark (codes "{") ∷ keyword (codes "int") ∷ name_token (codes "a") ∷ mark (codes ",") ∷ mark (codes "*") ∷ name_token (codes "b") ∷ mark (codes ";") ∷ mark (codes "}") ∷ name_token (codes "x") ∷ mark (codes "=") ∷ mark (codes "{") ∷ mark (codes ".") ∷ name_token (codes "a") ∷ mark (codes "=") ∷ integer_token (codes "1") ∷ mark (codes ",") ∷ integer_token (codes "2") ∷ mark (codes ",") ∷ mark (codes "}") ∷ mark (codes ";") ∷ []
struct_with_value-spelt = refl

pub struct_with_value-shaped : ShapeDeclaration struct_with_value empty
struct_with_value-shaped = search rules

-- static long const unsigned long int x ;
abbrev words_in_any_order : DeclarationTree
words_in_any_order =
    declares storage.Static (specifiers long_word (specifiers const_word (specifiers unsigned_word (specifiers long_word (specifiers int_word no_specifiers))))) (bare_name (plain [] (codes "x")) ∷ [])

pub words_in_any_order-spelt : spell_declaration words_in_any_order ≡
    keyword (codes "static") ∷ keyword (codes "long") ∷ keyword (codes "const") ∷ keyword (codes "unsigned") ∷ keyword (codes "long") ∷ keyword (codes "int") ∷ name_token (codes "x") ∷ mark (codes ";") ∷ []
words_in_any_order-spelt = refl

pub words_in_any_order-shaped : ShapeDeclaration words_in_any_order empty
words_in_any_order-shaped = search rules

-- enum e { A , B = 2 , } ;
abbrev enumeration : DeclarationTree
enumeration =
    declares storage.Nothing (specifiers (enum_of (Some (codes "e")) (enumerator (codes "A") (enumerator_with (codes "B") two no_enumerators)) true) no_specifiers) []

pub enumeration-spelt : spell_declaration enumeration ≡
    keyword (codes "enum") ∷ name_token (codes "e") ∷ mark (codes "{") ∷ name_token (codes "A") ∷ mark (codes ",") ∷ name_token (codes "B") ∷ mark (codes "=") ∷ integer_token (codes "2") ∷ mark (codes ",") ∷ mark (codes "}") ∷ mark (codes ";") ∷ []
enumeration-spelt = refl

pub enumeration-shaped : ShapeDeclaration enumeration empty
enumeration-shaped = search rules

-- if ( a ) if ( b ) c ; else x ;
abbrev inner_else : StatementTree
inner_else =
    if_statement a (if_else_statement b (does c) (does x))

pub inner_else-spelt : spell_statement inner_else ≡
    keyword (codes "if") ∷ mark (codes "(") ∷ name_token (codes "a") ∷ mark (codes ")") ∷ keyword (codes "if") ∷ mark (codes "(") ∷ name_token (codes "b") ∷ mark (codes ")") ∷ name_token (codes "c") ∷ mark (codes ";") ∷ keyword (codes "else") ∷ name_token (codes "x") ∷ mark (codes ";") ∷ []
inner_else-spelt = refl

pub inner_else-shaped : ShapeStatement [] inner_else outside
inner_else-shaped = search rules

-- while ( a ) do b ; while ( c ) ;
abbrev loops : StatementTree
loops =
    while_statement a (do_statement (does b) c)

pub loops-spelt : spell_statement loops ≡
    keyword (codes "while") ∷ mark (codes "(") ∷ name_token (codes "a") ∷ mark (codes ")") ∷ keyword (codes "do") ∷ name_token (codes "b") ∷ mark (codes ";") ∷ keyword (codes "while") ∷ mark (codes "(") ∷ name_token (codes "c") ∷ mark (codes ")") ∷ mark (codes ";") ∷ []
loops-spelt = refl

pub loops-shaped : ShapeStatement [] loops outside
loops-shaped = search rules

-- for ( int i = 1 ; i < 2 ; i ++ ) break ;
abbrev for_with_declaration : StatementTree
for_with_declaration =
    for_statement (start_declaration (declares storage.Nothing int (with_init (plain [] (codes "i")) (single one) ∷ []))) (Some (binary op.Less (name (codes "i")) two)) (Some (after step_op.Up (name (codes "i")))) break_statement

pub for_with_declaration-spelt : spell_statement for_with_declaration ≡
    keyword (codes "for") ∷ mark (codes "(") ∷ keyword (codes "int") ∷ name_token (codes "i") ∷ mark (codes "=") ∷ integer_token (codes "1") ∷ mark (codes ";") ∷ name_token (codes "i") ∷ mark (codes "<") ∷ integer_token (codes "2") ∷ mark (codes ";") ∷ name_token (codes "i") ∷ mark (codes "++") ∷ mark (codes ")") ∷ keyword (codes "break") ∷ mark (codes ";") ∷ []
for_with_declaration-spelt = refl

pub for_with_declaration-shaped : ShapeStatement [] for_with_declaration outside
for_with_declaration-shaped = search rules

-- switch ( x ) { case 1 : break ; default : ; }
abbrev cases : StatementTree
cases =
    switch_statement x (block (statements (case_label one) (statements break_statement (statements default_label (statements (expression_statement None) no_statements)))))

pub cases-spelt : spell_statement cases ≡
    keyword (codes "switch") ∷ mark (codes "(") ∷ name_token (codes "x") ∷ mark (codes ")") ∷ mark (codes "{") ∷ keyword (codes "case") ∷ integer_token (codes "1") ∷ mark (codes ":") ∷ keyword (codes "break") ∷ mark (codes ";") ∷ keyword (codes "default") ∷ mark (codes ":") ∷ mark (codes ";") ∷ mark (codes "}") ∷ []
cases-spelt = refl

pub cases-shaped : ShapeStatement [] cases outside
cases-shaped = search rules

-- typedef int T ; T x ;
abbrev type_of_its_own : List ItemTree
type_of_its_own =
    declaration_item (declares storage.Typedef int (bare_name (plain [] (codes "T")) ∷ [])) ∷ declaration_item (declares storage.Nothing (specifiers (type_name (codes "T")) no_specifiers) (bare_name (plain [] (codes "x")) ∷ [])) ∷ []

pub type_of_its_own-spelt : spell type_of_its_own ≡
    keyword (codes "typedef") ∷ keyword (codes "int") ∷ name_token (codes "T") ∷ mark (codes ";") ∷ name_token (codes "T") ∷ name_token (codes "x") ∷ mark (codes ";") ∷ []
type_of_its_own-spelt = refl

pub type_of_its_own-shaped : Shape type_of_its_own
unfolding built_in_types
type_of_its_own-shaped = search rules

-- void f ( void ) { l : goto l ; }
abbrev function_and_label : List ItemTree
function_and_label =
    function_item (void_function no_parameters true (block (statements (named_label (codes "l")) (statements (goto_statement (codes "l")) no_statements)))) ∷ []

pub function_and_label-spelt : spell function_and_label ≡
    keyword (codes "void") ∷ name_token (codes "f") ∷ mark (codes "(") ∷ keyword (codes "void") ∷ mark (codes ")") ∷ mark (codes "{") ∷ name_token (codes "l") ∷ mark (codes ":") ∷ keyword (codes "goto") ∷ name_token (codes "l") ∷ mark (codes ";") ∷ mark (codes "}") ∷ []
function_and_label-spelt = refl

pub function_and_label-shaped : Shape function_and_label
unfolding built_in_types
function_and_label-shaped = search rules

pub function_and_label-count : length (nodes function_and_label) ≡ 5
function_and_label-count = refl

pub function_and_label-depth : depth function_and_label ≡ 4
function_and_label-depth = refl
