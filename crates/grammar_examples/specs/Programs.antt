-- The trees of small programs.
use Rattle.std.specs.Prelude.{List, [], ◌∷◌, Some, None, true, false, codes}
use Rattle.c_tree.specs.declared.tree.AssignOp.TheVariants as assign_op
use Rattle.c_tree.specs.declared.tree.BinaryOp.TheVariants as op
use Rattle.c_tree.specs.declared.tree.UnaryOp.TheVariants as unary_op
use Rattle.c_tree.specs.declared.tree.StepOp.TheVariants as step_op
use Rattle.c_tree.specs.declared.tree.Storage.{Storage}
use Rattle.c_tree.specs.declared.tree.Storage.TheVariants as storage
use Rattle.c_tree.specs.Tree.{Name, Expression, assign, choose, binary, cast, unary, size_of, size_of_type, index, call, arrow, after, name, integer, paren, no_expressions, expressions, no_sizes, size, typed, Specifiers, no_specifiers, specifiers, struct_of, enum_of, no_members, member, no_declarators, declarators, no_enumerators, enumerator, enumerator_with, DeclaratorTree, plain, array, pointer, no_parameters, parameters, bare_form, bare_stars, Initializer, single, listed, no_initializers, initializers, NamedTree, DeclarationTree, start_declaration, StatementTree, block, expression_statement, if_statement, if_else_statement, for_statement, switch_statement, case_label, default_label, named_label, break_statement, goto_statement, Statements, no_statements, statements, ItemTree, function_item, declaration_item, void_word, int_word, type_name}

abbrev a : Expression
a = name (codes "a")

abbrev b : Expression
b = name (codes "b")

abbrev c : Expression
c = name (codes "c")

abbrev d : Expression
d = name (codes "d")

abbrev one : Expression
one = integer (codes "1")

abbrev two : Expression
two = integer (codes "2")

abbrev void : Specifiers
void = specifiers void_word no_specifiers

abbrev int : Specifiers
int = specifiers int_word no_specifiers

abbrev of_new_type : Specifiers
of_new_type = specifiers (type_name (codes "T")) no_specifiers

abbrev declares : Storage → Specifiers → List NamedTree → DeclarationTree
declares s ws ns = record { storage = s; specs = ws; names = ns }

-- a declaration of one name outside functions
abbrev declared : Specifiers → NamedTree → ItemTree
declared ws n = declaration_item (declares storage.Nothing ws (n ∷ []))

abbrev plain_name : DeclaratorTree → NamedTree
plain_name d = record { declarator = d; init = None }

abbrev name_with : Name → Initializer → NamedTree
name_with n i = record { declarator = plain [] n; init = Some i }

-- int x = an expression ;
abbrev value : Expression → ItemTree
value e = declared int (name_with (codes "x") (single e))

-- typedef int T ;
abbrev new_type : ItemTree
new_type = declaration_item (declares storage.Typedef int (plain_name (plain [] (codes "T")) ∷ []))

abbrev does : Expression → StatementTree
does e = expression_statement (Some e)

-- void f ( void ) { statements }
abbrev runs : Statements → ItemTree
runs ss = function_item (record { storage = storage.Nothing; specs = void; stars = []; name = codes "f"; params = no_parameters; word = true; body = block ss })

-- int (*f[2])(int);
abbrev pub array_of_pointers : List ItemTree
array_of_pointers = declared int (plain_name (pointer [] [] (codes "f") (size (integer (codes "2")) no_sizes) (parameters int (bare_form (bare_stars [])) no_parameters) false)) ∷ []

-- int *(*f)(void);
abbrev pub pointer_to_function : List ItemTree
pointer_to_function = declared int (plain_name (pointer ([] ∷ []) [] (codes "f") no_sizes no_parameters true)) ∷ []

-- int x = a - b - c;
abbrev pub differences : List ItemTree
differences = value (binary op.Sub (binary op.Sub a b) c) ∷ []

-- void f(void) { a = b = c; }
abbrev pub assignments : List ItemTree
assignments = runs (statements (does (assign assign_op.Plain a (assign assign_op.Plain b c))) no_statements) ∷ []

-- int x = a ? b : c ? 1 : 2;
abbrev pub choices : List ItemTree
choices = value (choose a b (choose c one two)) ∷ []

-- void f(void) { if (a) if (b) c; else d; }
abbrev pub inner_else : List ItemTree
inner_else = runs (statements (if_statement a (if_else_statement b (does c) (does d))) no_statements) ∷ []

-- int x = sizeof (int);
abbrev pub size_of_a_type : List ItemTree
size_of_a_type = value (size_of_type (typed int (bare_stars []))) ∷ []

-- int x = sizeof (a) + 1;
abbrev pub size_of_a_value : List ItemTree
size_of_a_value = value (binary op.Add (size_of (paren a)) one) ∷ []

-- int x = (int)-a;
abbrev pub cast_of_a_minus : List ItemTree
cast_of_a_minus = value (cast (typed int (bare_stars [])) (unary unary_op.Minus a)) ∷ []

-- int x = (b)-a;
abbrev pub minus_behind_brackets : List ItemTree
minus_behind_brackets = value (binary op.Sub (paren b) a) ∷ []

-- struct s { int a, *b; } x = { .a = 1, 2, };
abbrev pub struct_with_value : List ItemTree
struct_with_value = declared (specifiers (struct_of (Some (codes "s")) (member int (declarators (plain [] (codes "a")) (declarators (plain ([] ∷ []) (codes "b")) no_declarators)) no_members)) no_specifiers) (name_with (codes "x") (listed (initializers (Some (codes "a")) (single one) (initializers None (single two) no_initializers)) true)) ∷ []

-- enum e { A, B = 2, };
abbrev pub enumeration : List ItemTree
enumeration = declaration_item (declares storage.Nothing (specifiers (enum_of (Some (codes "e")) (enumerator (codes "A") (enumerator_with (codes "B") two no_enumerators)) true) no_specifiers) []) ∷ []

-- typedef int T; int x = (T)-a;
abbrev pub cast_to_a_new_type : List ItemTree
cast_to_a_new_type = new_type ∷ value (cast (typed of_new_type (bare_stars [])) (unary unary_op.Minus a)) ∷ []

-- void f(void) { for (int i = 0; i < 2; i++) ; }
abbrev pub for_with_declaration : List ItemTree
for_with_declaration = runs (statements (for_statement (start_declaration (declares storage.Nothing int (name_with (codes "i") (single (integer (codes "0"))) ∷ []))) (Some (binary op.Less (name (codes "i")) two)) (Some (after step_op.Up (name (codes "i")))) (expression_statement None)) no_statements) ∷ []

-- void f(void) { switch (a) { case 1: b; break; default: ; } }
abbrev pub cases : List ItemTree
cases = runs (statements (switch_statement a (block (statements (case_label one) (statements (does b) (statements break_statement (statements default_label (statements (expression_statement None) no_statements))))))) no_statements) ∷ []

-- void f(void) { l: goto l; }
abbrev pub jump : List ItemTree
jump = runs (statements (named_label (codes "l")) (statements (goto_statement (codes "l")) no_statements)) ∷ []

-- void f(void) { p->x[1](2)++; }
abbrev pub postfix : List ItemTree
postfix = runs (statements (does (after step_op.Up (call (index (arrow (name (codes "p")) (codes "x")) one) (expressions two no_expressions)))) no_statements) ∷ []

-- typedef int T[sizeof T];
abbrev pub size_of_its_own_name : List ItemTree
size_of_its_own_name = declaration_item (declares storage.Typedef int (plain_name (array [] (codes "T") (size (size_of (name (codes "T"))) no_sizes)) ∷ [])) ∷ []
