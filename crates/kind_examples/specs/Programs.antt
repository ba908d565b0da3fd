-- The trees of small programs. A number behind a text is that of the node that breaks a rule, counted in preorder from 0, the program itself.
use Rattle.std.specs.Prelude.{List, [], ◌∷◌, ◌++◌, Option, Some, None, Bool, true, false, codes}
use Rattle.c_tree.specs.declared.tree.AssignOp.TheVariants as assign_op
use Rattle.c_tree.specs.declared.tree.BinaryOp.TheVariants as op
use Rattle.c_tree.specs.declared.tree.Storage.{Storage}
use Rattle.c_tree.specs.declared.tree.UnaryOp.TheVariants as unary_op
use Rattle.c_tree.specs.declared.tree.Storage.TheVariants as storage
use Rattle.c_tree.specs.Tree.{Name, Expression, assign, binary, size_of_type, unary, index, call, dot, name, integer, Expressions, no_expressions, expressions, no_sizes, open_size, size, typed, Specifiers, no_specifiers, specifiers, const_word, void_word, int_word, type_name, struct_tag, struct_of, enum_of, no_members, member, no_declarators, declarators, no_enumerators, enumerator, enumerator_with, DeclaratorTree, plain, array, function, Parameters, no_parameters, parameters, named_form, bare_stars, single, listed, no_initializers, initializers, NamedTree, DeclarationTree, StatementTree, block, declaration, expression_statement, switch_statement, case_label, named_label, return_statement, goto_statement, ItemTree, function_item, declaration_item}
use Rattle.c_tree.specs.StatementView.{statements_of}

-- ---- words

abbrev a : Expression
a = name (codes "a")

abbrev b : Expression
b = name (codes "b")

abbrev p : Expression
p = name (codes "p")

abbrev q : Expression
q = name (codes "q")

abbrev x : Expression
x = name (codes "x")

abbrev zero : Expression
zero = integer (codes "0")

abbrev one : Expression
one = integer (codes "1")

abbrev two : Expression
two = integer (codes "2")

abbrev void : Specifiers
void = specifiers void_word no_specifiers

abbrev int : Specifiers
int = specifiers int_word no_specifiers

abbrev struct_stat : Specifiers
struct_stat = specifiers (struct_tag (codes "stat")) no_specifiers

-- { int a; }
abbrev one_member : Option Name → Specifiers
one_member tag = specifiers (struct_of tag (member int (declarators (plain [] (codes "a")) no_declarators) no_members)) no_specifiers

abbrev struct_s : Specifiers
struct_s = specifiers (struct_tag (codes "s")) no_specifiers

-- { int a; another }
abbrev two_members : Name → Specifiers → DeclaratorTree → Specifiers
two_members tag ws d = specifiers (struct_of (Some tag) (member int (declarators (plain [] (codes "a")) no_declarators) (member ws (declarators d no_declarators) no_members))) no_specifiers

-- a name with one star
abbrev starred : Name → DeclaratorTree
starred n = plain ([] ∷ []) n

abbrev unset : DeclaratorTree → NamedTree
unset d = record { declarator = d; init = None }

abbrev set_to : Name → Expression → NamedTree
set_to n e = record { declarator = plain [] n; init = Some (single e) }

abbrev declares : Storage → Specifiers → List NamedTree → DeclarationTree
declares s ws ns = record { storage = s; specs = ws; names = ns }

-- a declaration among statements, and outside of functions
abbrev local : Specifiers → List NamedTree → StatementTree
local ws ns = declaration (declares storage.Nothing ws ns)

abbrev outer : Specifiers → List NamedTree → ItemTree
outer ws ns = declaration_item (declares storage.Nothing ws ns)

-- int x;
abbrev int_named : Name → List NamedTree
int_named n = unset (plain [] n) ∷ []

-- extern int x;
abbrev elsewhere : StatementTree
elsewhere = declaration (declares storage.Extern int (int_named (codes "x")))

abbrev does : Expression → StatementTree
does e = expression_statement (Some e)

abbrev stores : Expression → Expression → StatementTree
stores e v = does (assign assign_op.Plain e v)

abbrev returns : Expression → StatementTree
returns e = return_statement (Some e)

abbrev calls : Name → Expressions → Expression
calls n xs = call (name n) xs

abbrev body : List StatementTree → StatementTree
body ss = block (statements_of ss)

abbrev one_parameter : Specifiers → Name → Parameters
one_parameter ws n = parameters ws (named_form (plain [] n)) no_parameters

abbrev defines : Specifiers → Name → Parameters → Bool → List StatementTree → ItemTree
defines ws n ps word ss = function_item (record { storage = storage.Nothing; specs = ws; stars = []; name = n; params = ps; word = word; body = body ss })

-- int main(void) { statements }
abbrev main : List StatementTree → ItemTree
main ss = defines int (codes "main") no_parameters true ss

-- int main(void) { statements return 0; }
abbrev ends : List StatementTree → ItemTree
ends ss = main (ss ++ returns zero ∷ [])

-- void f(void) { storage int x = 1; } int x = 2; int main(void) { return 0; }
abbrev around_two : Storage → List ItemTree
around_two s = defines void (codes "f") no_parameters true (declaration (declares s int (set_to (codes "x") one ∷ [])) ∷ []) ∷ outer int (set_to (codes "x") two ∷ []) ∷ ends [] ∷ []

-- typedef int A[]; items
abbrev behind_open : List ItemTree → List ItemTree
behind_open is = declaration_item (declares storage.Typedef int (unset (array [] (codes "A") (open_size no_sizes)) ∷ [])) ∷ is

abbrev open_type : Specifiers
open_type = specifiers (type_name (codes "A")) no_specifiers

-- typedef int A[]; A names; int main(void) { return 0; }
abbrev open_a : List NamedTree → List ItemTree
open_a ns = behind_open (outer open_type ns ∷ ends [] ∷ [])

-- ---- programs and main

-- int main(void) { return 0; }
abbrev pub least : List ItemTree
least = ends [] ∷ []

-- int f(void) { return 0; }
-- no function main
abbrev pub without_main : List ItemTree
without_main = defines int (codes "f") no_parameters true (returns zero ∷ []) ∷ []

-- int main(int a) { return 0; }
-- main takes nothing, or a number and pointers
abbrev pub main_of_an_int : List ItemTree
main_of_an_int = defines int (codes "main") (one_parameter int (codes "a")) false (returns zero ∷ []) ∷ []

-- int main(void) { return main(); }
-- the subset leaves out a call of main
abbrev pub main_called : List ItemTree
main_called = main (returns (calls (codes "main") no_expressions) ∷ []) ∷ []

-- ---- names

-- int main(void) { return a; }
abbrev pub undeclared : List ItemTree
undeclared = main (returns a ∷ []) ∷ []

-- int main(void) { return a + b; }
-- the sum waits for its operands, of which the first is told
abbrev pub first_of_two : List ItemTree
first_of_two = main (returns (binary op.Add a b) ∷ []) ∷ []

-- int main(void) { errno = EINTR; return 0; }
-- built-in names are declared in every program
abbrev pub built_in_names : List ItemTree
built_in_names = ends (stores (name (codes "errno")) (name (codes "EINTR")) ∷ []) ∷ []

-- int main(void) { int x = x; return 0; }
-- a name is in scope in its own initialiser
abbrev pub own_initializer : List ItemTree
own_initializer = ends (local int (set_to (codes "x") x ∷ []) ∷ []) ∷ []

-- void f(int a) { int a; } int main(void) { return 0; }
-- the outermost block of a function is the scope of its parameters
abbrev pub parameter_declared_again : List ItemTree
parameter_declared_again = defines void (codes "f") (one_parameter int (codes "a")) false (local int (int_named (codes "a")) ∷ []) ∷ ends [] ∷ []

-- void f(int a) { { int a; } } int main(void) { return 0; }
-- an inner block is a scope of its own
abbrev pub parameter_hidden : List ItemTree
parameter_hidden = defines void (codes "f") (one_parameter int (codes "a")) false (body (local int (int_named (codes "a")) ∷ []) ∷ []) ∷ ends [] ∷ []

-- int main(void) { extern int x; return x; }
-- an object with linkage that the unit does not define is not used
abbrev pub defined_nowhere : List ItemTree
defined_nowhere = main (elsewhere ∷ returns x ∷ []) ∷ []

-- int main(void) { extern int x; return x; } int x;
-- its definition may follow
abbrev pub defined_behind : List ItemTree
defined_behind = main (elsewhere ∷ returns x ∷ []) ∷ outer int (int_named (codes "x")) ∷ []

-- void f(void) { extern int x = 1; } int x = 2; int main(void) { return 0; }
-- an object with linkage is one, in a block and outside, and has one initialiser
abbrev pub initialised_twice : List ItemTree
initialised_twice = around_two storage.Extern

-- void f(void) { static int x = 1; } int x = 2; int main(void) { return 0; }
-- that of a block without extern is another
abbrev pub initialised_apart : List ItemTree
initialised_apart = around_two storage.Static

-- int main(void) { return sizeof(enum { A }) + A; }
-- a type in an expression declares its enumerators
abbrev pub enumerator_in_sizeof : List ItemTree
enumerator_in_sizeof = main (returns (binary op.Add (size_of_type (typed (specifiers (enum_of None (enumerator (codes "A") no_enumerators) false) no_specifiers) (bare_stars []))) (name (codes "A"))) ∷ []) ∷ []

-- ---- library functions

-- int main(void) { int write; write = 1; return write; }
-- a local name may hide a library function
abbrev pub library_hidden : List ItemTree
library_hidden = main (local int (int_named (codes "write")) ∷ stores (name (codes "write")) one ∷ returns (name (codes "write")) ∷ []) ∷ []

-- int main(void) { int f; f = write; return 0; }
-- a library function's name stands before arguments alone
abbrev pub library_as_value : List ItemTree
library_as_value = ends (local int (int_named (codes "f")) ∷ stores (name (codes "f")) (name (codes "write")) ∷ []) ∷ []

-- int main(void) { write(1, NULL, 0); return 0; }
abbrev pub library_called : List ItemTree
library_called = ends (does (calls (codes "write") (expressions one (expressions (name (codes "NULL")) (expressions zero no_expressions)))) ∷ []) ∷ []

-- int main(void) { write(1, NULL); return 0; }
abbrev pub too_few_for_the_library : List ItemTree
too_few_for_the_library = ends (does (calls (codes "write") (expressions one (expressions (name (codes "NULL")) no_expressions))) ∷ []) ∷ []

-- void f(int a) { } int main(void) { signal(SIGINT, f); return 0; }
-- a handler is a function of an int without a result
abbrev pub handler_set : List ItemTree
handler_set = defines void (codes "f") (one_parameter int (codes "a")) false [] ∷ ends (does (calls (codes "signal") (expressions (name (codes "SIGINT")) (expressions (name (codes "f")) no_expressions))) ∷ []) ∷ []

-- void f(void) { } int main(void) { signal(SIGINT, f); return 0; }
-- this function takes no signal
abbrev pub no_handler : List ItemTree
no_handler = defines void (codes "f") no_parameters true [] ∷ ends (does (calls (codes "signal") (expressions (name (codes "SIGINT")) (expressions (name (codes "f")) no_expressions))) ∷ []) ∷ []

-- int main(void) { struct sigaction a = { 0 }; return 0; }
abbrev pub zero_action : List ItemTree
zero_action = ends (local (specifiers (struct_tag (codes "sigaction")) no_specifiers) (record { declarator = plain [] (codes "a"); init = Some (listed (initializers None (single zero) no_initializers) false) } ∷ []) ∷ []) ∷ []

-- int main(void) { struct sigaction a = { SIG_DFL }; return 0; }
-- the members of struct sigaction have no order that a program may know
abbrev pub action_by_place : List ItemTree
action_by_place = ends (local (specifiers (struct_tag (codes "sigaction")) no_specifiers) (record { declarator = plain [] (codes "a"); init = Some (listed (initializers None (single (name (codes "SIG_DFL"))) no_initializers) false) } ∷ []) ∷ []) ∷ []

-- ---- calls, operators and assignments

-- int f(int a, int b) { return a; } int main(void) { return f(1); }
abbrev pub too_few_arguments : List ItemTree
too_few_arguments = defines int (codes "f") (parameters int (named_form (plain [] (codes "a"))) (one_parameter int (codes "b"))) false (returns a ∷ []) ∷ main (returns (calls (codes "f") (expressions one no_expressions)) ∷ []) ∷ []

-- int main(void) { int a; return a(); }
abbrev pub object_called : List ItemTree
object_called = main (local int (int_named (codes "a")) ∷ returns (calls (codes "a") no_expressions) ∷ []) ∷ []

-- int main(void) { int *p, *q; p + q; return 0; }
abbrev pub sum_of_pointers : List ItemTree
sum_of_pointers = ends (local int (unset (starred (codes "p")) ∷ unset (starred (codes "q")) ∷ []) ∷ does (binary op.Add p q) ∷ []) ∷ []

-- int main(void) { int *p, *q; p - q; return 0; }
abbrev pub difference_of_pointers : List ItemTree
difference_of_pointers = ends (local int (unset (starred (codes "p")) ∷ unset (starred (codes "q")) ∷ []) ∷ does (binary op.Sub p q) ∷ []) ∷ []

-- int main(void) { const int a = 1; a = 2; return 0; }
abbrev pub constant_assigned : List ItemTree
constant_assigned = ends (local (specifiers const_word int) (set_to (codes "a") one ∷ []) ∷ stores a two ∷ []) ∷ []

-- int main(void) { int a[2]; a = 0; return 0; }
-- an array is no place to store into
abbrev pub array_assigned : List ItemTree
array_assigned = ends (local int (unset (array [] (codes "a") (size two no_sizes)) ∷ []) ∷ stores a zero ∷ []) ∷ []

-- typedef int T[2]; void f(T a) { a = 0; } int main(void) { return 0; }
-- but a parameter of an array type is a pointer, though a typedef names the type
abbrev pub array_parameter : List ItemTree
array_parameter = declaration_item (declares storage.Typedef int (unset (array [] (codes "T") (size two no_sizes)) ∷ [])) ∷ defines void (codes "f") (one_parameter (specifiers (type_name (codes "T")) no_specifiers) (codes "a")) false (stores a zero ∷ []) ∷ ends [] ∷ []

-- typedef int A[]; A a; int main(void) { return 0; }
-- an array without a size is incomplete, though a typedef names the type
abbrev pub array_without_size : List ItemTree
array_without_size = open_a (int_named (codes "a"))

-- typedef int A[]; A a[2]; int main(void) { return 0; }
-- so it is no element of an array
abbrev pub elements_without_size : List ItemTree
elements_without_size = open_a (unset (array [] (codes "a") (size two no_sizes)) ∷ [])

-- int *p; int *q = &p[1]; int main(void) { return 0; }
-- where a pointer points to is its value: no element behind it has an address that is constant
abbrev pub element_behind_a_pointer : List ItemTree
element_behind_a_pointer =
    outer int (unset (starred (codes "p")) ∷ []) ∷ outer int (record { declarator = starred (codes "q"); init = Some (single (unary unary_op.Address (index p one))) } ∷ []) ∷ ends [] ∷ []

-- int a[2]; int *q = &a[1]; int main(void) { return 0; }
abbrev pub element_of_an_array : List ItemTree
element_of_an_array =
    outer int (unset (array [] (codes "a") (size two no_sizes)) ∷ []) ∷ outer int (record { declarator = starred (codes "q"); init = Some (single (unary unary_op.Address (index a one))) } ∷ []) ∷ ends [] ∷ []

-- typedef int A[]; int main(void) { A a; return 0; }
abbrev pub local_without_size : List ItemTree
local_without_size = behind_open (ends (local open_type (int_named (codes "a")) ∷ []) ∷ [])

-- typedef int A[]; struct s { int a; A b; }; int main(void) { return 0; }
abbrev pub member_without_size : List ItemTree
member_without_size = behind_open (outer (two_members (codes "s") open_type (plain [] (codes "b"))) [] ∷ ends [] ∷ [])

-- typedef int A[]; extern A a; void f(A a) { } int main(void) { return 0; }
-- its size may stand elsewhere, and a parameter is a pointer
abbrev pub array_elsewhere : List ItemTree
array_elsewhere =
    behind_open (declaration_item (declares storage.Extern open_type (int_named (codes "a"))) ∷ defines void (codes "f") (one_parameter open_type (codes "a")) false [] ∷ ends [] ∷ [])

-- typedef int A[]; A a = { 1 }; int main(void) { return 0; }
-- an initialiser gives it a size
abbrev pub array_initialised : List ItemTree
array_initialised = open_a (record { declarator = plain [] (codes "a"); init = Some (listed (initializers None (single one) no_initializers) false) } ∷ [])

-- typedef int A[]; A *a; int main(void) { return 0; }
-- and there are pointers to it
abbrev pub array_pointed_to : List ItemTree
array_pointed_to = open_a (unset (starred (codes "a")) ∷ [])

-- ---- constants

-- enum { A = 2147483647, B }; int main(void) { return 0; }
abbrev pub enumerator_past_int : List ItemTree
enumerator_past_int = outer (specifiers (enum_of None (enumerator_with (codes "A") (integer (codes "2147483647")) (enumerator (codes "B") no_enumerators)) false) no_specifiers) [] ∷ ends [] ∷ []

-- int a; int b = a; int main(void) { return 0; }
-- an object outside of functions is initialised by constants
abbrev pub static_initializer : List ItemTree
static_initializer = outer int (int_named (codes "a")) ∷ outer int (set_to (codes "b") a ∷ []) ∷ ends [] ∷ []

-- int main(void) { switch (1) { case 2: case 2: ; } return 0; }
abbrev pub case_twice : List ItemTree
case_twice = ends (switch_statement one (body (case_label two ∷ case_label two ∷ expression_statement None ∷ [])) ∷ []) ∷ []

-- ---- labels

-- int main(void) { goto l; return 0; }
abbrev pub goto_without_label : List ItemTree
goto_without_label = ends (goto_statement (codes "l") ∷ []) ∷ []

-- int main(void) { goto l; l: return 0; }
-- a label may follow the goto
abbrev pub goto_forward : List ItemTree
goto_forward = ends (goto_statement (codes "l") ∷ named_label (codes "l") ∷ []) ∷ []

-- ---- structures

-- int main(void) { struct stat p; p.a = 1; return 0; }
-- the built-in struct stat has no member a
abbrev pub built_in_structure : List ItemTree
built_in_structure = ends (local struct_stat (int_named (codes "p")) ∷ stores (dot p (codes "a")) one ∷ []) ∷ []

-- struct stat { int a; }; int main(void) { struct stat p; p.a = 1; return 0; }
-- a structure of the unit's own hides it
abbrev pub own_structure : List ItemTree
own_structure = outer (one_member (Some (codes "stat"))) [] ∷ ends (local struct_stat (int_named (codes "p")) ∷ stores (dot p (codes "a")) one ∷ []) ∷ []

-- void f(struct s { int a; } *p); int main(void) { struct s x; return 0; }
-- a tag that a prototype's parameter declares ends with the prototype
abbrev pub tag_of_a_prototype : List ItemTree
tag_of_a_prototype = outer void (unset (function [] (codes "f") (parameters (one_member (Some (codes "s"))) (named_form (starred (codes "p"))) no_parameters) false) ∷ []) ∷ ends (local struct_s (int_named (codes "x")) ∷ []) ∷ []

-- struct s; struct s { int a; struct s *p; }; int main(void) { return 0; }
-- a structure's members begin behind its tag, and may point to it
abbrev pub own_pointer : List ItemTree
own_pointer = outer struct_s [] ∷ outer (two_members (codes "s") struct_s (starred (codes "p"))) [] ∷ ends [] ∷ []

-- struct s { int a; struct s { int a; } b; }; int main(void) { return 0; }
-- but they begin once, though they haven't ended
abbrev pub begun_twice : List ItemTree
begun_twice = outer (two_members (codes "s") (one_member (Some (codes "s"))) (plain [] (codes "b"))) [] ∷ ends [] ∷ []
