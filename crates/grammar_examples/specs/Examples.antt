-- What small programs spell, and that their tokens are read back to them.
use Rattle.std.specs.Prelude.{◌≡◌, List, [], ◌∷◌, length, codes}
use Rattle.c_tree.specs.Tree.{ItemTree}
use Rattle.c_tree.specs.Marks.{Tokens, keyword, name_token, integer_token, mark}
use Rattle.c_tree.specs.Nodes.{nodes}
use Rattle.c_tree.specs.Depth.{depth}
use Rattle.c_tree.specs.Shape.{first_scope}
use Rattle.c_tree.specs.Spelling.{spell}
use Rattle.c_grammar.specs.Body.{got}
use Rattle.c_grammar.specs.Input.{start_of}
use Rattle.c_grammar.specs.Reading.{read}
use Rattle.c_grammar.specs.Rules.{all_items}
use Rattle.grammar_examples.specs.Programs as programs

-- the program spells these tokens, and from them it is read back, with all its nodes and its depth counted
pub record ReadsBack (tokens : Tokens) (program : List ItemTree) : Type 0 where
  pub spelled : spell program ≡ tokens
  pub read_back : read (all_items first_scope) (start_of tokens 1 1) ≡ got program [] (record { made = length (nodes program); peak = depth program })

-- int (*f[2])(int);
-- a declarator that is a pointer to a function, with one array size
abbrev pub ArrayOfPointers : Type 0
ArrayOfPointers = ReadsBack
    (keyword (codes "int") ∷ mark (codes "(") ∷ mark (codes "*") ∷ name_token (codes "f") ∷ mark (codes "[") ∷ integer_token (codes "2") ∷ mark (codes "]") ∷ mark (codes ")") ∷ mark (codes "(") ∷ keyword (codes "int") ∷ mark (codes ")") ∷ mark (codes ";") ∷ [])
    programs.array_of_pointers

-- int *(*f)(void);
-- stars may stand before the bracket; the word void says that there are no parameters
abbrev pub PointerToFunction : Type 0
PointerToFunction = ReadsBack
    (keyword (codes "int") ∷ mark (codes "*") ∷ mark (codes "(") ∷ mark (codes "*") ∷ name_token (codes "f") ∷ mark (codes ")") ∷ mark (codes "(") ∷ keyword (codes "void") ∷ mark (codes ")") ∷ mark (codes ";") ∷ [])
    programs.pointer_to_function

-- int x = a - b - c;
-- operators group to the left
abbrev pub Differences : Type 0
Differences = ReadsBack
    (keyword (codes "int") ∷ name_token (codes "x") ∷ mark (codes "=") ∷ name_token (codes "a") ∷ mark (codes "-") ∷ name_token (codes "b") ∷ mark (codes "-") ∷ name_token (codes "c") ∷ mark (codes ";") ∷ [])
    programs.differences

-- void f(void) { a = b = c; }
-- assignments group to the right
abbrev pub Assignments : Type 0
Assignments = ReadsBack
    (keyword (codes "void") ∷ name_token (codes "f") ∷ mark (codes "(") ∷ keyword (codes "void") ∷ mark (codes ")") ∷ mark (codes "{") ∷ name_token (codes "a") ∷ mark (codes "=") ∷ name_token (codes "b") ∷ mark (codes "=") ∷ name_token (codes "c") ∷ mark (codes ";") ∷ mark (codes "}") ∷ [])
    programs.assignments

-- int x = a ? b : c ? 1 : 2;
-- choices group to the right
abbrev pub Choices : Type 0
Choices = ReadsBack
    (keyword (codes "int") ∷ name_token (codes "x") ∷ mark (codes "=") ∷ name_token (codes "a") ∷ mark (codes "?") ∷ name_token (codes "b") ∷ mark (codes ":") ∷ name_token (codes "c") ∷ mark (codes "?") ∷ integer_token (codes "1") ∷ mark (codes ":") ∷ integer_token (codes "2") ∷ mark (codes ";") ∷ [])
    programs.choices

-- void f(void) { if (a) if (b) c; else d; }
-- an else belongs to the inner if
abbrev pub InnerElse : Type 0
InnerElse = ReadsBack
    (keyword (codes "void") ∷ name_token (codes "f") ∷ mark (codes "(") ∷ keyword (codes "void") ∷ mark (codes ")") ∷ mark (codes "{") ∷ keyword (codes "if") ∷ mark (codes "(") ∷ name_token (codes "a") ∷ mark (codes ")") ∷ keyword (codes "if") ∷ mark (codes "(") ∷ name_token (codes "b") ∷ mark (codes ")") ∷ name_token (codes "c") ∷ mark (codes ";") ∷ keyword (codes "else") ∷ name_token (codes "d") ∷ mark (codes ";") ∷ mark (codes "}") ∷ [])
    programs.inner_else

-- int x = sizeof (int);
-- behind sizeof a bracket holds a type
abbrev pub SizeOfAType : Type 0
SizeOfAType = ReadsBack
    (keyword (codes "int") ∷ name_token (codes "x") ∷ mark (codes "=") ∷ keyword (codes "sizeof") ∷ mark (codes "(") ∷ keyword (codes "int") ∷ mark (codes ")") ∷ mark (codes ";") ∷ [])
    programs.size_of_a_type

-- int x = sizeof (a) + 1;
-- or an expression, with which the operand of sizeof may go on, but not by an operator between operands
abbrev pub SizeOfAValue : Type 0
SizeOfAValue = ReadsBack
    (keyword (codes "int") ∷ name_token (codes "x") ∷ mark (codes "=") ∷ keyword (codes "sizeof") ∷ mark (codes "(") ∷ name_token (codes "a") ∷ mark (codes ")") ∷ mark (codes "+") ∷ integer_token (codes "1") ∷ mark (codes ";") ∷ [])
    programs.size_of_a_value

-- int x = (int)-a;
-- a type in brackets before an operand is a cast
abbrev pub CastOfAMinus : Type 0
CastOfAMinus = ReadsBack
    (keyword (codes "int") ∷ name_token (codes "x") ∷ mark (codes "=") ∷ mark (codes "(") ∷ keyword (codes "int") ∷ mark (codes ")") ∷ mark (codes "-") ∷ name_token (codes "a") ∷ mark (codes ";") ∷ [])
    programs.cast_of_a_minus

-- int x = (b)-a;
-- and a name in brackets that is no type is an operand
abbrev pub MinusBehindBrackets : Type 0
MinusBehindBrackets = ReadsBack
    (keyword (codes "int") ∷ name_token (codes "x") ∷ mark (codes "=") ∷ mark (codes "(") ∷ name_token (codes "b") ∷ mark (codes ")") ∷ mark (codes "-") ∷ name_token (codes "a") ∷ mark (codes ";") ∷ [])
    programs.minus_behind_brackets

-- struct s { int a, *b; } x = { .a = 1, 2, };
-- a struct with its members, and a list of initialisers that ends in a comma
abbrev pub StructWithValue : Type 0
StructWithValue = ReadsBack
    (keyword (codes "struct") ∷ name_token (codes "s") ∷ mark (codes "{") ∷ keyword (codes "int") ∷ name_token (codes "a") ∷ mark (codes ",") ∷ mark (codes "*") ∷ name_token (codes "b") ∷ mark (codes ";") ∷ mark (codes "}") ∷ name_token (codes "x") ∷ mark (codes "=") ∷ mark (codes "{") ∷ mark (codes ".") ∷ name_token (codes "a") ∷ mark (codes "=") ∷ integer_token (codes "1") ∷ mark (codes ",") ∷ integer_token (codes "2") ∷ mark (codes ",") ∷ mark (codes "}") ∷ mark (codes ";") ∷ [])
    programs.struct_with_value

-- enum e { A, B = 2, };
-- enumerators that end in a comma
abbrev pub Enumeration : Type 0
Enumeration = ReadsBack
    (keyword (codes "enum") ∷ name_token (codes "e") ∷ mark (codes "{") ∷ name_token (codes "A") ∷ mark (codes ",") ∷ name_token (codes "B") ∷ mark (codes "=") ∷ integer_token (codes "2") ∷ mark (codes ",") ∷ mark (codes "}") ∷ mark (codes ";") ∷ [])
    programs.enumeration

-- typedef int T; int x = (T)-a;
-- behind its typedef a name is a type
abbrev pub CastToANewType : Type 0
CastToANewType = ReadsBack
    (keyword (codes "typedef") ∷ keyword (codes "int") ∷ name_token (codes "T") ∷ mark (codes ";") ∷ keyword (codes "int") ∷ name_token (codes "x") ∷ mark (codes "=") ∷ mark (codes "(") ∷ name_token (codes "T") ∷ mark (codes ")") ∷ mark (codes "-") ∷ name_token (codes "a") ∷ mark (codes ";") ∷ [])
    programs.cast_to_a_new_type

-- void f(void) { for (int i = 0; i < 2; i++) ; }
-- a loop that declares its counter
abbrev pub ForWithDeclaration : Type 0
ForWithDeclaration = ReadsBack
    (keyword (codes "void") ∷ name_token (codes "f") ∷ mark (codes "(") ∷ keyword (codes "void") ∷ mark (codes ")") ∷ mark (codes "{") ∷ keyword (codes "for") ∷ mark (codes "(") ∷ keyword (codes "int") ∷ name_token (codes "i") ∷ mark (codes "=") ∷ integer_token (codes "0") ∷ mark (codes ";") ∷ name_token (codes "i") ∷ mark (codes "<") ∷ integer_token (codes "2") ∷ mark (codes ";") ∷ name_token (codes "i") ∷ mark (codes "++") ∷ mark (codes ")") ∷ mark (codes ";") ∷ mark (codes "}") ∷ [])
    programs.for_with_declaration

-- void f(void) { switch (a) { case 1: b; break; default: ; } }
-- labels are statements of their own
abbrev pub Cases : Type 0
Cases = ReadsBack
    (keyword (codes "void") ∷ name_token (codes "f") ∷ mark (codes "(") ∷ keyword (codes "void") ∷ mark (codes ")") ∷ mark (codes "{") ∷ keyword (codes "switch") ∷ mark (codes "(") ∷ name_token (codes "a") ∷ mark (codes ")") ∷ mark (codes "{") ∷ keyword (codes "case") ∷ integer_token (codes "1") ∷ mark (codes ":") ∷ name_token (codes "b") ∷ mark (codes ";") ∷ keyword (codes "break") ∷ mark (codes ";") ∷ keyword (codes "default") ∷ mark (codes ":") ∷ mark (codes ";") ∷ mark (codes "}") ∷ mark (codes "}") ∷ [])
    programs.cases

-- void f(void) { l: goto l; }
-- a name before a colon is a label
abbrev pub Jump : Type 0
Jump = ReadsBack
    (keyword (codes "void") ∷ name_token (codes "f") ∷ mark (codes "(") ∷ keyword (codes "void") ∷ mark (codes ")") ∷ mark (codes "{") ∷ name_token (codes "l") ∷ mark (codes ":") ∷ keyword (codes "goto") ∷ name_token (codes "l") ∷ mark (codes ";") ∷ mark (codes "}") ∷ [])
    programs.jump

-- void f(void) { p->x[1](2)++; }
-- what stands behind an operand goes on from left to right
abbrev pub Postfix : Type 0
Postfix = ReadsBack
    (keyword (codes "void") ∷ name_token (codes "f") ∷ mark (codes "(") ∷ keyword (codes "void") ∷ mark (codes ")") ∷ mark (codes "{") ∷ name_token (codes "p") ∷ mark (codes "->") ∷ name_token (codes "x") ∷ mark (codes "[") ∷ integer_token (codes "1") ∷ mark (codes "]") ∷ mark (codes "(") ∷ integer_token (codes "2") ∷ mark (codes ")") ∷ mark (codes "++") ∷ mark (codes ";") ∷ mark (codes "}") ∷ [])
    programs.postfix

-- typedef int T[sizeof T];
-- in its own declarator the name of a type is no type yet
abbrev pub SizeOfItsOwnName : Type 0
SizeOfItsOwnName = ReadsBack
    (keyword (codes "typedef") ∷ keyword (codes "int") ∷ name_token (codes "T") ∷ mark (codes "[") ∷ keyword (codes "sizeof") ∷ name_token (codes "T") ∷ mark (codes "]") ∷ mark (codes ";") ∷ [])
    programs.size_of_its_own_name
