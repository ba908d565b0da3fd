-- Where small texts leave the grammar.
use Rattle.std.specs.Prelude.{◌≡◌, [], ◌∷◌, ◌++◌, codes}
use Rattle.c_tree.specs.Marks.{Tokens, keyword, name_token, integer_token, mark}
use Rattle.c_tree.specs.Shape.{first_scope}
use Rattle.c_grammar.specs.Body.{refused}
use Rattle.c_grammar.specs.Input.{start_of}
use Rattle.c_grammar.specs.Reading.{read}
use Rattle.c_grammar.specs.Rules.{all_items}

-- behind the first tokens the next one is refused
abbrev pub RefusedBehind : Tokens → Tokens → Type 0
RefusedBehind before rest = read (all_items first_scope) (start_of (before ++ rest) 1 1) ≡ refused rest

-- typedef int T; void f(void) { int | T; }
-- a type is not declared again in a block
abbrev pub TypeDeclaredAgain : Type 0
TypeDeclaredAgain = RefusedBehind
    (keyword (codes "typedef") ∷ keyword (codes "int") ∷ name_token (codes "T") ∷ mark (codes ";") ∷ keyword (codes "void") ∷ name_token (codes "f") ∷ mark (codes "(") ∷ keyword (codes "void") ∷ mark (codes ")") ∷ mark (codes "{") ∷ keyword (codes "int") ∷ [])
    (name_token (codes "T") ∷ mark (codes ";") ∷ mark (codes "}") ∷ [])

-- int x = a - b | = c;
-- nothing is assigned to a difference
abbrev pub DifferenceAssigned : Type 0
DifferenceAssigned = RefusedBehind
    (keyword (codes "int") ∷ name_token (codes "x") ∷ mark (codes "=") ∷ name_token (codes "a") ∷ mark (codes "-") ∷ name_token (codes "b") ∷ [])
    (mark (codes "=") ∷ name_token (codes "c") ∷ mark (codes ";") ∷ [])

-- void f(void) { | case 1: ; }
-- a case stands in a switch alone
abbrev pub CaseWithoutASwitch : Type 0
CaseWithoutASwitch = RefusedBehind
    (keyword (codes "void") ∷ name_token (codes "f") ∷ mark (codes "(") ∷ keyword (codes "void") ∷ mark (codes ")") ∷ mark (codes "{") ∷ [])
    (keyword (codes "case") ∷ integer_token (codes "1") ∷ mark (codes ":") ∷ mark (codes ";") ∷ mark (codes "}") ∷ [])

-- void f(void) { if (a) | break; }
-- and a break in a switch or a loop
abbrev pub BreakWithoutALoop : Type 0
BreakWithoutALoop = RefusedBehind
    (keyword (codes "void") ∷ name_token (codes "f") ∷ mark (codes "(") ∷ keyword (codes "void") ∷ mark (codes ")") ∷ mark (codes "{") ∷ keyword (codes "if") ∷ mark (codes "(") ∷ name_token (codes "a") ∷ mark (codes ")") ∷ [])
    (keyword (codes "break") ∷ mark (codes ";") ∷ mark (codes "}") ∷ [])

-- int ( | f)(void);
-- brackets round a declarator begin with a star
abbrev pub BracketsRoundAName : Type 0
BracketsRoundAName = RefusedBehind
    (keyword (codes "int") ∷ mark (codes "(") ∷ [])
    (name_token (codes "f") ∷ mark (codes ")") ∷ mark (codes "(") ∷ keyword (codes "void") ∷ mark (codes ")") ∷ mark (codes ";") ∷ [])

-- long | char x;
-- there is no type long char
abbrev pub LongChar : Type 0
LongChar = RefusedBehind
    (keyword (codes "long") ∷ [])
    (keyword (codes "char") ∷ name_token (codes "x") ∷ mark (codes ";") ∷ [])

-- int f(void) | = 1;
-- a function has no initialiser
abbrev pub FunctionWithAValue : Type 0
FunctionWithAValue = RefusedBehind
    (keyword (codes "int") ∷ name_token (codes "f") ∷ mark (codes "(") ∷ keyword (codes "void") ∷ mark (codes ")") ∷ [])
    (mark (codes "=") ∷ integer_token (codes "1") ∷ mark (codes ";") ∷ [])

-- typedef int T(int | T);
-- the name of a type is not declared again in its own declarator: not by a parameter
abbrev pub ParameterNamedAsItsType : Type 0
ParameterNamedAsItsType = RefusedBehind
    (keyword (codes "typedef") ∷ keyword (codes "int") ∷ name_token (codes "T") ∷ mark (codes "(") ∷ keyword (codes "int") ∷ [])
    (name_token (codes "T") ∷ mark (codes ")") ∷ mark (codes ";") ∷ [])

-- typedef int T[sizeof(struct { int | T; })];
-- nor by a member
abbrev pub MemberNamedAsItsType : Type 0
MemberNamedAsItsType = RefusedBehind
    (keyword (codes "typedef") ∷ keyword (codes "int") ∷ name_token (codes "T") ∷ mark (codes "[") ∷ keyword (codes "sizeof") ∷ mark (codes "(") ∷ keyword (codes "struct") ∷ mark (codes "{") ∷ keyword (codes "int") ∷ [])
    (name_token (codes "T") ∷ mark (codes ";") ∷ mark (codes "}") ∷ mark (codes ")") ∷ mark (codes "]") ∷ mark (codes ";") ∷ [])

-- typedef int T[sizeof(enum { | T })];
-- nor by an enumerator
abbrev pub EnumeratorNamedAsItsType : Type 0
EnumeratorNamedAsItsType = RefusedBehind
    (keyword (codes "typedef") ∷ keyword (codes "int") ∷ name_token (codes "T") ∷ mark (codes "[") ∷ keyword (codes "sizeof") ∷ mark (codes "(") ∷ keyword (codes "enum") ∷ mark (codes "{") ∷ [])
    (name_token (codes "T") ∷ mark (codes "}") ∷ mark (codes ")") ∷ mark (codes "]") ∷ mark (codes ";") ∷ [])
