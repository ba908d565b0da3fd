-- The examples, by computing.
use Rattle.std.proofs.Common.{refl}
use Rattle.c_tree.specs.TypeWords.{built_in_types}
use Rattle.c_grammar.specs.Kind.{kind, same_kind, keyword_kind, mark_kind}
use Rattle.c_grammar.specs.Body.{run, reads}
use Rattle.c_grammar.specs.Reading.{read}
use Rattle.grammar_examples.specs.Examples.{ArrayOfPointers, PointerToFunction, Differences, Assignments, Choices, InnerElse, SizeOfAType, SizeOfAValue, CastOfAMinus, MinusBehindBrackets, StructWithValue, Enumeration, CastToANewType, ForWithDeclaration, Cases, Jump, Postfix, SizeOfItsOwnName}
use Rattle.grammar_examples.specs.Refusals.{TypeDeclaredAgain, DifferenceAssigned, CaseWithoutASwitch, BreakWithoutALoop, BracketsRoundAName, LongChar, FunctionWithAValue, ParameterNamedAsItsType, MemberNamedAsItsType, EnumeratorNamedAsItsType}

-- typedef int T; void f(void) { int | T; }
pub type_declared_again : TypeDeclaredAgain
unfolding read reads run kind same_kind keyword_kind mark_kind built_in_types
type_declared_again = refl

-- int x = a - b | = c;
pub difference_assigned : DifferenceAssigned
unfolding read reads run kind same_kind keyword_kind mark_kind built_in_types
difference_assigned = refl

-- void f(void) { | case 1: ; }
pub case_without_a_switch : CaseWithoutASwitch
unfolding read reads run kind same_kind keyword_kind mark_kind built_in_types
case_without_a_switch = refl

-- void f(void) { if (a) | break; }
pub break_without_a_loop : BreakWithoutALoop
unfolding read reads run kind same_kind keyword_kind mark_kind built_in_types
break_without_a_loop = refl

-- int ( | f)(void);
pub brackets_round_a_name : BracketsRoundAName
unfolding read reads run kind same_kind keyword_kind mark_kind built_in_types
brackets_round_a_name = refl

-- long | char x;
pub long_char : LongChar
unfolding read reads run kind same_kind keyword_kind mark_kind built_in_types
long_char = refl

-- int f(void) | = 1;
pub function_with_a_value : FunctionWithAValue
unfolding read reads run kind same_kind keyword_kind mark_kind built_in_types
function_with_a_value = refl

-- typedef int T(int | T);
pub parameter_named_as_its_type : ParameterNamedAsItsType
unfolding read reads run kind same_kind keyword_kind mark_kind built_in_types
parameter_named_as_its_type = refl

-- typedef int T[sizeof(struct { int | T; })];
pub member_named_as_its_type : MemberNamedAsItsType
unfolding read reads run kind same_kind keyword_kind mark_kind built_in_types
member_named_as_its_type = refl

-- typedef int T[sizeof(enum { | T })];
pub enumerator_named_as_its_type : EnumeratorNamedAsItsType
unfolding read reads run kind same_kind keyword_kind mark_kind built_in_types
enumerator_named_as_its_type = refl

-- int (*f[2])(int);
pub array_of_pointers : ArrayOfPointers
unfolding read reads run kind same_kind keyword_kind mark_kind built_in_types
array_of_pointers = record { spelled = refl; read_back = refl }

-- int *(*f)(void);
pub pointer_to_function : PointerToFunction
unfolding read reads run kind same_kind keyword_kind mark_kind built_in_types
pointer_to_function = record { spelled = refl; read_back = refl }

-- int x = a - b - c;
pub differences : Differences
unfolding read reads run kind same_kind keyword_kind mark_kind built_in_types
differences = record { spelled = refl; read_back = refl }

-- void f(void) { a = b = c; }
pub assignments : Assignments
unfolding read reads run kind same_kind keyword_kind mark_kind built_in_types
assignments = record { spelled = refl; read_back = refl }

-- int x = a ? b : c ? 1 : 2;
pub choices : Choices
unfolding read reads run kind same_kind keyword_kind mark_kind built_in_types
choices = record { spelled = refl; read_back = refl }

-- void f(void) { if (a) if (b) c; else d; }
pub inner_else : InnerElse
unfolding read reads run kind same_kind keyword_kind mark_kind built_in_types
inner_else = record { spelled = refl; read_back = refl }

-- int x = sizeof (int);
pub size_of_a_type : SizeOfAType
unfolding read reads run kind same_kind keyword_kind mark_kind built_in_types
size_of_a_type = record { spelled = refl; read_back = refl }

-- int x = sizeof (a) + 1;
pub size_of_a_value : SizeOfAValue
unfolding read reads run kind same_kind keyword_kind mark_kind built_in_types
size_of_a_value = record { spelled = refl; read_back = refl }

-- int x = (int)-a;
pub cast_of_a_minus : CastOfAMinus
unfolding read reads run kind same_kind keyword_kind mark_kind built_in_types
cast_of_a_minus = record { spelled = refl; read_back = refl }

-- int x = (b)-a;
pub minus_behind_brackets : MinusBehindBrackets
unfolding read reads run kind same_kind keyword_kind mark_kind built_in_types
minus_behind_brackets = record { spelled = refl; read_back = refl }

-- struct s { int a, *b; } x = { .a = 1, 2, };
pub struct_with_value : StructWithValue
unfolding read reads run kind same_kind keyword_kind mark_kind built_in_types
struct_with_value = record { spelled = refl; read_back = refl }

-- enum e { A, B = 2, };
pub enumeration : Enumeration
unfolding read reads run kind same_kind keyword_kind mark_kind built_in_types
enumeration = record { spelled = refl; read_back = refl }

-- typedef int T; int x = (T)-a;
pub cast_to_a_new_type : CastToANewType
unfolding read reads run kind same_kind keyword_kind mark_kind built_in_types
cast_to_a_new_type = record { spelled = refl; read_back = refl }

-- void f(void) { for (int i = 0; i < 2; i++) ; }
pub for_with_declaration : ForWithDeclaration
unfolding read reads run kind same_kind keyword_kind mark_kind built_in_types
for_with_declaration = record { spelled = refl; read_back = refl }

-- void f(void) { switch (a) { case 1: b; break; default: ; } }
pub cases : Cases
unfolding read reads run kind same_kind keyword_kind mark_kind built_in_types
cases = record { spelled = refl; read_back = refl }

-- void f(void) { l: goto l; }
pub jump : Jump
unfolding read reads run kind same_kind keyword_kind mark_kind built_in_types
jump = record { spelled = refl; read_back = refl }

-- void f(void) { p->x[1](2)++; }
pub postfix : Postfix
unfolding read reads run kind same_kind keyword_kind mark_kind built_in_types
postfix = record { spelled = refl; read_back = refl }

-- typedef int T[sizeof T];
pub size_of_its_own_name : SizeOfItsOwnName
unfolding read reads run kind same_kind keyword_kind mark_kind built_in_types
size_of_its_own_name = record { spelled = refl; read_back = refl }
