-- Parameters of a function, one by one and as a list.
use Rattle.std.specs.Prelude.{◌≡◌, ℕ, ◌+◌, List, [], ◌∷◌, map, Bool, true, false, ◌&&◌, Result, Ok, Err}
use Rattle.c_tree.specs.declared.tree.SpecWord.{SpecWord}
use Rattle.c_tree.specs.declared.tree.Declarator.{Declarator}
use Rattle.c_tree.specs.declared.tree.Parameter.{Parameter as Written}
use Rattle.c_tree.specs.Tree.{Specifier, void_word, Specifiers, specifiers, no_specifiers, Parameters, parameters, ParameterForm, named_form, bare_form, bare_stars, DeclaratorTree, Quals, Stars}
use Rattle.c_tree.specs.View.{view_specifier, view_declarator, view_parameter, specifiers_of, parameters_of}
use Rattle.c_grammar.specs.declared.kind.Kind.TheVariants as k
use Rattle.c_grammar.specs.declared.refusal.Refusal.{Refusal}
use Rattle.c_grammar.specs.Body.{done, look, scope, rise, spend, take}
use Rattle.c_grammar.specs.Body as body
use Rattle.c_grammar.specs.Rules.{NameEnvironment, Reads, Parameter, skip, expect, barred, a_parameter, all_quals, all_parameters, declared_by, pointed, parameter_pointer_by, listed_parameters}

-- the word void
abbrev pub is_void_word : Specifier → Bool
is_void_word void_word = true
is_void_word _ = false

-- no other specifier
abbrev pub only_void : Specifiers → Bool
only_void (specifiers x no_specifiers) = is_void_word x
only_void _ = false

-- neither a name nor stars
abbrev pub is_plain : ParameterForm → Bool
is_plain (bare_form (bare_stars [])) = true
is_plain _ = false

-- the word void alone
abbrev pub is_void : Specifiers × ParameterForm → Bool
is_void p = only_void p.0 && is_plain p.1

-- one parameter, which is that word
abbrev pub is_one_void : List (Specifiers × ParameterForm) → Bool
is_one_void (p ∷ []) = is_void p
is_one_void _ = false

abbrev pub listed : List (Specifiers × ParameterForm) → Parameters × Bool
listed ps = listed_parameters (parameters_of ps)

-- a parameter before others
abbrev pub with_parameter : Specifiers × ParameterForm → Parameters → Parameters
with_parameter p ps = parameters p.0 p.1 ps

-- one parameter, in its own scope
abbrev pub one_parameter : NameEnvironment → ℕ → Reads Parameter
one_parameter t d = scope d (a_parameter t d) done

-- one more, behind a comma
abbrev pub another_parameter : NameEnvironment → ℕ → Reads Parameter
another_parameter t d = skip (scope d (a_parameter t d) done)

-- the declarator of a parameter, at its name, which lies one node deeper than the parameter
abbrev pub named : NameEnvironment → ℕ → Stars → Reads DeclaratorTree
named t d ss = rise (spend 1 (d + 1) (take (λ n. look [] (declared_by t (d + 1) false ss n))))

-- the same of a pointer to a function
abbrev pub named_pointer : NameEnvironment → ℕ → Stars → Quals → Reads DeclaratorTree
named_pointer t d ss qs = rise (spend 1 (d + 1) (take (λ n. pointed t (d + 1) ss qs n)))

-- the parameters of a pointer to a function without a name, at the bracket behind its star
abbrev pub behind_pointer : NameEnvironment → ℕ → Reads (Parameters × Bool)
behind_pointer t d = skip (expect k.OpenParen (body.call (all_parameters t d) done))

-- the parameter of a declarator, where one was read
abbrev pub Declaring : List SpecWord → Result Declarator Refusal → Result Written Refusal → Type 0
Declaring ws (Ok x) (Ok p) = view_parameter p ≡ (specifiers_of (map view_specifier ws), named_form (view_declarator x))
Declaring ws (Err e) (Err f) = f ≡ e
Declaring ws _ _ = ⊥

-- behind the bracket of a pointer to a function
abbrev pub inner_by : NameEnvironment → ℕ → Specifiers → Stars → Reads Parameter
inner_by t d ws ss = expect k.Star (body.call all_quals (λ qs. look (barred t) (parameter_pointer_by t d ws ss qs)))
