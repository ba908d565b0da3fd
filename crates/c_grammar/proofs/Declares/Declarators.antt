-- Declarators and parameters, and so all rules: none of the names that are declared is reserved.
use Rattle.std.proofs.Common.{◌≡◌, ℕ, Bool, List, []}
use Rattle.c_tree.specs.DeclaredNames.{declared_specifiers, declared_parameters}
use Rattle.c_tree.specs.Marks.{Tokens}
use Rattle.c_tree.specs.Tree.{Name, Quals, Stars, Specifiers, specifiers, no_specifiers, void_word, Parameters, no_parameters, parameters, bare_form, bare_stars}
use Rattle.c_tree.specs.TypeWords.{IsOrdinary}
use Rattle.c_grammar.specs.declared.kind.Kind.{Kind}
use Rattle.c_grammar.specs.declared.kind.Kind.TheVariants as k
use Rattle.c_grammar.specs.Kind.{kind}
use Rattle.c_grammar.specs.Rules.{NameEnvironment, barred, inside, Rule, an_expression, a_whole, a_prefix, a_rest, an_opened, all_arguments, more_arguments, a_type, all_specifiers, a_struct, all_members, more_members, all_declarators, more_declarators, an_enum, all_enumerators, more_enumerators, a_declarator, all_sizes, at_most_one_size, all_parameters, some_parameters, more_parameters, a_parameter, a_bare, declared_by, declarator_by, listed_parameters, parameters_by, more_parameters_by, parameter_name_by, parameter_pointer_by, parameter_by, bare_by, rule}
use Rattle.c_grammar.proofs.Avoiding.{Avoids, avoids_none, avoids_both, avoids_more}
use Rattle.c_grammar.proofs.Conditions.{go_always, go_done, go_stop, go_look, go_spend, go_rise, go_call, go_scope, go_if, go_any, go_wanted, go_name, go_a_name}
use Rattle.c_grammar.proofs.Declares.Apart.{Apart}
use Rattle.c_grammar.proofs.Declares.Expressions.{an_expression-apart, a_whole-apart, a_prefix-apart, a_rest-apart, an_opened-apart, all_arguments-apart, more_arguments-apart, all_sizes-apart, at_most_one_size-apart}
use Rattle.c_grammar.proofs.Declares.Types.{a_type-apart, all_specifiers-apart, a_struct-apart, all_members-apart, more_members-apart, all_declarators-apart, more_declarators-apart, an_enum-apart, all_enumerators-apart, more_enumerators-apart}
use Rattle.c_grammar.proofs.KindLemmas.{among_neither}

-- ---- declarators

declared-by : (t : NameEnvironment) (d : ℕ) (f y : Bool) (ss : Stars) (n : Name) (e : Kind) (us : Tokens) → IsOrdinary t.reserved n → Apart (a_declarator t d f y) (declared_by (inside y n t) d f ss n e) us
declared-by t d f y ss n k.OpenBracket us new = go_call (λ xs vs _ p. go_done (new, p))
declared-by t d f y ss n k.OpenParen us new = go_if {b = f} (λ on. go_any (λ m vs. go_call (λ ps ws _ p. go_done (new, p)))) (λ off. go_done (new, avoids_none (inside y n t).reserved))
declared-by t d f y ss n _ us new = go_done (new, avoids_none (inside y n t).reserved)

declarator-by : (t : NameEnvironment) (d : ℕ) (f y : Bool) (ss : Stars) (e : Kind) (us : Tokens) → kind (barred t) us ≡ e → Apart (a_declarator t d f y) (declarator_by t d f y ss e) us
declarator-by t d f y ss k.Name us is = go_name (barred t) is (λ n vs _ new. go_look (λ e next. declared-by t d f y ss n e vs (among_neither t.reserved t.types n new).0))
declarator-by t d f y ss k.OpenParen us is = go_any (λ m vs. go_wanted k.Star (λ ws. go_call (λ qs os _ _. go_a_name (λ n rs _ new. go_call (λ xs bs _ p.
    go_wanted k.CloseParen (λ cs. go_wanted k.OpenParen (λ fs. go_call (λ ps hs _ q. go_done ((among_neither t.reserved t.types n new).0, avoids_both (inside y n t).reserved _ _ p q)))))))))
declarator-by t d f y ss _ us is = go_stop

-- a declarator
a_declarator-apart : (t : NameEnvironment) (d : ℕ) (f y : Bool) (ts : Tokens) → Apart (a_declarator t d f y) (rule (a_declarator t d f y)) ts
a_declarator-apart t d f y ts = go_call (λ ss us _ _. go_look (λ e is. declarator-by t d f y ss e us is))

-- ---- parameters

listed : (ts : List Name) (ps : Parameters) → Avoids ts (declared_parameters ps) → Avoids ts (declared_parameters (listed_parameters ps).0)
listed ts (parameters (specifiers void_word no_specifiers) (bare_form (bare_stars [])) no_parameters) h = h
listed ts _ h = h

some : (t : NameEnvironment) (d : ℕ) (ts : Tokens) → Apart (all_parameters t d) (parameters_by t d k.Nothing) ts
some t d ts = go_call (λ ps us _ p. go_done (listed t.reserved ps p))

parameters-by : (t : NameEnvironment) (d : ℕ) (e : Kind) (ts : Tokens) → Apart (all_parameters t d) (parameters_by t d e) ts
parameters-by t d k.CloseParen ts = go_any (λ n us. go_done (avoids_none t.reserved))
parameters-by t d _ ts = some t d ts

-- the parameters of a function
all_parameters-apart : (t : NameEnvironment) (d : ℕ) (ts : Tokens) → Apart (all_parameters t d) (rule (all_parameters t d)) ts
all_parameters-apart t d ts = go_look (λ e is. parameters-by t d e ts)

-- a parameter and those behind it
some_parameters-apart : (t : NameEnvironment) (d : ℕ) (ts : Tokens) → Apart (some_parameters t d) (rule (some_parameters t d)) ts
some_parameters-apart t d ts = go_scope (λ x us _ p. go_call (λ ps vs _ q. go_done (avoids_both t.reserved _ _ p.0 (avoids_both t.reserved _ _ p.1 q))))

more_parameters-by : (t : NameEnvironment) (d : ℕ) (e : Kind) (ts : Tokens) → Apart (more_parameters t d) (more_parameters_by t d e) ts
more_parameters-by t d k.CloseParen ts = go_any (λ n us. go_done (avoids_none t.reserved))
more_parameters-by t d k.Comma ts = go_any (λ n us. go_call (λ ps vs _ p. go_done p))
more_parameters-by t d _ ts = go_stop

-- more parameters
more_parameters-apart : (t : NameEnvironment) (d : ℕ) (ts : Tokens) → Apart (more_parameters t d) (rule (more_parameters t d)) ts
more_parameters-apart t d ts = go_look (λ e is. more_parameters-by t d e ts)

name-by : (t : NameEnvironment) (d : ℕ) (ws : Specifiers) (ss : Stars) (n : Name) (e : Kind) (us : Tokens) → Avoids t.reserved (declared_specifiers ws) → IsOrdinary t.reserved n →
    Apart (a_parameter t d) (parameter_name_by t d ws ss n e) us
name-by t d ws ss n k.OpenBracket us h new = go_call (λ xs vs _ p. go_done (h, avoids_more t.reserved n _ new p))
name-by t d ws ss n _ us h new = go_done (h, avoids_more t.reserved n [] new (avoids_none t.reserved))

pointer-by : (t : NameEnvironment) (d : ℕ) (ws : Specifiers) (ss : Stars) (qs : Quals) (e : Kind) (us : Tokens) → kind (barred t) us ≡ e → Avoids t.reserved (declared_specifiers ws) →
    Apart (a_parameter t d) (parameter_pointer_by t d ws ss qs e) us
pointer-by t d ws ss qs k.Name us is h = go_rise (λ _ _. go_spend (λ _ _. go_name (barred t) is (λ n vs _ new. go_call (λ xs os _ p. go_wanted k.CloseParen (λ rs. go_wanted k.OpenParen (λ bs.
    go_call (λ ps cs _ q. go_done (h, avoids_more t.reserved n _ (among_neither t.reserved t.types n new).0 (avoids_both t.reserved _ _ p q)))))))))
pointer-by t d ws ss qs k.CloseParen us is h = go_any (λ n vs. go_wanted k.OpenParen (λ os. go_call (λ ps rs _ p. go_done (h, p))))
pointer-by t d ws ss qs _ us is h = go_stop

parameter-by : (t : NameEnvironment) (d : ℕ) (ws : Specifiers) (ss : Stars) (e : Kind) (us : Tokens) → kind (barred t) us ≡ e → Avoids t.reserved (declared_specifiers ws) →
    Apart (a_parameter t d) (parameter_by t d ws ss e) us
parameter-by t d ws ss k.Name us is h =
    go_rise (λ _ _. go_spend (λ _ _. go_name (barred t) is (λ n vs _ new. go_look (λ e next. name-by t d ws ss n e vs h (among_neither t.reserved t.types n new).0))))
parameter-by t d ws ss k.OpenParen us is h = go_any (λ n vs. go_wanted k.Star (λ os. go_call (λ qs rs _ _. go_look (λ e next. pointer-by t d ws ss qs e rs next h))))
parameter-by t d ws ss _ us is h = go_done (h, avoids_none t.reserved)

-- a parameter
a_parameter-apart : (t : NameEnvironment) (d : ℕ) (ts : Tokens) → Apart (a_parameter t d) (rule (a_parameter t d)) ts
a_parameter-apart t d ts = go_call (λ ws us _ p. go_call (λ ss vs _ _. go_look (λ e is. parameter-by t d ws ss e vs is p)))

bare-by : (t : NameEnvironment) (d : ℕ) (ss : Stars) (e : Kind) (us : Tokens) → Apart (a_bare t d) (bare_by t d ss e) us
bare-by t d ss k.OpenParen us =
    go_any (λ n vs. go_wanted k.Star (λ ws. go_call (λ qs os _ _. go_wanted k.CloseParen (λ rs. go_wanted k.OpenParen (λ bs. go_call (λ ps cs _ p. go_done p))))))
bare-by t d ss _ us = go_done (avoids_none t.reserved)

-- what stands for a declarator in a type
a_bare-apart : (t : NameEnvironment) (d : ℕ) (ts : Tokens) → Apart (a_bare t d) (rule (a_bare t d)) ts
a_bare-apart t d ts = go_call (λ ss us _ _. go_look (λ e is. bare-by t d ss e us))

-- ---- all rules

-- What each rule reads declares nothing that is reserved.
pub all_apart : (r : Rule) (ts : Tokens) → Apart r (rule r) ts
all_apart (an_expression t d l o) ts = an_expression-apart t d l o ts
all_apart (a_whole t d l o) ts = a_whole-apart t d l o ts
all_apart (a_prefix t d l o) ts = a_prefix-apart t d l o ts
all_apart (a_rest t d l x) ts = a_rest-apart t d l x ts
all_apart (an_opened t d) ts = an_opened-apart t d ts
all_apart (all_arguments t d) ts = all_arguments-apart t d ts
all_apart (more_arguments t d) ts = more_arguments-apart t d ts
all_apart (a_type t d) ts = a_type-apart t d ts
all_apart (all_specifiers t d b ws) ts = all_specifiers-apart t d b ws ts
all_apart (a_struct t d) ts = a_struct-apart t d ts
all_apart (all_members t d) ts = all_members-apart t d ts
all_apart (more_members t d) ts = more_members-apart t d ts
all_apart (all_declarators t d) ts = all_declarators-apart t d ts
all_apart (more_declarators t d) ts = more_declarators-apart t d ts
all_apart (an_enum t d) ts = an_enum-apart t d ts
all_apart (all_enumerators t d) ts = all_enumerators-apart t d ts
all_apart (more_enumerators t d) ts = more_enumerators-apart t d ts
all_apart (a_declarator t d f y) ts = a_declarator-apart t d f y ts
all_apart (all_sizes t d) ts = all_sizes-apart t d ts
all_apart (at_most_one_size t d) ts = at_most_one_size-apart t d ts
all_apart (all_parameters t d) ts = all_parameters-apart t d ts
all_apart (some_parameters t d) ts = some_parameters-apart t d ts
all_apart (more_parameters t d) ts = more_parameters-apart t d ts
all_apart (a_parameter t d) ts = a_parameter-apart t d ts
all_apart (a_bare t d) ts = a_bare-apart t d ts
all_apart _ ts = go_always (λ x us n. tt)
