-- The names that are declared by what a rule reads: none of them is reserved.
use Rattle.c_tree.specs.Marks.{Tokens}
use Rattle.c_tree.specs.TypeWords.{IsOrdinary}
use Rattle.c_tree.specs.DeclaredNames.{declarator_name, declared_inside, declared_expression, declared_expressions, declared_sizes, declared_type, declared_specifiers, declared_specifier, declared_members, declared_declarators, declared_enumerators, declared_parameters, declared_form, declared_bare}
use Rattle.c_grammar.specs.Gauge.{free}
use Rattle.c_grammar.specs.Rules.{inside, Rule, Result, Reads, an_expression, a_whole, a_prefix, a_rest, an_opened, all_arguments, more_arguments, a_type, all_specifiers, a_struct, all_members, more_members, all_declarators, more_declarators, an_enum, all_enumerators, more_enumerators, a_declarator, all_sizes, at_most_one_size, all_parameters, some_parameters, more_parameters, a_parameter, a_bare}
use Rattle.c_grammar.proofs.Avoiding.{Avoids}
use Rattle.c_grammar.proofs.Conditions.{Goes}
use Rattle.c_grammar.proofs.Read.{Read}

-- Nothing that is declared in types, expressions and declarators is reserved: in the declarator of a type its own name is reserved instead.
abbrev pub Declared : (r : Rule) → Result r → Type 0
Declared (an_expression t d l o) x = Avoids t.reserved (declared_expression x)
Declared (a_whole t d l o) x = Avoids t.reserved (declared_expression x)
Declared (a_prefix t d l o) x = Avoids t.reserved (declared_expression x)
Declared (a_rest t d l x) y = Avoids t.reserved (declared_expression x) → Avoids t.reserved (declared_expression y)
Declared (an_opened t d) x = Avoids t.reserved (declared_expression x)
Declared (all_arguments t d) xs = Avoids t.reserved (declared_expressions xs)
Declared (more_arguments t d) xs = Avoids t.reserved (declared_expressions xs)
Declared (a_type t d) y = Avoids t.reserved (declared_type y)
Declared (all_specifiers t d b ws) xs = Avoids t.reserved (declared_specifiers xs)
Declared (a_struct t d) x = Avoids t.reserved (declared_specifier x)
Declared (all_members t d) ms = Avoids t.reserved (declared_members ms)
Declared (more_members t d) ms = Avoids t.reserved (declared_members ms)
Declared (all_declarators t d) cs = Avoids t.reserved (declared_declarators cs)
Declared (more_declarators t d) cs = Avoids t.reserved (declared_declarators cs)
Declared (an_enum t d) x = Avoids t.reserved (declared_specifier x)
Declared (all_enumerators t d) es = Avoids t.reserved (declared_enumerators es.0)
Declared (more_enumerators t d) es = Avoids t.reserved (declared_enumerators es.0)
Declared (a_declarator t d f y) c = IsOrdinary t.reserved (declarator_name c) × Avoids (inside y (declarator_name c) t).reserved (declared_inside c)
Declared (all_sizes t d) xs = Avoids t.reserved (declared_sizes xs)
Declared (at_most_one_size t d) xs = Avoids t.reserved (declared_sizes xs)
Declared (all_parameters t d) ps = Avoids t.reserved (declared_parameters ps.0)
Declared (some_parameters t d) ps = Avoids t.reserved (declared_parameters ps)
Declared (more_parameters t d) ps = Avoids t.reserved (declared_parameters ps)
Declared (a_parameter t d) p = Avoids t.reserved (declared_specifiers p.0) × Avoids t.reserved (declared_form p.1)
Declared (a_bare t d) x = Avoids t.reserved (declared_bare x)
Declared _ x = Unit {0}

abbrev pub Declares : (r : Rule) → Tokens → Unit {0} → Result r → Tokens → Unit {0} → Type 0
Declares r ts m x us n = Declared r x

-- what the body of a rule reads declares nothing that is reserved, if nothing that it calls does
abbrev pub Apart : (r : Rule) → Reads (Result r) → Tokens → Type 0
Apart r b ts = Goes (Unit {0}) free Declares (Result r) b (λ x us n. Declared r x) ts tt

-- what a rule yields: tokens that a tree of its shape spells, which declares nothing that is reserved
abbrev pub Yields : (r : Rule) → Tokens → Unit {0} → Result r → Tokens → Unit {0} → Type 0
Yields r ts m x us n = Read r ts m x us n × Declares r ts m x us n
