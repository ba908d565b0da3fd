-- Each rule reads what code reads that performs its body: one lemma for each rule, for the lists of tactics.
use Rattle.std.proofs.Common.{◌≡◌, ℕ, Bool, List}
use Rattle.c_tree.specs.declared.tree.Storage.{Storage}
use Rattle.c_tree.specs.declared.type_word.TypeWord.{TypeWord}
use Rattle.c_tree.specs.Shape.{Scope, Context}
use Rattle.c_tree.specs.Tree.{Expression}
use Rattle.c_grammar.specs.declared.kind.Kind.{Kind}
use Rattle.c_grammar.specs.Kind.{IsReal}
use Rattle.c_grammar.specs.Input.{Input}
use Rattle.c_grammar.specs.Reading.{read}
use Rattle.c_grammar.specs.Rules.{NameEnvironment, rule, an_expression, a_whole, a_prefix, a_rest, an_opened, more_texts, all_arguments, more_arguments, a_type, all_specifiers, a_struct, all_members, more_members, all_declarators, more_declarators, an_enum, all_enumerators, more_enumerators, all_stars, all_quals, a_declarator, all_sizes, at_most_one_size, all_parameters, some_parameters, more_parameters, a_parameter, a_bare, an_initializer, all_initializers, more_initializers, a_declaration, a_declared, a_named, more_named, an_optional, a_start, a_statement, all_statements, an_outer, more_outer, a_first, an_item, all_items}
use Rattle.c_grammar.specs.Performing.{perform}
pub use Rattle.c_grammar.proofs.Performs.Rules.{read_performs}

pub expression_performs : (t : NameEnvironment) (d l o : ℕ) (i : Input) → read (an_expression t d l o) i ≡ perform (rule (an_expression t d l o)) i
expression_performs t d l o i = read_performs (an_expression t d l o) tt i

pub whole_performs : (t : NameEnvironment) (d l o : ℕ) (i : Input) → read (a_whole t d l o) i ≡ perform (rule (a_whole t d l o)) i
whole_performs t d l o i = read_performs (a_whole t d l o) tt i

pub prefix_performs : (t : NameEnvironment) (d l o : ℕ) (i : Input) → read (a_prefix t d l o) i ≡ perform (rule (a_prefix t d l o)) i
prefix_performs t d l o i = read_performs (a_prefix t d l o) tt i

pub rest_performs : (t : NameEnvironment) (d l : ℕ) (x : Expression) (i : Input) → read (a_rest t d l x) i ≡ perform (rule (a_rest t d l x)) i
rest_performs t d l x i = read_performs (a_rest t d l x) tt i

pub opened_performs : (t : NameEnvironment) (d : ℕ) (i : Input) → read (an_opened t d) i ≡ perform (rule (an_opened t d)) i
opened_performs t d i = read_performs (an_opened t d) tt i

pub more_texts_performs : (i : Input) → read more_texts i ≡ perform (rule more_texts) i
more_texts_performs i = read_performs more_texts tt i

pub arguments_performs : (t : NameEnvironment) (d : ℕ) (i : Input) → read (all_arguments t d) i ≡ perform (rule (all_arguments t d)) i
arguments_performs t d i = read_performs (all_arguments t d) tt i

pub more_arguments_performs : (t : NameEnvironment) (d : ℕ) (i : Input) → read (more_arguments t d) i ≡ perform (rule (more_arguments t d)) i
more_arguments_performs t d i = read_performs (more_arguments t d) tt i

pub type_performs : (t : NameEnvironment) (d : ℕ) (i : Input) → read (a_type t d) i ≡ perform (rule (a_type t d)) i
type_performs t d i = read_performs (a_type t d) tt i

pub specifiers_performs : (t : NameEnvironment) (d : ℕ) (b : Bool) (ws : List TypeWord) (i : Input) → read (all_specifiers t d b ws) i ≡ perform (rule (all_specifiers t d b ws)) i
specifiers_performs t d b ws i = read_performs (all_specifiers t d b ws) tt i

pub struct_performs : (t : NameEnvironment) (d : ℕ) (i : Input) → read (a_struct t d) i ≡ perform (rule (a_struct t d)) i
struct_performs t d i = read_performs (a_struct t d) tt i

pub members_performs : (t : NameEnvironment) (d : ℕ) (i : Input) → read (all_members t d) i ≡ perform (rule (all_members t d)) i
members_performs t d i = read_performs (all_members t d) tt i

pub more_members_performs : (t : NameEnvironment) (d : ℕ) (i : Input) → read (more_members t d) i ≡ perform (rule (more_members t d)) i
more_members_performs t d i = read_performs (more_members t d) tt i

pub declarators_performs : (t : NameEnvironment) (d : ℕ) (i : Input) → read (all_declarators t d) i ≡ perform (rule (all_declarators t d)) i
declarators_performs t d i = read_performs (all_declarators t d) tt i

pub more_declarators_performs : (t : NameEnvironment) (d : ℕ) (i : Input) → read (more_declarators t d) i ≡ perform (rule (more_declarators t d)) i
more_declarators_performs t d i = read_performs (more_declarators t d) tt i

pub enum_performs : (t : NameEnvironment) (d : ℕ) (i : Input) → read (an_enum t d) i ≡ perform (rule (an_enum t d)) i
enum_performs t d i = read_performs (an_enum t d) tt i

pub enumerators_performs : (t : NameEnvironment) (d : ℕ) (i : Input) → read (all_enumerators t d) i ≡ perform (rule (all_enumerators t d)) i
enumerators_performs t d i = read_performs (all_enumerators t d) tt i

pub more_enumerators_performs : (t : NameEnvironment) (d : ℕ) (i : Input) → read (more_enumerators t d) i ≡ perform (rule (more_enumerators t d)) i
more_enumerators_performs t d i = read_performs (more_enumerators t d) tt i

pub stars_performs : (i : Input) → read all_stars i ≡ perform (rule all_stars) i
stars_performs i = read_performs all_stars tt i

pub quals_performs : (i : Input) → read all_quals i ≡ perform (rule all_quals) i
quals_performs i = read_performs all_quals tt i

pub declarator_performs : (t : NameEnvironment) (d : ℕ) (f y : Bool) (i : Input) → read (a_declarator t d f y) i ≡ perform (rule (a_declarator t d f y)) i
declarator_performs t d f y i = read_performs (a_declarator t d f y) tt i

pub sizes_performs : (t : NameEnvironment) (d : ℕ) (i : Input) → read (all_sizes t d) i ≡ perform (rule (all_sizes t d)) i
sizes_performs t d i = read_performs (all_sizes t d) tt i

pub at_most_one_size_performs : (t : NameEnvironment) (d : ℕ) (i : Input) → read (at_most_one_size t d) i ≡ perform (rule (at_most_one_size t d)) i
at_most_one_size_performs t d i = read_performs (at_most_one_size t d) tt i

pub parameters_performs : (t : NameEnvironment) (d : ℕ) (i : Input) → read (all_parameters t d) i ≡ perform (rule (all_parameters t d)) i
parameters_performs t d i = read_performs (all_parameters t d) tt i

pub some_parameters_performs : (t : NameEnvironment) (d : ℕ) (i : Input) → read (some_parameters t d) i ≡ perform (rule (some_parameters t d)) i
some_parameters_performs t d i = read_performs (some_parameters t d) tt i

pub more_parameters_performs : (t : NameEnvironment) (d : ℕ) (i : Input) → read (more_parameters t d) i ≡ perform (rule (more_parameters t d)) i
more_parameters_performs t d i = read_performs (more_parameters t d) tt i

pub parameter_performs : (t : NameEnvironment) (d : ℕ) (i : Input) → read (a_parameter t d) i ≡ perform (rule (a_parameter t d)) i
parameter_performs t d i = read_performs (a_parameter t d) tt i

pub bare_performs : (t : NameEnvironment) (d : ℕ) (i : Input) → read (a_bare t d) i ≡ perform (rule (a_bare t d)) i
bare_performs t d i = read_performs (a_bare t d) tt i

pub initializer_performs : (t : NameEnvironment) (d o : ℕ) (i : Input) → read (an_initializer t d o) i ≡ perform (rule (an_initializer t d o)) i
initializer_performs t d o i = read_performs (an_initializer t d o) tt i

pub initializers_performs : (t : NameEnvironment) (d o : ℕ) (i : Input) → read (all_initializers t d o) i ≡ perform (rule (all_initializers t d o)) i
initializers_performs t d o i = read_performs (all_initializers t d o) tt i

pub more_initializers_performs : (t : NameEnvironment) (d : ℕ) (i : Input) → read (more_initializers t d) i ≡ perform (rule (more_initializers t d)) i
more_initializers_performs t d i = read_performs (more_initializers t d) tt i

pub declaration_performs : (t : NameEnvironment) (d : ℕ) (i : Input) → read (a_declaration t d) i ≡ perform (rule (a_declaration t d)) i
declaration_performs t d i = read_performs (a_declaration t d) tt i

pub declared_performs : (t : NameEnvironment) (d : ℕ) (c : Storage) (i : Input) → read (a_declared t d c) i ≡ perform (rule (a_declared t d c)) i
declared_performs t d c i = read_performs (a_declared t d c) tt i

pub named_performs : (t : NameEnvironment) (d : ℕ) (i : Input) → read (a_named t d) i ≡ perform (rule (a_named t d)) i
named_performs t d i = read_performs (a_named t d) tt i

pub more_named_performs : (t : NameEnvironment) (d : ℕ) (i : Input) → read (more_named t d) i ≡ perform (rule (more_named t d)) i
more_named_performs t d i = read_performs (more_named t d) tt i

pub optional_performs : (t : NameEnvironment) (d : ℕ) (e : Kind) → IsReal e → (i : Input) → read (an_optional t d e) i ≡ perform (rule (an_optional t d e)) i
optional_performs t d e w i = read_performs (an_optional t d e) w i

pub start_performs : (t : NameEnvironment) (d : ℕ) (i : Input) → read (a_start t d) i ≡ perform (rule (a_start t d)) i
start_performs t d i = read_performs (a_start t d) tt i

pub statement_performs : (t : NameEnvironment) (d : ℕ) (p : Context) (o : ℕ) (i : Input) → read (a_statement t d p o) i ≡ perform (rule (a_statement t d p o)) i
statement_performs t d p o i = read_performs (a_statement t d p o) tt i

pub statements_performs : (t : NameEnvironment) (d : ℕ) (p : Context) (i : Input) → read (all_statements t d p) i ≡ perform (rule (all_statements t d p)) i
statements_performs t d p i = read_performs (all_statements t d p) tt i

pub outer_performs : (c : Storage) (s : Scope) (i : Input) → read (an_outer c s) i ≡ perform (rule (an_outer c s)) i
outer_performs c s i = read_performs (an_outer c s) tt i

pub more_outer_performs : (c : Storage) (s : Scope) (i : Input) → read (more_outer c s) i ≡ perform (rule (more_outer c s)) i
more_outer_performs c s i = read_performs (more_outer c s) tt i

pub first_performs : (t : NameEnvironment) (i : Input) → read (a_first t) i ≡ perform (rule (a_first t)) i
first_performs t i = read_performs (a_first t) tt i

pub item_performs : (s : Scope) (i : Input) → read (an_item s) i ≡ perform (rule (an_item s)) i
item_performs s i = read_performs (an_item s) tt i

pub items_performs : (s : Scope) (i : Input) → read (all_items s) i ≡ perform (rule (all_items s)) i
items_performs s i = read_performs (all_items s) tt i
