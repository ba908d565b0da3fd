-- What each rule counts: the nodes of what it reads, and how deep they lie. Where the node of what is read was counted with
-- the token before, the count grows by one less. A list that is never empty is 1 deep at least.
use Rattle.std.specs.Prelude.{◌≡◌, ◌≢◌, ℕ, suc, ◌+◌, ◌≤◌, max, [], ◌++◌, length, Bool, true, false}
use Rattle.c_tree.specs.TypeWords.{is_one_type, type_words, has_tag}
use Rattle.c_tree.specs.Tree.{Specifiers, no_specifiers, specifiers, const_word, volatile_word, struct_tag, struct_of, enum_tag, enum_of}
use Rattle.c_tree.specs.Marks.{Tokens}
use Rattle.c_tree.specs.Nodes.{nodes_expression, nodes_expressions, nodes_sizes, nodes_type, nodes_specifiers, nodes_specifier, nodes_members, nodes_declarators, nodes_enumerators, nodes_declarator, nodes_parameters, nodes_form, nodes_bare, nodes_init, nodes_initializers, nodes_named, nodes_names, nodes_declaration, nodes_optional, nodes_start, nodes_statement, nodes_statements, nodes_item, nodes_items}
use Rattle.c_tree.specs.Depth.{depth_expression, depth_expressions, depth_sizes, depth_type, depth_specifiers, depth_specifier, depth_members, depth_declarators, depth_enumerators, depth_declarator, depth_parameters, depth_form, depth_bare, depth_init, depth_initializers, depth_named, depth_names, depth_declaration, depth_optional, depth_start, depth_statement, depth_statements, depth_item, depth_items}
use Rattle.c_grammar.specs.declared.kind.Kind.TheVariants as k
use Rattle.c_grammar.specs.Kind.{kind}
use Rattle.c_grammar.specs.Gauge.{Meter}
use Rattle.c_grammar.specs.Rules.{Rule, Result, is_function, an_expression, a_whole, a_prefix, a_rest, an_opened, more_texts, all_arguments, more_arguments, a_type, all_specifiers, a_struct, all_members, more_members, all_declarators, more_declarators, an_enum, all_enumerators, more_enumerators, all_stars, all_quals, a_declarator, all_sizes, at_most_one_size, all_parameters, some_parameters, more_parameters, a_parameter, a_bare, an_initializer, all_initializers, more_initializers, a_declaration, a_declared, a_named, more_named, an_optional, a_start, a_statement, all_statements, an_outer, more_outer, a_first, an_item, all_items}

-- the first word of a type that is neither a struct nor an enum counts the name that has to follow
abbrev pub first_count : Specifiers → ℕ
first_count no_specifiers = 0
first_count (specifiers const_word xs) = first_count xs
first_count (specifiers volatile_word xs) = first_count xs
first_count (specifiers (struct_tag n) xs) = 0
first_count (specifiers (struct_of t ms) xs) = 0
first_count (specifiers (enum_tag n) xs) = 0
first_count (specifiers (enum_of t es c) xs) = 0
first_count (specifiers _ xs) = 1

abbrev pub first_counts : Bool → Specifiers → ℕ
first_counts false xs = 0
first_counts true xs = first_count xs

abbrev pub Costs : (r : Rule) → Tokens → Meter → Result r → Tokens → Meter → Type 0
Costs (an_expression t d l o) ts m x us n = (suc n.made ≡ m.made + (o + length (nodes_expression x))) × (n.peak ≡ max m.peak (d + depth_expression x))
Costs (a_whole t d l o) ts m x us n = m.peak ≡ d + 1 → (suc n.made ≡ m.made + (o + length (nodes_expression x))) × (n.peak ≡ d + depth_expression x)
Costs (a_prefix t d l o) ts m x us n = m.peak ≡ d + 1 → (suc n.made ≡ m.made + (o + length (nodes_expression x))) × (n.peak ≡ d + depth_expression x)
Costs (a_rest t d l x) ts m y us n = m.peak ≡ d + depth_expression x → (n.made + length (nodes_expression x) ≡ m.made + length (nodes_expression y)) × (n.peak ≡ d + depth_expression y)
Costs (an_opened t d) ts m x us n = m.peak ≡ d + 1 → (n.made ≡ m.made + length (nodes_expression x)) × (n.peak ≡ d + depth_expression x)
Costs more_texts ts m ns us n = n ≡ m
Costs (all_arguments t d) ts m xs us n = d ≤ m.peak → (n.made ≡ m.made + length (nodes_expressions xs)) × (n.peak ≡ max m.peak (d + depth_expressions xs))
Costs (more_arguments t d) ts m xs us n = d ≤ m.peak → (n.made ≡ m.made + length (nodes_expressions xs)) × (n.peak ≡ max m.peak (d + depth_expressions xs))
Costs (a_type t d) ts m x us n = d ≤ m.peak → (n.made ≡ m.made + length (nodes_type x)) × (n.peak ≡ max m.peak (d + depth_type x))
Costs (all_specifiers t d b ws) ts m xs us n =
    d ≤ m.peak → (n.made ≡ m.made + (first_counts b xs + length (nodes_specifiers xs))) × (n.peak ≡ max m.peak (d + max (first_counts b xs) (depth_specifiers xs))) × (is_one_type (ws ++ type_words xs) ≡ true)
Costs (a_struct t d) ts m x us n = d ≤ m.peak → (n.made ≡ m.made + length (nodes_specifier x)) × (n.peak ≡ max m.peak (d + depth_specifier x)) × (has_tag (specifiers x no_specifiers) ≡ true)
Costs (all_members t d) ts m ms us n = suc d ≤ m.peak → (suc n.made ≡ m.made + length (nodes_members ms)) × (n.peak ≡ max m.peak (d + depth_members ms)) × (1 ≤ depth_members ms)
Costs (more_members t d) ts m ms us n = d ≤ m.peak → (n.made ≡ m.made + length (nodes_members ms)) × (n.peak ≡ max m.peak (d + depth_members ms))
Costs (all_declarators t d) ts m cs us n = suc d ≤ m.peak → (suc n.made ≡ m.made + length (nodes_declarators cs)) × (n.peak ≡ max m.peak (d + depth_declarators cs)) × (1 ≤ depth_declarators cs)
Costs (more_declarators t d) ts m cs us n = d ≤ m.peak → (n.made ≡ m.made + length (nodes_declarators cs)) × (n.peak ≡ max m.peak (d + depth_declarators cs))
Costs (an_enum t d) ts m x us n = d ≤ m.peak → (n.made ≡ m.made + length (nodes_specifier x)) × (n.peak ≡ max m.peak (d + depth_specifier x)) × (has_tag (specifiers x no_specifiers) ≡ true)
Costs (all_enumerators t d) ts m es us n = suc d ≤ m.peak → (suc n.made ≡ m.made + length (nodes_enumerators es.0)) × (n.peak ≡ max m.peak (d + depth_enumerators es.0)) × (1 ≤ depth_enumerators es.0)
Costs (more_enumerators t d) ts m es us n = d ≤ m.peak → (n.made ≡ m.made + length (nodes_enumerators es.0)) × (n.peak ≡ max m.peak (d + depth_enumerators es.0))
Costs all_stars ts m ss us n = n ≡ m
Costs all_quals ts m qs us n = n ≡ m
Costs (a_declarator t d f y) ts m c us n = d ≤ m.peak → (n.made ≡ m.made + length (nodes_declarator c)) × (n.peak ≡ max m.peak (d + depth_declarator c))
Costs (all_sizes t d) ts m xs us n = d ≤ m.peak → (n.made ≡ m.made + length (nodes_sizes xs)) × (n.peak ≡ max m.peak (d + depth_sizes xs))
Costs (at_most_one_size t d) ts m xs us n = d ≤ m.peak → (n.made ≡ m.made + length (nodes_sizes xs)) × (n.peak ≡ max m.peak (d + depth_sizes xs))
Costs (all_parameters t d) ts m ps us n = d ≤ m.peak → (n.made ≡ m.made + length (nodes_parameters ps.0)) × (n.peak ≡ max m.peak (d + depth_parameters ps.0))
Costs (some_parameters t d) ts m ps us n = d ≤ m.peak → (n.made ≡ m.made + length (nodes_parameters ps)) × (n.peak ≡ max m.peak (d + depth_parameters ps))
Costs (more_parameters t d) ts m ps us n = d ≤ m.peak → (n.made ≡ m.made + length (nodes_parameters ps)) × (n.peak ≡ max m.peak (d + depth_parameters ps))
Costs (a_parameter t d) ts m p us n = m.peak ≡ d → (n.made ≡ m.made + length (nodes_form (nodes_specifiers p.0) p.0 p.1)) × (n.peak ≡ d + depth_form (depth_specifiers p.0) p.1)
Costs (a_bare t d) ts m x us n = d ≤ m.peak → (n.made ≡ m.made + length (nodes_bare x)) × (n.peak ≡ max m.peak (d + depth_bare x))
Costs (an_initializer t d o) ts m i us n = (suc n.made ≡ m.made + (o + length (nodes_init i))) × (n.peak ≡ max m.peak (d + depth_init i))
Costs (all_initializers t d o) ts m ps us n = d ≤ m.peak → (suc n.made ≡ m.made + (o + length (nodes_initializers ps.0))) × (n.peak ≡ max m.peak (d + depth_initializers ps.0)) × (1 ≤ depth_initializers ps.0)
Costs (more_initializers t d) ts m ps us n = d ≤ m.peak → (n.made ≡ m.made + length (nodes_initializers ps.0)) × (n.peak ≡ max m.peak (d + depth_initializers ps.0))
Costs (a_declaration t d) ts m x us n = d ≤ m.peak → (suc n.made ≡ m.made + length (nodes_declaration x)) × (suc n.peak ≡ max (suc m.peak) (d + depth_declaration x))
Costs (a_declared t d c) ts m x us n = d ≤ m.peak → (suc n.made ≡ m.made + length (nodes_declaration x)) × (suc n.peak ≡ max (suc m.peak) (d + depth_declaration x))
Costs (a_named t d) ts m x us n = suc d ≤ m.peak → (suc n.made ≡ m.made + length (nodes_named x)) × (n.peak ≡ max m.peak (d + depth_named x))
Costs (more_named t d) ts m xs us n = d ≤ m.peak → (n.made ≡ m.made + length (nodes_names xs)) × (n.peak ≡ max m.peak (d + depth_names xs))
Costs (an_optional t d e) ts m x us n = d ≤ m.peak → (n.made ≡ m.made + length (nodes_optional x)) × (n.peak ≡ max m.peak (d + depth_optional x))
Costs (a_start t d) ts m x us n = d ≤ m.peak → (n.made ≡ m.made + length (nodes_start x)) × (n.peak ≡ max m.peak (d + depth_start x))
Costs (a_statement t d p o) ts m x us n = (suc n.made ≡ m.made + (o + length (nodes_statement x))) × (n.peak ≡ max m.peak (d + depth_statement x))
Costs (all_statements t d p) ts m xs us n = d ≤ m.peak → (n.made ≡ m.made + length (nodes_statements xs)) × (n.peak ≡ max m.peak (d + depth_statements xs))
Costs (an_outer c s) ts m x us n = 3 ≤ m.peak → (suc n.made ≡ m.made + length (nodes_named x)) × (n.peak ≡ max m.peak (2 + depth_named x))
Costs (more_outer c s) ts m xs us n = 2 ≤ m.peak → (n.made ≡ m.made + length (nodes_names xs)) × (n.peak ≡ max m.peak (2 + depth_names xs))
Costs (a_first t) ts m c us n =
    m.peak ≡ 2 → (n.made ≡ m.made + length (nodes_declarator c)) × (is_function c ≡ true → kind [] us ≡ k.OpenBrace → n.peak ≡ 2 + depth_declarator c) ×
    (is_function c ≡ false → n.peak ≡ 3 + depth_declarator c) × (kind [] us ≢ k.OpenBrace → n.peak ≡ 3 + depth_declarator c)
Costs (an_item s) ts m x us n = 1 ≤ m.peak → (n.made ≡ m.made + length (nodes_item x)) × (n.peak ≡ max m.peak (1 + depth_item x))
Costs (all_items s) ts m xs us n = 1 ≤ m.peak → (n.made ≡ m.made + length (nodes_items xs)) × (n.peak ≡ max m.peak (1 + depth_items xs))
