-- What is read within the limits is counted within them.
use Rattle.std.proofs.Common.{◌≡◌, false, List, cond, [], ◌∷◌, arith}
use Rattle.c_tree.specs.declared.tree.Storage.{Storage}
use Rattle.c_tree.specs.declared.tree.Storage.TheVariants as st
use Rattle.c_tree.specs.TypeWords.{has_tag}
use Rattle.c_tree.specs.Tree.{Name, Stars, Specifiers, DeclaratorTree, plain, function, NamedTree, ItemTree}
use Rattle.c_tree.specs.Marks.{Tokens}
use Rattle.c_tree.specs.Shape.{Scope, behind_specifiers, behind_item}
use Rattle.c_grammar.specs.declared.kind.Kind.{Kind}
use Rattle.c_grammar.specs.declared.kind.Kind.TheVariants as k
use Rattle.c_grammar.specs.Body.{done, got}
use Rattle.c_grammar.specs.Body as body
use Rattle.c_grammar.specs.Gauge.{Meter, limited}
use Rattle.c_grammar.specs.Input.{Input}
use Rattle.c_grammar.specs.Reading.{read}
use Rattle.c_grammar.specs.Rules.{NameEnvironment, Rule, Result, rule, only_types, outer_types, naming, begins_type, begins_declarator, has_initializer, may_begin, more_outer_by, is_function, follows_first, first_by, first_declared_by, first_declarator_by, with_names, item_by, item_names_by, item_specifiers, item_start_by, items_by, an_expression, a_whole, a_prefix, a_rest, an_opened, more_texts, all_arguments, more_arguments, a_type, all_specifiers, a_struct, all_members, more_members, all_declarators, more_declarators, an_enum, all_enumerators, more_enumerators, all_stars, all_quals, a_declarator, all_sizes, at_most_one_size, all_parameters, some_parameters, more_parameters, a_parameter, a_bare, an_initializer, all_initializers, more_initializers, a_declaration, a_declared, a_named, more_named, an_optional, a_start, a_statement, all_statements, an_outer, more_outer, a_first, an_item, all_items}
use Rattle.c_grammar.proofs.Conditions.{Goes, all_go, go_done, go_stop, go_look, go_call, go_strict, go_scope, go_if}
use Rattle.c_grammar.proofs.Limits.{Fits}
use Rattle.c_grammar.proofs.Sure.{holds_got}
use Rattle.c_parser.proofs.Staying.{Stays, Safe, Kept, fits-left, fits-entered, pays, pays_name, lifts, skips}
use Rattle.c_parser.proofs.StayingExpressions.{expression-kept, whole-kept, prefix-kept, rest-kept, opened-kept, texts-kept, arguments-kept, more-arguments-kept}
use Rattle.c_parser.proofs.StayingTypes.{type-kept, specifiers-kept, struct-kept, members-kept, more-members-kept, declarators-kept, more-declarators-kept, enum-kept, enumerators-kept, more-enumerators-kept, stars-kept, quals-kept, declarator-by, declarator-kept, sizes-kept, at-most-one-kept, parameters-kept, some-parameters-kept, more-parameters-kept, parameter-kept, bare-kept}
use Rattle.c_parser.proofs.StayingStatements.{initializer-kept, initializers-kept, more-initializers-kept, declaration-kept, declared-kept, named-init-by, named-kept, more-named-kept, optional-kept, start-kept, statement-kept, statements-kept}

-- ---- outside functions

outer-kept : (c : Storage) (s : Scope) → Kept (an_outer c s)
outer-kept c s ts m = go_call (λ x us n p. go_look (λ e is. named-init-by (outer_types c s) 3 (may_begin c x) x e us n _ (λ y vs o q f. q (p (omega arith) f))))

more-outer-by : (c : Storage) (s : Scope) (e : Kind) (ts : Tokens) (m : Meter) → Safe (more_outer_by c s e) (Stays (more_outer c s) ts m) ts m
more-outer-by c s k.Semicolon ts m = skips (λ _ us. go_done (λ f. f))
more-outer-by c s k.Comma ts m = pays (λ y deep g. skips (λ _ us. go_call (λ x vs n p. go_call (λ xs ws o q. go_done (λ f. q (p g))))))
more-outer-by c s _ ts m = go_stop

more-outer-kept : (c : Storage) (s : Scope) → Kept (more_outer c s)
more-outer-kept c s ts m = go_look (λ e is. more-outer-by c s e ts m)

-- behind the first declarator, where no body follows
first-else : (t : NameEnvironment) (c : DeclaratorTree) (e : Kind) (ts us : Tokens) (m n : Meter) → Safe (cond (follows_first c e) (body.rise (done c)) body.stop) (Stays (a_first t) ts m) us n
first-else t c e ts us m n = go_if {b = follows_first c e} (λ yes. lifts (λ y g. go_done (λ f. g))) (λ no. go_stop)

first-by : (t : NameEnvironment) (c : DeclaratorTree) (e : Kind) (ts us : Tokens) (m n : Meter) → (Fits m → Fits n) → Safe (first_by c e) (Stays (a_first t) ts m) us n
first-by t c k.OpenBrace ts us m n h = go_if {b = is_function c} (λ yes. go_done h) (λ no. go_stop)
first-by t c e ts us m n h = first-else t c e ts us m n

first-declared-by : (t : NameEnvironment) (ss : Stars) (a : Name) (e : Kind) (ts us : Tokens) (m n : Meter) → (Fits m → Fits n) → Safe (first_declared_by t ss a e) (Stays (a_first t) ts m) us n
first-declared-by t ss a k.OpenBracket ts us m n h = lifts (λ y g. go_call (λ xs vs o p. go_done (λ f. p g)))
first-declared-by t ss a k.OpenParen ts us m n h =
    skips (λ _ vs. go_call (λ ps ws o p. go_look (λ e is. first-by t (function ss a ps.0 ps.1) e ts ws m o (λ f. p (omega arith) (h f)))))
first-declared-by t ss a e ts us m n h = first-by t (plain ss a) e ts us m n h

first-declarator-by : (t : NameEnvironment) (ss : Stars) (e : Kind) (ts us : Tokens) (m n : Meter) → (Fits m → Fits n) → Safe (first_declarator_by t ss e) (Stays (a_first t) ts m) us n
first-declarator-by t ss k.Name ts us m n h = skips (λ a vs. go_look (λ e is. first-declared-by t ss a e ts vs m n h))
first-declarator-by t ss k.OpenParen ts us m n h = lifts (λ y g. declarator-by t 3 false false ss k.OpenParen us y _ (λ x vs o p f. p (omega arith) g))
first-declarator-by t ss _ ts us m n h = go_stop

first-kept : (t : NameEnvironment) → Kept (a_first t)
first-kept t ts m = go_call (λ ss us n p. go_look (λ e is. first-declarator-by t ss e ts us m n p))

with-names : (c : Storage) (ws : Specifiers) (s : Scope) (x : NamedTree) (ts us : Tokens) (m n : Meter) → Fits n → Safe (with_names c ws s x) (Stays (an_item s) ts m) us n
with-names c ws s x ts us m n g = go_call (λ xs vs o p. go_done (λ f. p g))

item-by : (c : Storage) (ws : Specifiers) (s : Scope) (x : DeclaratorTree) (e : Kind) (ts us : Tokens) (m n : Meter) → Fits n → Safe (item_by c ws s x e) (Stays (an_item s) ts m) us n
item-by c ws s x k.OpenBrace ts us m n g = go_if {b = is_function x} (λ yes. skips (λ _ vs. go_call (λ ss xs o p. go_done (λ f. p g)))) (λ no. go_stop)
item-by c ws s x k.Assign ts us m n g = go_if {b = has_initializer x}
    (λ yes. pays (λ y deep i. skips (λ _ vs. go_call (λ j xs o p. with-names c ws s _ ts xs m o (p i)))))
    (λ no. go_stop)
item-by c ws s x _ ts us m n g = with-names c ws s _ ts us m n g

typedef-first : (ws : Specifiers) (s : Scope) (e : Kind) (ts us : Tokens) (m n : Meter) → Fits n →
    Safe (cond (begins_declarator e) (naming (has_tag ws) 2 (body.call (an_outer st.Typedef s) (λ x. with_names st.Typedef ws s x))) body.stop) (Stays (an_item s) ts m) us n
typedef-first ws s e ts us m n g = go_if {b = begins_declarator e}
    (λ yes. pays_name (has_tag ws) 2 (λ y deep h. go_call (λ x vs o p. with-names st.Typedef ws s x ts vs m o (p (h g)))))
    (λ no. go_stop)

declarator-first : (c : Storage) (ws : Specifiers) (s : Scope) (e : Kind) (ts us : Tokens) (m n : Meter) → Fits n →
    Safe (cond (begins_declarator e) (naming (has_tag ws) 2 (body.scope 2 (a_first (only_types s.types)) (λ x. body.look [] (item_by c ws s x)))) body.stop) (Stays (an_item s) ts m) us n
declarator-first c ws s e ts us m n g = go_if {b = begins_declarator e}
    (λ yes. pays_name (has_tag ws) 2 (λ y deep h. let i = h g in go_scope (λ x vs o p. go_look (λ j is. item-by c ws s x j ts vs m _ (fits-left y o i.peak (p (fits-entered 2 y (omega arith) i)))))))
    (λ no. go_stop)

item-names-by : (c : Storage) (ws : Specifiers) (s : Scope) (e : Kind) (ts us : Tokens) (m n : Meter) → Fits n → Safe (item_names_by c ws s e) (Stays (an_item s) ts m) us n
item-names-by c ws s k.Semicolon ts us m n g = go_if {b = has_tag ws} (λ yes. skips (λ _ vs. go_done (λ f. g))) (λ no. go_stop)
item-names-by st.Typedef ws s e ts us m n g = typedef-first ws s e ts us m n g
item-names-by c ws s e ts us m n g = declarator-first c ws s e ts us m n g

item-specifiers : (c : Storage) (s : Scope) (ts us : Tokens) (m n : Meter) → Fits n → Safe (item_specifiers c s) (Stays (an_item s) ts m) us n
item-specifiers c s ts us m n g = go_call (λ ws vs o p. go_look (λ e is. item-names-by c ws (behind_specifiers ws s) e ts vs m o (p.0 g)))

item-plain : (s : Scope) (e : Kind) (ts : Tokens) (m : Meter) → Safe (cond (begins_type e) (body.spend 1 2 (item_specifiers st.Nothing s)) body.stop) (Stays (an_item s) ts m) ts m
item-plain s e ts m = go_if {b = begins_type e} (λ yes. pays (λ y deep g. item-specifiers st.Nothing s ts ts m y g)) (λ no. go_stop)

item-start-by : (s : Scope) (e : Kind) (ts : Tokens) (m : Meter) → Safe (item_start_by s e) (Stays (an_item s) ts m) ts m
item-start-by s k.Static ts m = pays (λ y deep g. skips (λ _ us. item-specifiers st.Static s ts us m y g))
item-start-by s k.Extern ts m = pays (λ y deep g. skips (λ _ us. item-specifiers st.Extern s ts us m y g))
item-start-by s k.Typedef ts m = pays (λ y deep g. skips (λ _ us. item-specifiers st.Typedef s ts us m y g))
item-start-by s e ts m = item-plain s e ts m

item-kept : (s : Scope) → Kept (an_item s)
item-kept s ts m = go_look (λ e is. item-start-by s e ts m)

first-item : (s : Scope) (ts : Tokens) (m : Meter) → Safe (body.strict (an_item s) (λ x. body.call (all_items (behind_item x s)) (λ xs. done (x ∷ xs)))) (Stays (all_items s) ts m) ts m
first-item s ts m = go_strict (λ x us n p. go_call (λ xs vs o q. go_done (λ f. q (p f))))

items-by : (s : Scope) (e : Kind) (ts : Tokens) (m : Meter) → Safe (items_by s e) (Stays (all_items s) ts m) ts m
items-by s k.Nothing ts m = go_done (λ f. f)
items-by s _ ts m = first-item s ts m

items-kept : (s : Scope) → Kept (all_items s)
items-kept s ts m = go_look (λ e is. items-by s e ts m)

-- ---- all rules

all_stay : (r : Rule) (ts : Tokens) (m : Meter) → Goes Meter limited Stays (Result r) (rule r) (Stays r ts m) ts m
all_stay (an_expression t d l o) ts m = expression-kept t d l o ts m
all_stay (a_whole t d l o) ts m = whole-kept t d l o ts m
all_stay (a_prefix t d l o) ts m = prefix-kept t d l o ts m
all_stay (a_rest t d l x) ts m = rest-kept t d l x ts m
all_stay (an_opened t d) ts m = opened-kept t d ts m
all_stay more_texts ts m = texts-kept ts m
all_stay (all_arguments t d) ts m = arguments-kept t d ts m
all_stay (more_arguments t d) ts m = more-arguments-kept t d ts m
all_stay (a_type t d) ts m = type-kept t d ts m
all_stay (all_specifiers t d b ws) ts m = specifiers-kept t d b ws ts m
all_stay (a_struct t d) ts m = struct-kept t d ts m
all_stay (all_members t d) ts m = members-kept t d ts m
all_stay (more_members t d) ts m = more-members-kept t d ts m
all_stay (all_declarators t d) ts m = declarators-kept t d ts m
all_stay (more_declarators t d) ts m = more-declarators-kept t d ts m
all_stay (an_enum t d) ts m = enum-kept t d ts m
all_stay (all_enumerators t d) ts m = enumerators-kept t d ts m
all_stay (more_enumerators t d) ts m = more-enumerators-kept t d ts m
all_stay all_stars ts m = stars-kept ts m
all_stay all_quals ts m = quals-kept ts m
all_stay (a_declarator t d f y) ts m = declarator-kept t d f y ts m
all_stay (all_sizes t d) ts m = sizes-kept t d ts m
all_stay (at_most_one_size t d) ts m = at-most-one-kept t d ts m
all_stay (all_parameters t d) ts m = parameters-kept t d ts m
all_stay (some_parameters t d) ts m = some-parameters-kept t d ts m
all_stay (more_parameters t d) ts m = more-parameters-kept t d ts m
all_stay (a_parameter t d) ts m = parameter-kept t d ts m
all_stay (a_bare t d) ts m = bare-kept t d ts m
all_stay (an_initializer t d o) ts m = initializer-kept t d o ts m
all_stay (all_initializers t d o) ts m = initializers-kept t d o ts m
all_stay (more_initializers t d) ts m = more-initializers-kept t d ts m
all_stay (a_declaration t d) ts m = declaration-kept t d ts m
all_stay (a_declared t d c) ts m = declared-kept t d c ts m
all_stay (a_named t d) ts m = named-kept t d ts m
all_stay (more_named t d) ts m = more-named-kept t d ts m
all_stay (an_optional t d e) ts m = optional-kept t d e ts m
all_stay (a_start t d) ts m = start-kept t d ts m
all_stay (a_statement t d p o) ts m = statement-kept t d p o ts m
all_stay (all_statements t d p) ts m = statements-kept t d p ts m
all_stay (an_outer c s) ts m = outer-kept c s ts m
all_stay (more_outer c s) ts m = more-outer-kept c s ts m
all_stay (a_first t) ts m = first-kept t ts m
all_stay (an_item s) ts m = item-kept s ts m
all_stay (all_items s) ts m = items-kept s ts m

-- A program that is read within the limits is counted within them in the end.
pub got_fits : (s : Scope) (i : Input) (xs : List ItemTree) (us : Tokens) (m : Meter) → Fits i.meter → read (all_items s) i ≡ got xs us m → Fits m
unfolding read
got_fits s i xs us m f e = holds_got (Stays (all_items s) i.rest i.meter) _ xs us m (all_go Meter limited Stays all_stay (all_items s) i.rest i.meter) e f
