-- Items and programs: what a tree of the right shape spells is read as that tree.
use Rattle.std.proofs.Common.{◌≡◌, ◌≢◌, ◌<◌, Bool, true, false, ◌||◌, List, [], ◌∷◌, ◌++◌, length, cond, Option, Some, None, refl, sym, ap, subst, ◌∙◌, codes, append-nil}
use Rattle.c_tree.specs.declared.tree.Storage.{Storage}
use Rattle.c_tree.specs.declared.tree.Storage.TheVariants as st
use Rattle.c_tree.specs.Marks.{Tokens, mark}
use Rattle.c_tree.specs.TypeWords.{NamesType, has_tag}
use Rattle.c_tree.specs.DeclaredNames.{declarator_name, declared_inside}
use Rattle.c_tree.specs.Tree.{Name, Stars, Specifiers, DeclaratorTree, plain, array, function, pointer, Parameters, Initializer, NamedTree, StatementTree, block, Statements, ItemTree, function_item, declaration_item}
use Rattle.c_tree.specs.ExpressionShape.{ShapeSpecifiers, ShapeDeclarator}
use Rattle.c_tree.specs.Shape.{Scope, of_block, outside, FitsTypedef, FitsInit, ShapeOptionalInit, ShapeNamed, ShapeNames, behind_named, behind_specifiers, IsNoTypedef, ShapeFunction, ShapeStatement, ShapeItem, ShapeItems, behind_item, first_scope, Shape}
use Rattle.c_tree.specs.Spelling.{spell_item, spell}
use Rattle.c_grammar.specs.declared.kind.Kind.{Kind}
use Rattle.c_grammar.specs.declared.kind.Kind.TheVariants as k
use Rattle.c_grammar.specs.Kind.{kind}
use Rattle.c_grammar.specs.Body.{done, stop, look, rise, call, strict, spend, scope, Outcome, got}
use Rattle.c_grammar.specs.Rules.{NameEnvironment, barred, only_types, naming, a_declarator, a_first, an_outer, more_outer, an_item, all_items, begins_type, begins_declarator, has_initializer, named_init_by, is_typedef, outer_types, may_begin, follows_first, first_by, first_declared_by, item_by, with_names, item_names_by, item_specifiers, item_start_by, items_by}
use Rattle.c_grammar.proofs.KindLemmas.{kind_end, kind_at, kind_name, kind_same, neither_among}
use Rattle.c_grammar.proofs.Avoiding.{avoids_one}
use Rattle.c_grammar.proofs.Onto.{onto_specifiers, onto_declarator, onto_initial, onto_named, onto_more_named, onto_all_named, onto_storage, onto_statement, onto_item, onto_program}
use Rattle.c_grammar.proofs.OntoSpelling.{item_onto, program_onto}
use Rattle.c_grammar.proofs.Parse.{parse}
use Rattle.c_grammar.proofs.Runs.{Runs, ran, run_done, run_look, run_as, run_seen, run_take, run_spend, run_rise, run_call, run_scope, run_then, run_at, run_naming}
use Rattle.c_grammar.proofs.RunsStrict.{run_strict, longer_by}
use Rattle.c_grammar.proofs.ReadBack.Rules.{EndsType, EndsDeclarator, sizes_complete, specifiers_complete, declarator_complete, object_complete, pointer_complete, parameters_complete, specifiers_head, declares_ordinary, declarator_head}
use Rattle.c_grammar.proofs.ReadBack.Stars.{stars_read, stars_end_at, stars_end_name}
use Rattle.c_grammar.proofs.ReadBack.Declarators.{sizes_head}
use Rattle.c_grammar.proofs.ReadBack.Declarations.{kind_other, EndsNamed, Permits, by_none, more_named_ends, init_runs, initial_ends, fits_permits, declarator_ends_type, names_end, initializer_complete}
use Rattle.c_grammar.proofs.ReadBack.Statements.{statements_complete}

-- ---- declared names

-- the declarator of a name declared outside functions is read
outer_declarator : (c : Storage) (s : Scope) (x : DeclaratorTree) (r : Tokens) → ShapeDeclarator s.types x → FitsTypedef c x s → EndsDeclarator r →
    parse (a_declarator (outer_types c s) 3 true (is_typedef c)) (onto_declarator x r) ≡ got x r tt
outer_declarator st.Typedef s x r h fits ends = declarator_complete (outer_types st.Typedef s) 3 true true x r h fits.0 (avoids_one (declarator_name x) (declared_inside x) fits.1) (λ e. absurd (cc)) ends
outer_declarator st.Nothing s x r h fits ends = object_complete s.types 3 true x r h (λ e. absurd (cc)) ends
outer_declarator st.Static s x r h fits ends = object_complete s.types 3 true x r h (λ e. absurd (cc)) ends
outer_declarator st.Extern s x r h fits ends = object_complete s.types 3 true x r h (λ e. absurd (cc)) ends

-- behind it its initialiser is read, or that it has none
outer_runs : (c : Storage) (s : Scope) (x : DeclaratorTree) (i : Option Initializer) (r : Tokens) → FitsInit c x i → ShapeOptionalInit s.types i → EndsNamed r →
    Runs false 3 (look [] (named_init_by (outer_types c s) 3 (may_begin c x) x)) (onto_initial i r) (got (record { declarator = x; init = i }) r tt)
outer_runs st.Typedef s x None r fits h ends = run_seen (by_none (outer_types st.Typedef s) 3 false x _ ends.begins) (run_done refl)
outer_runs st.Typedef s x (Some i) r fits h ends = absurd fits
outer_runs st.Nothing s x i r fits h ends = init_runs s.types 3 (has_initializer x) false 3 x i r (fits_permits st.Nothing x i tt fits) h ends
outer_runs st.Static s x i r fits h ends = init_runs s.types 3 (has_initializer x) false 3 x i r (fits_permits st.Static x i tt fits) h ends
outer_runs st.Extern s x i r fits h ends = init_runs s.types 3 (has_initializer x) false 3 x i r (fits_permits st.Extern x i tt fits) h ends

-- a name declared outside functions is read
pub outer_complete : (c : Storage) (s : Scope) (n : NamedTree) (r : Tokens) → ShapeNamed c n s → EndsNamed r → parse (an_outer c s) (onto_named n r) ≡ got n r tt
outer_complete c s n r h ends =
    ran (an_outer c s) _ _ (run_call refl (outer_declarator c s n.declarator _ h.0 h.1 (initial_ends n.init r ends)) (outer_runs c s n.declarator n.init r h.2 h.3 ends))

-- the names behind the first are read, with the semicolon
pub more_outer_complete : (c : Storage) (s : Scope) (ns : List NamedTree) (r : Tokens) → ShapeNames c ns s → parse (more_outer c s) (onto_more_named ns (mark (codes ";") ∷ r)) ≡ got ns r tt
more_outer_complete c s [] r h = ran (more_outer c s) _ _ (run_at k.Semicolon tt (run_take (run_done refl)))
more_outer_complete c s (n ∷ ns) r h =
    ran (more_outer c s) _ _ (run_at k.Comma tt (run_spend (run_take (run_call refl (outer_complete c s n _ h.0 (more_named_ends ns r))
    (run_call refl (more_outer_complete c (behind_named c n s) ns r h.1) (run_done refl))))))

-- ---- the first declarator of an item

assign_brace : k.Assign ≢ k.OpenBrace
assign_brace e = absurd (cc)

comma_brace : k.Comma ≢ k.OpenBrace
comma_brace e = absurd (cc)

semicolon_brace : k.Semicolon ≢ k.OpenBrace
semicolon_brace e = absurd (cc)

plain_first : (t : NameEnvironment) (ss : Stars) (n : Name) (e : Kind) → follows_first (plain ss n) e ≡ true → first_declared_by t ss n e ≡ rise (done (plain ss n))
plain_first t ss n k.Assign h = refl
plain_first t ss n k.Comma h = refl
plain_first t ss n k.Semicolon h = refl
plain_first t ss n _ h = absurd (cc)

function_first : (ss : Stars) (n : Name) (ps : Parameters) (v : Bool) (e : Kind) → follows_first (function ss n ps v) e ≡ true → first_by (function ss n ps v) e ≡ rise (done (function ss n ps v))
function_first ss n ps v k.Comma h = refl
function_first ss n ps v k.Semicolon h = refl
function_first ss n ps v _ h = absurd (cc)

-- a function is read as the first declarator as what follows it asks
first_function : (types : List Name) (ss : Stars) (n : Name) (ps : Parameters) (v : Bool) (r : Tokens) → ShapeDeclarator types (function ss n ps v) →
    Runs true 3 (look [] (first_by (function ss n ps v))) r (got (function ss n ps v) r tt) → parse (a_first (only_types types)) (onto_declarator (function ss n ps v) r) ≡ got (function ss n ps v) r tt
first_function types ss n ps v r s behind =
    ran (a_first (only_types types)) _ _ (run_call refl (stars_read ss _ (stars_end_name n _))
    (run_look k.Name (kind_name types n _ s.0) (run_take (run_at k.OpenParen tt (run_take (run_call refl (parameters_complete types 2 ps v r s.1 s.2 s.3) behind))))))

-- the declarator of a declaration is read
first_complete : (types : List Name) (c : DeclaratorTree) (r : Tokens) → ShapeDeclarator types c → EndsDeclarator r → follows_first c (kind [] r) ≡ true → parse (a_first (only_types types)) (onto_declarator c r) ≡ got c r tt
first_complete types (plain ss n) r s ends goes =
    ran (a_first (only_types types)) _ _ (run_call refl (stars_read ss _ (stars_end_name n _))
    (run_look k.Name (kind_name types n _ s) (run_take (run_seen (plain_first (only_types types) ss n (kind [] r) goes) (run_rise (run_done refl))))))
first_complete types (array ss n xs) r s ends goes =
    ran (a_first (only_types types)) _ _ (run_call refl (stars_read ss _ (stars_end_name n _))
    (run_look k.Name (kind_name types n _ s.0) (run_take (run_look k.OpenBracket (sizes_head xs r s.1) (run_rise (run_call refl (sizes_complete types 3 xs r s.2 ends.0) (run_done refl)))))))
first_complete types (function ss n ps v) r s ends goes = first_function types ss n ps v r s (run_seen (function_first ss n ps v (kind [] r) goes) (run_rise (run_done refl)))
first_complete types (pointer ss qs n xs ps v) r s ends goes =
    ran (a_first (only_types types)) _ _ (run_call refl (stars_read ss _ (stars_end_at k.OpenParen _ tt refl))
    (run_at k.OpenParen tt (run_rise (pointer_complete types false 3 3 false ss qs n xs ps v r s))))

-- the declarator of a function is read
function_complete : (types : List Name) (ss : Stars) (n : Name) (ps : Parameters) (v : Bool) (r : Tokens) → ShapeDeclarator types (function ss n ps v) →
    parse (a_first (only_types types)) (onto_declarator (function ss n ps v) (mark (codes "{") ∷ r)) ≡ got (function ss n ps v) (mark (codes "{") ∷ r) tt
function_complete types ss n ps v r s = first_function types ss n ps v (mark (codes "{") ∷ r) s (run_at k.OpenBrace tt (run_done refl))

-- ---- declarations outside functions

or_true : (b : Bool) → b || true ≡ true
or_true true = refl
or_true false = refl

with_names_run : (taken : Bool) (c : Storage) (ws : Specifiers) (s : Scope) (n : NamedTree) (ns : List NamedTree) (r : Tokens) → ShapeNames c ns (behind_named c n s) →
    Runs taken 4 (with_names c ws s n) (onto_more_named ns (mark (codes ";") ∷ r)) (got (declaration_item (record { storage = c; specs = ws; names = n ∷ ns })) r tt)
with_names_run taken c ws s n ns r h = run_call (or_true taken) (more_outer_complete c (behind_named c n s) ns r h) (run_done refl)

more_no_body : (ns : List NamedTree) (r : Tokens) → kind [] (onto_more_named ns (mark (codes ";") ∷ r)) ≢ k.OpenBrace
more_no_body [] r = kind_other [] k.Semicolon k.OpenBrace r tt semicolon_brace
more_no_body (n ∷ ns) r = kind_other [] k.Comma k.OpenBrace _ tt comma_brace

more_follows : (c : DeclaratorTree) (ns : List NamedTree) (r : Tokens) → follows_first c (kind [] (onto_more_named ns (mark (codes ";") ∷ r))) ≡ true
more_follows c [] r = ap (follows_first c) (kind_at [] k.Semicolon [] r tt)
more_follows c (n ∷ ns) r = ap (follows_first c) (kind_at [] k.Comma [] _ tt)

-- behind the first declarator of a declaration it goes on
initial_follows : (c : DeclaratorTree) (i : Option Initializer) (ns : List NamedTree) (r : Tokens) → Permits (has_initializer c) i →
    follows_first c (kind [] (onto_initial i (onto_more_named ns (mark (codes ";") ∷ r)))) ≡ true
initial_follows c None ns r fits = more_follows c ns r
initial_follows c (Some i) ns r fits = ap (follows_first c) (kind_at [] k.Assign [] _ tt) ∙ fits

by_bare : (c : Storage) (ws : Specifiers) (s : Scope) (x : DeclaratorTree) (e : Kind) → e ≢ k.OpenBrace → e ≢ k.Assign → item_by c ws s x e ≡ with_names c ws s (record { declarator = x; init = None })
by_bare c ws s x k.OpenBrace body begins = absurd (body refl)
by_bare c ws s x k.Assign body begins = absurd (begins refl)
by_bare c ws s x _ body begins = refl

-- behind the first declarator of a declaration
declared_run : (taken : Bool) (c : Storage) (ws : Specifiers) (s : Scope) (x : DeclaratorTree) (i : Option Initializer) (ns : List NamedTree) (r : Tokens) → IsNoTypedef c →
    ShapeNamed c (record { declarator = x; init = i }) s → ShapeNames c ns (behind_named c (record { declarator = x; init = i }) s) →
    Runs taken 4 (look [] (item_by c ws s x)) (onto_initial i (onto_more_named ns (mark (codes ";") ∷ r))) (got (declaration_item (record { storage = c; specs = ws; names = record { declarator = x; init = i } ∷ ns })) r tt)
declared_run taken c ws s x None ns r inner h more =
    run_seen (by_bare c ws s x _ (more_no_body ns r) (more_named_ends ns r).begins) (with_names_run taken c ws s (record { declarator = x; init = None }) ns r more)
declared_run taken c ws s x (Some i) ns r inner h more =
    run_at k.Assign tt (run_then _ (fits_permits c x (Some i) inner h.2) (run_spend (run_take (run_call refl (initializer_complete s.types 3 0 i _ h.3 (more_named_ends ns r).binds)
    (with_names_run true c ws s (record { declarator = x; init = Some i }) ns r more)))))

by_first : (c : Storage) (ws : Specifiers) (s : Scope) (e : Kind) → IsNoTypedef c → begins_declarator e ≡ true →
    item_names_by c ws s e ≡ cond (begins_declarator e) (naming (has_tag ws) 2 (scope 2 (a_first (only_types s.types)) (λ x. look [] (item_by c ws s x)))) stop
by_first c ws s k.Semicolon inner h = absurd (cc)
by_first st.Typedef ws s e inner h = absurd inner
by_first st.Nothing ws s _ inner h = refl
by_first st.Static ws s _ inner h = refl
by_first st.Extern ws s _ inner h = refl

by_typedef : (ws : Specifiers) (s : Scope) (e : Kind) → begins_declarator e ≡ true →
    item_names_by st.Typedef ws s e ≡ cond (begins_declarator e) (naming (has_tag ws) 2 (call (an_outer st.Typedef s) (λ n. with_names st.Typedef ws s n))) stop
by_typedef ws s k.Semicolon h = absurd (cc)
by_typedef ws s _ h = refl

plain_run : (taken : Bool) (c : Storage) (ws : Specifiers) (s : Scope) (n : NamedTree) (ns : List NamedTree) (r : Tokens) → IsNoTypedef c → ShapeNames c (n ∷ ns) s →
    Runs taken 4 (look s.types (item_names_by c ws s)) (onto_all_named (n ∷ ns) (mark (codes ";") ∷ r)) (got (declaration_item (record { storage = c; specs = ws; names = n ∷ ns })) r tt)
plain_run taken c ws s n ns r inner h =
    let head = declarator_head s.types n.declarator (onto_initial n.init (onto_more_named ns (mark (codes ";") ∷ r))) (declares_ordinary s.types n.declarator h.0.0) in
    run_seen (by_first c ws s _ inner head) (run_then _ head (run_naming (has_tag ws) 2 (run_scope (or_true taken)
    (first_complete s.types n.declarator _ h.0.0 (initial_ends n.init _ (more_named_ends ns r)) (initial_follows n.declarator n.init ns r (fits_permits c n.declarator n.init inner h.0.2)))
    (declared_run taken c ws s n.declarator n.init ns r inner h.0 h.1))))

typedef_run : (taken : Bool) (ws : Specifiers) (s : Scope) (n : NamedTree) (ns : List NamedTree) (r : Tokens) → ShapeNames st.Typedef (n ∷ ns) s →
    Runs taken 4 (look (barred (outer_types st.Typedef s)) (item_names_by st.Typedef ws s)) (onto_all_named (n ∷ ns) (mark (codes ";") ∷ r)) (got (declaration_item (record { storage = st.Typedef; specs = ws; names = n ∷ ns })) r tt)
typedef_run taken ws s n ns r h =
    let new = neither_among s.others s.types (declarator_name n.declarator) h.0.1.0 (declares_ordinary s.types n.declarator h.0.0) in
    let head = declarator_head (s.others ++ s.types) n.declarator (onto_initial n.init (onto_more_named ns (mark (codes ";") ∷ r))) new in
    run_seen (by_typedef ws s _ head) (run_then _ head (run_naming (has_tag ws) 2 (run_call (or_true taken) (outer_complete st.Typedef s n _ h.0 (more_named_ends ns r))
    (with_names_run taken st.Typedef ws s n ns r h.1))))

names_run : (taken : Bool) (c : Storage) (ws : Specifiers) (s : Scope) (ns : List NamedTree) (r : Tokens) → (ns ≡ [] → has_tag ws ≡ true) → ShapeNames c ns s →
    Runs taken 4 (look (barred (outer_types c s)) (item_names_by c ws s)) (onto_all_named ns (mark (codes ";") ∷ r)) (got (declaration_item (record { storage = c; specs = ws; names = ns })) r tt)
names_run taken c ws s [] r tag h = run_at k.Semicolon tt (run_then _ (tag refl) (run_take (run_done refl)))
names_run taken st.Typedef ws s (n ∷ ns) r tag h = typedef_run taken ws s n ns r h
names_run taken st.Nothing ws s (n ∷ ns) r tag h = plain_run taken st.Nothing ws s n ns r tt h
names_run taken st.Static ws s (n ∷ ns) r tag h = plain_run taken st.Static ws s n ns r tt h
names_run taken st.Extern ws s (n ∷ ns) r tag h = plain_run taken st.Extern ws s n ns r tt h

-- ---- items

by_start : (s : Scope) (e : Kind) → begins_type e ≡ true → item_start_by s e ≡ cond (begins_type e) (spend 1 2 (item_specifiers st.Nothing s)) stop
by_start s k.Static h = absurd (cc)
by_start s k.Extern h = absurd (cc)
by_start s k.Typedef h = absurd (cc)
by_start s _ h = refl

-- an item begins with its storage class and its specifiers
start_complete : (c : Storage) (ws : Specifiers) (s : Scope) (rest : Tokens) (o : Outcome (Unit {0}) ItemTree) → NamesType ws → ShapeSpecifiers s.types ws → EndsType (only_types s.types) rest →
    ((taken : Bool) → Runs taken 4 (look (barred (outer_types c (behind_specifiers ws s))) (item_names_by c ws (behind_specifiers ws s))) rest o) → parse (an_item s) (onto_storage c (onto_specifiers ws rest)) ≡ o
start_complete st.Static ws s rest o one h ends goes = ran (an_item s) _ _ (run_at k.Static tt (run_spend (run_take (run_call refl (specifiers_complete s.types 2 true ws rest h one ends) (goes true)))))
start_complete st.Extern ws s rest o one h ends goes = ran (an_item s) _ _ (run_at k.Extern tt (run_spend (run_take (run_call refl (specifiers_complete s.types 2 true ws rest h one ends) (goes true)))))
start_complete st.Typedef ws s rest o one h ends goes = ran (an_item s) _ _ (run_at k.Typedef tt (run_spend (run_take (run_call refl (specifiers_complete s.types 2 true ws rest h one ends) (goes true)))))
start_complete st.Nothing ws s rest o one h ends goes =
    let head = specifiers_head (only_types s.types) ws rest h one in
    ran (an_item s) _ _ (run_seen (by_start s _ head) (run_then _ head (run_spend (run_call refl (specifiers_complete s.types 2 true ws rest h one ends) (goes false)))))

function_run : (taken : Bool) (c : Storage) (ws : Specifiers) (s : Scope) (xs : Stars) (n : Name) (ps : Parameters) (v : Bool) (ss : Statements) (r : Tokens) → IsNoTypedef c →
    ShapeDeclarator s.types (function xs n ps v) → ShapeStatement s.types (block ss) outside →
    Runs taken 4 (look s.types (item_names_by c ws s)) (onto_declarator (function xs n ps v) (onto_statement (block ss) r)) (got (function_item (record { storage = c; specs = ws; stars = xs; name = n; params = ps; word = v; body = block ss })) r tt)
function_run taken c ws s xs n ps v ss r inner h body =
    let head = declarator_head s.types (function xs n ps v) (onto_statement (block ss) r) h.0 in
    run_seen (by_first c ws s _ inner head) (run_then _ head (run_naming (has_tag ws) 2 (run_scope (or_true taken) (function_complete s.types xs n ps v _ h)
    (run_at k.OpenBrace tt (run_take (run_call refl (statements_complete s.types 3 (of_block outside) ss r body) (run_done refl)))))))

-- where no type is declared, no name is taken
none_taken : (c : Storage) (s : Scope) → IsNoTypedef c → barred (outer_types c s) ≡ s.types
none_taken st.Typedef s inner = absurd inner
none_taken st.Nothing s inner = refl
none_taken st.Static s inner = refl
none_taken st.Extern s inner = refl

function_item_complete : (s : Scope) (c : Storage) (ws : Specifiers) (xs : Stars) (n : Name) (ps : Parameters) (v : Bool) (x : StatementTree) (r : Tokens) →
    ShapeFunction s.types (record { storage = c; specs = ws; stars = xs; name = n; params = ps; word = v; body = x }) →
    parse (an_item s) (onto_storage c (onto_specifiers ws (onto_declarator (function xs n ps v) (onto_statement x r)))) ≡ got (function_item (record { storage = c; specs = ws; stars = xs; name = n; params = ps; word = v; body = x })) r tt
function_item_complete s c ws xs n ps v (block ss) r h =
    let t = behind_specifiers ws s in
    start_complete c ws s _ _ h.1 h.2 (declarator_ends_type s.types (function xs n ps v) (onto_statement (block ss) r) (h.3, h.4, h.5, h.6))
    (λ taken. run_as (ap (λ types. look types (item_names_by c ws t)) (none_taken c t h.0)) (function_run taken c ws t xs n ps v ss r h.0 (h.3, h.4, h.5, h.6) h.8))
function_item_complete s c ws xs n ps v _ r h = absurd h.7

-- an item is read, whatever follows
pub item_complete : (s : Scope) (x : ItemTree) (r : Tokens) → ShapeItem x s → parse (an_item s) (onto_item x r) ≡ got x r tt
item_complete s (function_item f) r h = function_item_complete s f.storage f.specs f.stars f.name f.params f.word f.body r h
item_complete s (declaration_item d) r h =
    start_complete d.storage d.specs s _ _ h.0 h.1 (names_end d.storage (behind_specifiers d.specs s) d.names r h.3) (λ taken. names_run taken d.storage d.specs (behind_specifiers d.specs s) d.names r h.2 h.3)

-- ---- programs

false_true : false ≢ true
false_true e = absurd (cc)

static_end : k.Static ≢ k.Nothing
static_end e = absurd (cc)

extern_end : k.Extern ≢ k.Nothing
extern_end e = absurd (cc)

typedef_end : k.Typedef ≢ k.Nothing
typedef_end e = absurd (cc)

start_some : (s : Scope) (c : Storage) (ws : Specifiers) (rest : Tokens) → NamesType ws → ShapeSpecifiers s.types ws → kind [] (onto_storage c (onto_specifiers ws rest)) ≢ k.Nothing
start_some s st.Static ws rest one h = kind_other [] k.Static k.Nothing _ tt static_end
start_some s st.Extern ws rest one h = kind_other [] k.Extern k.Nothing _ tt extern_end
start_some s st.Typedef ws rest one h = kind_other [] k.Typedef k.Nothing _ tt typedef_end
start_some s st.Nothing ws rest one h = λ is. false_true (sym (ap begins_type (kind_same [] s.types _ k.Nothing tt is)) ∙ specifiers_head (only_types s.types) ws rest h one)

item_some : (s : Scope) (x : ItemTree) (r : Tokens) → ShapeItem x s → kind [] (onto_item x r) ≢ k.Nothing
item_some s (function_item f) r h = start_some s f.storage f.specs _ h.1 h.2
item_some s (declaration_item d) r h = start_some s d.storage d.specs _ h.0 h.1

item_longer : (s : Scope) (x : ItemTree) (r : Tokens) → ShapeItem x s → length r < length (onto_item x r)
item_longer s x r h =
    subst (λ ts. length r < length ts) (sym (item_onto x r)) (longer_by (spell_item x) r (λ e. item_some s x [] h (ap (kind []) (item_onto x [] ∙ ap (λ ts. ts ++ []) e) ∙ kind_end [])))

by_item : (s : Scope) (e : Kind) → e ≢ k.Nothing → items_by s e ≡ strict (an_item s) (λ x. call (all_items (behind_item x s)) (λ xs. done (x ∷ xs)))
by_item s k.Nothing h = absurd (h refl)
by_item s _ h = refl

-- the items of a text are read, up to its end
pub items_complete : (s : Scope) (xs : List ItemTree) → ShapeItems xs s → parse (all_items s) (onto_program xs []) ≡ got xs [] tt
items_complete s [] h = ran (all_items s) _ _ (run_look k.Nothing (kind_end []) (run_done refl))
items_complete s (x ∷ xs) h =
    ran (all_items s) _ _ (run_seen (by_item s _ (item_some s x _ h.0)) (run_strict refl (item_complete s x _ h.0) (item_longer s x _ h.0) (run_call refl (items_complete (behind_item x s) xs h.1) (run_done refl))))

-- what a program of the right shape spells is read as that program
pub reads_back : (xs : List ItemTree) → Shape xs → parse (all_items first_scope) (spell xs) ≡ got xs [] tt
reads_back xs h = ap (parse (all_items first_scope)) (sym (program_onto xs [] ∙ append-nil (spell xs))) ∙ items_complete first_scope xs h
