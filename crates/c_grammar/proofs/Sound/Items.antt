-- The rules of items, outside functions, read tokens that a tree of their shape spells.
use Rattle.std.proofs.Common.{◌≡◌, Bool, true, false, cond, [], ◌∷◌, Some, None, refl, ap, subst, ◌∙◌}
use Rattle.std.specs.Prelude.{codes}
use Rattle.c_tree.specs.declared.tree.Storage.{Storage}
use Rattle.c_tree.specs.declared.tree.Storage.TheVariants as st
use Rattle.c_tree.specs.Marks.{Tokens, name_token, mark}
use Rattle.c_tree.specs.TypeWords.{is_among, NamesType, IsOrdinary, has_tag}
use Rattle.c_tree.specs.DeclaredNames.{declarator_name, declared_inside}
use Rattle.c_tree.specs.ExpressionShape.{ShapeSpecifiers, ShapeDeclarator}
use Rattle.c_tree.specs.Shape.{Scope, of_block, outside, ShapeInit, FitsInit, FitsTypedef, ShapeNamed, ShapeStatements, IsNoTypedef, behind_specifiers}
use Rattle.c_tree.specs.Tree.{Name, Stars, Specifiers, DeclaratorTree, plain, function, Initializer, NamedTree, Statements, ItemTree}
use Rattle.c_grammar.specs.declared.kind.Kind.{Kind}
use Rattle.c_grammar.specs.declared.kind.Kind.TheVariants as k
use Rattle.c_grammar.specs.Kind.{kind}
use Rattle.c_grammar.specs.Body.{stop, spend, scope, look, rise, done}
use Rattle.c_grammar.specs.Body as body
use Rattle.c_grammar.specs.Gauge.{free}
use Rattle.c_grammar.specs.Rules.{NameEnvironment, Reads, rule, an_outer, more_outer, a_first, an_item, all_items, barred, only_types, naming, inside, is_typedef, outer_types, may_begin, more_outer_by, is_function, follows_first, first_by, first_declared_by, first_declarator_by, function_of, with_names, item_by, item_names_by, item_specifiers, item_start_by, items_by, has_initializer, begins_declarator, begins_type}
use Rattle.c_grammar.proofs.Avoiding.{Avoids, avoids_itself}
use Rattle.c_grammar.proofs.KindLemmas.{end_head, among_neither}
use Rattle.c_grammar.proofs.Onto.{onto_specifiers, onto_storage, onto_declarator, onto_stars, onto_named, onto_statements}
use Rattle.c_grammar.proofs.Conditions.{Goes, go_both, go_always, go_done, go_stop, go_look, go_spend, go_rise, go_call, go_strict, go_scope, go_if, go_take, go_name}
use Rattle.c_grammar.proofs.Read.{Read}
use Rattle.c_grammar.proofs.Declares.Apart.{Declares, Yields}
use Rattle.c_grammar.proofs.Keeps.{Keeps, KeepsOn}
use Rattle.c_grammar.proofs.Sound.Types.{go_naming}
use Rattle.c_grammar.proofs.Sound.Declarators.{pointer-goes}
use Rattle.c_grammar.proofs.Sound.Declarations.{never, fits_typedef, fits_init, named_init-goes}

-- ---- names declared outside functions

-- the names that are types there
outer_names : (c : Storage) (s : Scope) → (outer_types c s).types ≡ s.types
outer_names st.Typedef s = refl
outer_names _ s = refl

outer_typedef : (c : Storage) (x : DeclaratorTree) (s : Scope) → IsOrdinary (outer_types c s).reserved (declarator_name x) →
    Avoids (inside (is_typedef c) (declarator_name x) (outer_types c s)).reserved (declared_inside x) → FitsTypedef c x s
outer_typedef st.Typedef x s new apart = (new, avoids_itself (declarator_name x) (declared_inside x) apart)
outer_typedef _ x s new apart = tt

outer_init : (c : Storage) (x : DeclaratorTree) (i : Initializer) → may_begin c x ≡ true → FitsInit c x (Some i)
outer_init st.Typedef x i may = never may
outer_init st.Nothing x i may = fits_init st.Nothing x i tt may
outer_init st.Static x i may = fits_init st.Static x i tt may
outer_init st.Extern x i may = fits_init st.Extern x i tt may

-- The tokens of a name declared outside functions, with its initialiser, are those that one of its shape spells. That the name of a type is not declared
-- again in its own declarator is known from the names that were reserved there.
pub an_outer-sound : (c : Storage) (s : Scope) (ts : Tokens) → Goes (Unit {0}) free Yields NamedTree (rule (an_outer c s)) (Yields (an_outer c s) ts tt) ts tt
an_outer-sound c s ts =
    go_call (λ x us _ h.
    let declares : ShapeDeclarator s.types x = subst (λ u. ShapeDeclarator u x) (outer_names c s) h.0.1 in
    let fits = outer_typedef c x s h.1.0 h.1.1 in
    go_look (λ e is. go_both {P = Read (an_outer c s) ts tt} {Q = Declares (an_outer c s) ts tt} (named_init-goes (outer_types c s) 3 (may_begin c x) x us
    (h.0.0, (declares, fits, tt, tt))
    (λ i vs at shaped may. (h.0.0 ∙ ap (λ v. onto_declarator x v) at, (declares, fits, outer_init c x i may, subst (λ u. ShapeInit u i) (outer_names c s) shaped))) e is)
    (go_always (λ v vs y. tt))))

more_outer-goes : (c : Storage) (s : Scope) (ts : Tokens) (e : Kind) → kind [] ts ≡ e → Keeps (more_outer c s) (more_outer_by c s e) ts
more_outer-goes c s ts k.Semicolon is = go_take [] k.Semicolon is tt (λ n us at. go_done (at, tt))
more_outer-goes c s ts k.Comma is =
    go_spend (λ y _. go_take [] k.Comma is tt (λ n us at. go_call (λ x vs _ f. go_call (λ xs ws _ g. go_done (cc, (f.1, g.1))))))
more_outer-goes c s ts _ is = go_stop

-- The tokens of the names behind the first, with the semicolon, are those that names of their shape spell.
pub more_outer-sound : (c : Storage) (s : Scope) (ts : Tokens) → Keeps (more_outer c s) (rule (more_outer c s)) ts
more_outer-sound c s ts = go_look (λ e is. more_outer-goes c s ts e is)

risen-goes : (t : NameEnvironment) (x : DeclaratorTree) (ts us : Tokens) → ts ≡ onto_declarator x us → ShapeDeclarator t.types x → (follows : Bool) →
    KeepsOn (a_first t) (cond follows (rise (done x)) stop) ts us
risen-goes t x ts us at shaped true = go_rise (λ y _. go_done (at, shaped))
risen-goes t x ts us at shaped false = go_stop

first-goes : (t : NameEnvironment) (x : DeclaratorTree) (ts us : Tokens) → ts ≡ onto_declarator x us → ShapeDeclarator t.types x → (e : Kind) → KeepsOn (a_first t) (first_by x e) ts us
first-goes t x ts us at shaped k.OpenBrace = go_if {b = is_function x} (λ yes. go_done (at, shaped)) (λ other. go_stop)
first-goes t x ts us at shaped e = risen-goes t x ts us at shaped (follows_first x e)

first_declared-goes : (t : NameEnvironment) (ss : Stars) (n : Name) (ts us : Tokens) (e : Kind) → kind [] us ≡ e → ts ≡ onto_stars ss (name_token n ∷ us) → is_among t.types n ≡ false →
    KeepsOn (a_first t) (first_declared_by t ss n e) ts us
first_declared-goes t ss n ts us k.OpenBracket is at ordinary = go_rise (λ y _. go_call (λ xs vs _ p. go_done (rw (at, p.0) refl, (ordinary, p.2 is, p.1))))
first_declared-goes t ss n ts us k.OpenParen is at ordinary = go_take [] k.OpenParen is tt (λ m vs opening. go_call (λ ps ws _ p.
    go_look (λ e next. first-goes t (function ss n ps.0 ps.1) ts ws (rw (at, opening, p.0) refl) (ordinary, p.1, p.2, p.3) e)))
first_declared-goes t ss n ts us e is at ordinary = first-goes t (plain ss n) ts us at ordinary e

first_declarator-goes : (t : NameEnvironment) (ss : Stars) (ts us : Tokens) (e : Kind) → kind (barred t) us ≡ e → ts ≡ onto_stars ss us → KeepsOn (a_first t) (first_declarator_by t ss e) ts us
first_declarator-goes t ss ts us k.Name is at = go_name (barred t) is (λ n vs named new.
    go_look (λ e next. first_declared-goes t ss n ts vs e next (rw (at, named) refl) (among_neither t.reserved t.types n new).1))
first_declarator-goes t ss ts us k.OpenParen is at = go_rise (λ y _. pointer-goes t 3 false false ss ts us is at (λ c vs spelled shaped none fresh. (spelled, shaped)))
first_declarator-goes t ss ts us _ is at = go_stop

-- The tokens of an item's first declarator are those that one of its shape spells.
pub a_first-sound : (t : NameEnvironment) (ts : Tokens) → Keeps (a_first t) (rule (a_first t)) ts
a_first-sound t ts = go_call (λ ss us _ p. go_look (λ e is. first_declarator-goes t ss ts us e is p))

-- ---- items

with_names-goes : (c : Storage) (ws : Specifiers) (s : Scope) (x : NamedTree) (ts us : Tokens) → ts ≡ onto_storage c (onto_specifiers ws (onto_named x us)) →
    ShapeSpecifiers s.types ws → NamesType ws → ShapeNamed c x (behind_specifiers ws s) → KeepsOn (an_item s) (with_names c ws (behind_specifiers ws s) x) ts us
with_names-goes c ws s x ts us at shaped named fits = go_call (λ xs vs _ h. go_done (cc, (named, shaped, (λ none. absurd (cc)), (fits, h.1))))

-- a declarator before a brace is a function's
function_read : (c : Storage) (ws : Specifiers) (s : Scope) (ss : Statements) (x : DeclaratorTree) (ts us : Tokens) →
    ts ≡ onto_storage c (onto_specifiers ws (onto_declarator x (mark (codes "{") ∷ onto_statements ss (mark (codes "}") ∷ us)))) → IsNoTypedef c → ShapeSpecifiers s.types ws → NamesType ws →
    ShapeDeclarator s.types x → ShapeStatements s.types ss (of_block outside) → is_function x ≡ true → Read (an_item s) ts tt (function_of c ws ss x) us tt
function_read c ws s ss (function xs n ps v) ts us at inner shaped named declares stated is = (at, (inner, named, shaped, declares.0, declares.1, declares.2, declares.3, tt, stated))
function_read c ws s ss _ ts us at inner shaped named declares stated is = never is

-- a first name that is no type
plain-goes : (c : Storage) (ws : Specifiers) (s : Scope) (x : DeclaratorTree) (ts us : Tokens) → ts ≡ onto_storage c (onto_specifiers ws (onto_declarator x us)) → IsNoTypedef c →
    ShapeSpecifiers s.types ws → NamesType ws → ShapeDeclarator s.types x → KeepsOn (an_item s) (with_names c ws (behind_specifiers ws s) (record { declarator = x; init = None })) ts us
plain-goes c ws s x ts us at inner shaped named declares =
    with_names-goes c ws s (record { declarator = x; init = None }) ts us at shaped named (declares, fits_typedef c x (behind_specifiers ws s) inner, tt, tt)

item-goes : (c : Storage) (ws : Specifiers) (s : Scope) (x : DeclaratorTree) (ts us : Tokens) → ts ≡ onto_storage c (onto_specifiers ws (onto_declarator x us)) → IsNoTypedef c →
    ShapeSpecifiers s.types ws → NamesType ws → ShapeDeclarator s.types x →
    (e : Kind) → kind [] us ≡ e → KeepsOn (an_item s) (item_by c ws (behind_specifiers ws s) x e) ts us
item-goes c ws s x ts us at inner shaped named declares k.OpenBrace is =
    go_if {b = is_function x} (λ yes. go_take [] k.OpenBrace is tt (λ n vs here. go_call (λ ss ys _ h. go_done (function_read c ws s ss x ts ys (cc) inner shaped named declares h.1 yes)))) (λ other. go_stop)
item-goes c ws s x ts us at inner shaped named declares k.Assign is =
    go_if {b = has_initializer x} (λ may. go_spend (λ y _. go_take [] k.Assign is tt (λ n vs here. go_call (λ i ys _ h.
    with_names-goes c ws s (record { declarator = x; init = Some i }) ts ys (cc) shaped named (declares, fits_typedef c x (behind_specifiers ws s) inner, fits_init c x i inner may, h.1)))))
    (λ other. go_stop)
item-goes c ws s x ts us at inner shaped named declares _ is = plain-goes c ws s x ts us at inner shaped named declares

-- the names of an item, behind its specifiers
abbrev typedef_names : Specifiers → Scope → Reads ItemTree
typedef_names ws s = naming (has_tag ws) 2 (body.call (an_outer st.Typedef (behind_specifiers ws s)) (λ x. with_names st.Typedef ws (behind_specifiers ws s) x))

abbrev first_names : Storage → Specifiers → Scope → Reads ItemTree
first_names c ws s = naming (has_tag ws) 2 (scope 2 (a_first (only_types s.types)) (λ x. look [] (item_by c ws (behind_specifiers ws s) x)))

typedef-goes : (ws : Specifiers) (s : Scope) (ts us : Tokens) → ts ≡ onto_storage st.Typedef (onto_specifiers ws us) → ShapeSpecifiers s.types ws → NamesType ws →
    (begins : Bool) → KeepsOn (an_item s) (cond begins (typedef_names ws s) stop) ts us
typedef-goes ws s ts us at shaped named true = go_naming (has_tag ws) 2 (go_call (λ x vs _ h. with_names-goes st.Typedef ws s x ts vs (cc) shaped named h.1))
typedef-goes ws s ts us at shaped named false = go_stop

names-goes : (c : Storage) (ws : Specifiers) (s : Scope) (ts us : Tokens) → ts ≡ onto_storage c (onto_specifiers ws us) → IsNoTypedef c → ShapeSpecifiers s.types ws → NamesType ws →
    (begins : Bool) → KeepsOn (an_item s) (cond begins (first_names c ws s) stop) ts us
names-goes c ws s ts us at inner shaped named true =
    go_naming (has_tag ws) 2 (go_scope (λ x vs _ h. go_look (λ e is. item-goes c ws s x ts vs (cc) inner shaped named h.1 e is)))
names-goes c ws s ts us at inner shaped named false = go_stop

item_names-goes : (c : Storage) (ws : Specifiers) (s : Scope) (ts us : Tokens) → ts ≡ onto_storage c (onto_specifiers ws us) → ShapeSpecifiers s.types ws → NamesType ws →
    (e : Kind) → kind (barred (outer_types c (behind_specifiers ws s))) us ≡ e → KeepsOn (an_item s) (item_names_by c ws (behind_specifiers ws s) e) ts us
item_names-goes c ws s ts us at shaped named k.Semicolon is =
    go_if {b = has_tag ws} (λ tagged. go_take (barred (outer_types c (behind_specifiers ws s))) k.Semicolon is tt (λ n vs here. go_done (cc, (named, shaped, (λ none. tagged), tt)))) (λ other. go_stop)
item_names-goes st.Typedef ws s ts us at shaped named e is = typedef-goes ws s ts us at shaped named (begins_declarator e)
item_names-goes st.Nothing ws s ts us at shaped named e is = names-goes st.Nothing ws s ts us at tt shaped named (begins_declarator e)
item_names-goes st.Static ws s ts us at shaped named e is = names-goes st.Static ws s ts us at tt shaped named (begins_declarator e)
item_names-goes st.Extern ws s ts us at shaped named e is = names-goes st.Extern ws s ts us at tt shaped named (begins_declarator e)

specifiers-goes : (c : Storage) (s : Scope) (ts us : Tokens) → ts ≡ onto_storage c us → KeepsOn (an_item s) (item_specifiers c s) ts us
specifiers-goes c s ts us at =
    go_call (λ ws vs _ h. go_look (λ e is. item_names-goes c ws s ts vs (at ∙ ap (λ v. onto_storage c v) h.0) h.1 h.2 e is))

typed-goes : (s : Scope) (ts : Tokens) (begins : Bool) → Keeps (an_item s) (cond begins (spend 1 2 (item_specifiers st.Nothing s)) stop) ts
typed-goes s ts true = go_spend (λ y _. specifiers-goes st.Nothing s ts ts refl)
typed-goes s ts false = go_stop

start-goes : (s : Scope) (ts : Tokens) (e : Kind) → kind s.types ts ≡ e → Keeps (an_item s) (item_start_by s e) ts
start-goes s ts k.Static is = go_spend (λ y _. go_take s.types k.Static is tt (λ n us at. specifiers-goes st.Static s ts us at))
start-goes s ts k.Extern is = go_spend (λ y _. go_take s.types k.Extern is tt (λ n us at. specifiers-goes st.Extern s ts us at))
start-goes s ts k.Typedef is = go_spend (λ y _. go_take s.types k.Typedef is tt (λ n us at. specifiers-goes st.Typedef s ts us at))
start-goes s ts e is = typed-goes s ts (begins_type e)

-- The tokens of an item are those that one of its shape spells.
pub an_item-sound : (s : Scope) (ts : Tokens) → Keeps (an_item s) (rule (an_item s)) ts
an_item-sound s ts = go_look (λ e is. start-goes s ts e is)

another-goes : (s : Scope) (ts : Tokens) → Keeps (all_items s) (items_by s k.Foreign) ts
another-goes s ts = go_strict (λ x us _ h. go_call (λ xs vs _ q. go_done (cc, q.1, (h.1, q.2))))

items-goes : (s : Scope) (ts : Tokens) (e : Kind) → kind [] ts ≡ e → Keeps (all_items s) (items_by s e) ts
items-goes s ts k.Nothing is = go_done (refl, end_head [] ts is, tt)
items-goes s ts _ is = another-goes s ts

-- All tokens up to the end are those that items of their shape spell.
pub all_items-sound : (s : Scope) (ts : Tokens) → Keeps (all_items s) (rule (all_items s)) ts
all_items-sound s ts = go_look (λ e is. items-goes s ts e is)
