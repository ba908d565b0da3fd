-- The bodies of the rules of declarations, statements and items are fine.
use Rattle.std.proofs.Common.{◌≡◌, ℕ, ◌+◌, Bool, true, false, ◌||◌, List, [], ◌∷◌, Option, Some, refl, if◌then◌else◌}
use Rattle.c_tree.specs.declared.tree.Storage.{Storage}
use Rattle.c_tree.specs.declared.tree.Storage.TheVariants as st
use Rattle.c_tree.specs.Shape.{Scope, Context, behind_specifiers}
use Rattle.c_tree.specs.Tree.{Name, Expression, Specifiers, DeclaratorTree, NamedTree, DeclarationTree, ForStartTree, StatementTree, declaration, Statements, ItemTree, Stars, name, plain, function, expression_statement}
use Rattle.c_grammar.specs.declared.kind.Kind.{Kind}
use Rattle.c_grammar.specs.declared.kind.Kind.TheVariants as k
use Rattle.c_grammar.specs.Kind.{IsReal}
use Rattle.c_grammar.specs.Body.{done, stop, look, spend, rise, scope, call}
use Rattle.c_grammar.specs.Rules.{NameEnvironment, expect, an_expression, begins_type, begins_declaration, begins_declarator, has_initializer, declaration_by, declared_names_by, named_init_by, more_named_by, optional_by, start_by, else_by, expressed, labelled_by, statement_by, statements_by, may_begin, more_outer_by, first_by, with_names, item_by, item_names_by, item_specifiers, item_start_by, items_by, a_declaration, a_declared, a_named, more_named, an_optional, a_start, a_statement, all_statements, an_outer, more_outer, a_first, an_item, all_items, naming, follows_name, follows_first, first_declared_by, first_declarator_by, outer_types, only_types, a_rest}
use Rattle.c_tree.specs.TypeWords.{has_tag}
use Rattle.c_grammar.proofs.Performs.Declarators.{by_declared, by_declarator}
use Rattle.c_grammar.proofs.Performs.Steps.{Fine, IsFine, fine_done, fine_stop, fine_look, fine_each, fine_spend, fine_rise, fine_call, fine_strict, fine_scope, fine_if, fine_take, fine_expect, fine_name, unmet_else, fine_naming}

-- ---- declarations

by_declaration : (t : NameEnvironment) (d : ℕ) (e : Kind) → Fine DeclarationTree false 5 true (declaration_by t d e)
by_declaration t d k.Static = fine_take (λ n. fine_call refl (λ x. fine_done))
by_declaration t d k.Extern = fine_take (λ n. fine_call refl (λ x. fine_done))
by_declaration t d _ = fine_call refl (λ x. fine_done)

declared_list : {seen : Bool} (t : NameEnvironment) (d : ℕ) (c : Storage) (ws : Specifiers) (b : Bool) →
    Fine DeclarationTree false 4 seen (if b then naming (has_tag ws) d (call (a_named t d) (λ n. call (more_named t d) (λ ns. done (record { storage = c; specs = ws; names = n ∷ ns })))) else stop)
declared_list t d c ws b = fine_if b (fine_naming (has_tag ws) d (fine_call refl (λ n. fine_call refl (λ ns. fine_done)))) fine_stop

by_declared_names : (t : NameEnvironment) (d : ℕ) (c : Storage) (ws : Specifiers) (e : Kind) → Fine DeclarationTree false 4 true (declared_names_by t d c ws e)
by_declared_names t d c ws k.Semicolon = fine_if _ (fine_take (λ n. fine_done)) fine_stop
by_declared_names t d c ws e = declared_list t d c ws (begins_declarator e)

by_named_init : (t : NameEnvironment) (d : ℕ) (may : Bool) (c : DeclaratorTree) (e : Kind) → Fine NamedTree false 3 true (named_init_by t d may c e)
by_named_init t d may c k.Assign = fine_if may (fine_spend (fine_take (λ n. fine_call refl (λ i. fine_done)))) fine_stop
by_named_init t d may c _ = fine_done

by_more_named : (t : NameEnvironment) (d : ℕ) (e : Kind) → Fine (List NamedTree) false 1 true (more_named_by t d e)
by_more_named t d k.Semicolon = fine_take (λ n. fine_done)
by_more_named t d k.Comma = fine_spend (fine_take (λ n. fine_call refl (λ x. fine_call refl (λ xs. fine_done))))
by_more_named t d _ = fine_stop

pub declaration_fine : (t : NameEnvironment) (d : ℕ) → IsFine (a_declaration t d)
declaration_fine t d = fine_look (fine_call refl (λ x. fine_done)) (by_declaration t d)

pub declared_fine : (t : NameEnvironment) (d : ℕ) (c : Storage) → IsFine (a_declared t d c)
declared_fine t d c = fine_call refl (λ ws. fine_look fine_stop (by_declared_names t d c ws))

pub named_fine : (t : NameEnvironment) (d : ℕ) → IsFine (a_named t d)
named_fine t d = fine_call refl (λ c. fine_look fine_done (by_named_init t (d + 1) (has_initializer c) c))

pub more_named_fine : (t : NameEnvironment) (d : ℕ) → IsFine (more_named t d)
more_named_fine t d = fine_look fine_stop (by_more_named t d)

-- ---- statements

otherwise : {seen : Bool} (t : NameEnvironment) (d : ℕ) (e : Kind) → IsReal e → Fine (Option Expression) false 4 seen (call (an_expression t d 1 1) (λ x. expect e (done (Some x))))
otherwise t d e real = fine_call refl (λ x. fine_expect e real fine_done)

by_optional : (t : NameEnvironment) (d : ℕ) (e : Kind) → IsReal e → (j : Kind) → Fine (Option Expression) false 4 true (optional_by t d e j)
by_optional t d e real j = fine_if _ (fine_take (λ n. fine_done)) (otherwise t d e real)

-- at the end of the tokens
unfound : (t : NameEnvironment) (d : ℕ) (e : Kind) → IsReal e → Fine (Option Expression) false 4 false (optional_by t d e k.Nothing)
unfound t d e real = unmet_else e _ real (otherwise t d e real)

by_start : {seen : Bool} (t : NameEnvironment) (d : ℕ) (e : Kind) → Fine ForStartTree false 6 seen (start_by t d e)
by_start t d e = fine_if _ (fine_spend (fine_call refl (λ x. fine_done))) (fine_call refl (λ x. fine_done))

by_else : (t : NameEnvironment) (d : ℕ) (p : Context) (x : Expression) (y : StatementTree) (e : Kind) → Fine StatementTree true 6 true (else_by t d p x y e)
by_else t d p x y k.Else = fine_spend (fine_take (λ n. fine_call refl (λ z. fine_done)))
by_else t d p x y _ = fine_done

by_expression : {seen : Bool} (t : NameEnvironment) (d owed : ℕ) → Fine StatementTree false 6 seen (expressed t d owed)
by_expression t d owed = fine_call refl (λ x. fine_expect k.Semicolon tt fine_done)

labelled_rest : {seen : Bool} (t : NameEnvironment) (d : ℕ) (n : Name) (b : Bool) →
    Fine StatementTree true 6 seen (if b then spend 1 (d + 2) (scope (d + 2) (a_rest t (d + 1) 1 (name n)) (λ x. expect k.Semicolon (done (expression_statement (Some x))))) else stop)
labelled_rest t d n b = fine_if b (fine_spend (fine_scope refl (λ x. fine_expect k.Semicolon tt fine_done))) fine_stop

by_labelled : (t : NameEnvironment) (d : ℕ) (n : Name) (e : Kind) → Fine StatementTree true 6 true (labelled_by t d n e)
by_labelled t d n k.Colon = fine_take (λ m. fine_done)
by_labelled t d n e = labelled_rest t d n (follows_name e)

other_statement : {seen : Bool} (t : NameEnvironment) (d : ℕ) (p : Context) (owed : ℕ) (b : Bool) →
    Fine StatementTree false 6 seen (if b then (if p.in_block then spend owed (d + 1) (call (a_declaration t (d + 1)) (λ x. done (declaration x))) else stop) else expressed t d owed)
other_statement t d p owed b = fine_if b (fine_if _ (fine_spend (fine_call refl (λ x. fine_done))) fine_stop) (by_expression t d owed)

by_statement : (t : NameEnvironment) (d : ℕ) (p : Context) (owed : ℕ) (e : Kind) → Fine StatementTree false 6 true (statement_by t d p owed e)
by_statement t d p owed k.OpenBrace = fine_spend (fine_take (λ n. fine_call refl (λ ss. fine_done)))
by_statement t d p owed k.Semicolon = fine_spend (fine_take (λ n. fine_done))
by_statement t d p owed k.If =
    fine_spend (fine_take (λ n. fine_expect k.OpenParen tt (fine_call refl (λ x. fine_expect k.CloseParen tt (fine_call refl (λ y. fine_look fine_done (by_else t d p x y)))))))
by_statement t d p owed k.While = fine_spend (fine_take (λ n. fine_expect k.OpenParen tt (fine_call refl (λ x. fine_expect k.CloseParen tt (fine_call refl (λ y. fine_done))))))
by_statement t d p owed k.Do =
    fine_spend (fine_take (λ n. fine_call refl (λ y. fine_expect k.While tt (fine_expect k.OpenParen tt (fine_call refl (λ x. fine_expect k.CloseParen tt (fine_expect k.Semicolon tt fine_done)))))))
by_statement t d p owed k.For = fine_spend (fine_take (λ n. fine_expect k.OpenParen tt (fine_call refl (λ c. fine_call refl (λ x. fine_call refl (λ y. fine_call refl (λ z. fine_done)))))))
by_statement t d p owed k.Switch =
    fine_spend (fine_take (λ n. fine_expect k.OpenParen tt (fine_call refl (λ x. fine_expect k.CloseParen tt (fine_expect k.OpenBrace tt (fine_call refl (λ ss. fine_done)))))))
by_statement t d p owed k.Case = fine_if _ (fine_spend (fine_take (λ n. fine_call refl (λ x. fine_expect k.Colon tt fine_done)))) fine_stop
by_statement t d p owed k.Default = fine_if _ (fine_spend (fine_take (λ n. fine_expect k.Colon tt fine_done))) fine_stop
by_statement t d p owed k.Break = fine_if _ (fine_spend (fine_take (λ n. fine_expect k.Semicolon tt fine_done))) fine_stop
by_statement t d p owed k.Continue = fine_if _ (fine_spend (fine_take (λ n. fine_expect k.Semicolon tt fine_done))) fine_stop
by_statement t d p owed k.Return = fine_spend (fine_take (λ n. fine_call refl (λ x. fine_done)))
by_statement t d p owed k.Goto = fine_spend (fine_take (λ m. fine_name [] (λ n. fine_expect k.Semicolon tt fine_done)))
by_statement t d p owed k.Name =
    fine_if _ (fine_spend (fine_take (λ n. fine_look fine_stop (by_labelled t d n)))) (by_expression t d owed)
by_statement t d p owed e = other_statement t d p owed (begins_declaration e)

by_statements : (t : NameEnvironment) (d : ℕ) (p : Context) (e : Kind) → Fine Statements false 7 true (statements_by t d p e)
by_statements t d p k.CloseBrace = fine_take (λ n. fine_done)
by_statements t d p _ = fine_strict refl (λ x. fine_call refl (λ xs. fine_done))

-- the token that is wanted has to be one that can be taken
pub optional_fine : (t : NameEnvironment) (d : ℕ) (e : Kind) → IsReal e → IsFine (an_optional t d e)
optional_fine t d e real = fine_look (unfound t d e real) (by_optional t d e real)

pub start_fine : (t : NameEnvironment) (d : ℕ) → IsFine (a_start t d)
start_fine t d = fine_each (λ there e. by_start t d e)

pub statement_fine : (t : NameEnvironment) (d : ℕ) (p : Context) (owed : ℕ) → IsFine (a_statement t d p owed)
statement_fine t d p owed = fine_look (by_expression t d owed) (by_statement t d p owed)

pub statements_fine : (t : NameEnvironment) (d : ℕ) (p : Context) → IsFine (all_statements t d p)
statements_fine t d p = fine_look (fine_strict refl (λ x. fine_call refl (λ xs. fine_done))) (by_statements t d p)

-- ---- items

by_more_outer : (c : Storage) (s : Scope) (e : Kind) → Fine (List NamedTree) false 1 true (more_outer_by c s e)
by_more_outer c s k.Semicolon = fine_take (λ n. fine_done)
by_more_outer c s k.Comma = fine_spend (fine_take (λ n. fine_call refl (λ x. fine_call refl (λ xs. fine_done))))
by_more_outer c s _ = fine_stop

declaration_first : (c : DeclaratorTree) (b : Bool) → Fine DeclaratorTree true 3 true (if b then rise (done c) else stop)
declaration_first c b = fine_if b (fine_rise fine_done) fine_stop

by_first : (c : DeclaratorTree) (e : Kind) → Fine DeclaratorTree true 3 true (first_by c e)
by_first c k.OpenBrace = fine_if _ fine_done fine_stop
by_first c e = declaration_first c (follows_first c e)

by_first_declared : (t : NameEnvironment) (ss : Stars) (n : Name) (e : Kind) → Fine DeclaratorTree true 3 true (first_declared_by t ss n e)
by_first_declared t ss n k.OpenBracket = fine_rise (by_declared t 3 false ss n k.OpenBracket)
by_first_declared t ss n k.OpenParen = fine_take (λ m. fine_call refl (λ ps. fine_look fine_stop (by_first (function ss n ps.0 ps.1))))
by_first_declared t ss n e = by_first (plain ss n) e

by_first_declarator : (t : NameEnvironment) (ss : Stars) (e : Kind) → Fine DeclaratorTree false 3 true (first_declarator_by t ss e)
by_first_declarator t ss k.Name = fine_take (λ n. fine_look fine_stop (by_first_declared t ss n))
by_first_declarator t ss k.OpenParen = fine_rise (by_declarator t 3 false false ss k.OpenParen)
by_first_declarator t ss _ = fine_stop

may : (free : Bool) → free || true ≡ true
may true = refl
may false = refl

by_names : {seen : Bool} (free : Bool) (c : Storage) (ws : Specifiers) (s : Scope) (n : NamedTree) → Fine ItemTree free 4 seen (with_names c ws s n)
by_names free c ws s n = fine_call (may free) (λ ns. fine_done)

by_item : (free : Bool) (c : Storage) (ws : Specifiers) (s : Scope) (x : DeclaratorTree) (e : Kind) → Fine ItemTree free 4 true (item_by c ws s x e)
by_item free c ws s x k.OpenBrace = fine_if _ (fine_take (λ n. fine_call refl (λ ss. fine_done))) fine_stop
by_item free c ws s x k.Assign = fine_if _ (fine_spend (fine_take (λ n. fine_call refl (λ i. by_names true c ws s _)))) fine_stop
by_item free c ws s x _ = by_names free c ws s _

typedef_names : (free : Bool) {seen : Bool} (ws : Specifiers) (s : Scope) (b : Bool) →
    Fine ItemTree free 4 seen (if b then naming (has_tag ws) 2 (call (an_outer st.Typedef s) (λ n. with_names st.Typedef ws s n)) else stop)
typedef_names free ws s b = fine_if b (fine_naming (has_tag ws) 2 (fine_call (may free) (λ n. by_names free st.Typedef ws s n))) fine_stop

other_names : (free : Bool) {seen : Bool} (c : Storage) (ws : Specifiers) (s : Scope) (b : Bool) →
    Fine ItemTree free 4 seen (if b then naming (has_tag ws) 2 (scope 2 (a_first (only_types s.types)) (λ x. look [] (item_by c ws s x))) else stop)
other_names free c ws s b = fine_if b (fine_naming (has_tag ws) 2 (fine_scope (may free) (λ x. fine_look (by_names free c ws s _) (by_item free c ws s x)))) fine_stop

by_item_names : (free : Bool) (c : Storage) (ws : Specifiers) (s : Scope) (e : Kind) → Fine ItemTree free 4 true (item_names_by c ws s e)
by_item_names free c ws s k.Semicolon = fine_if _ (fine_take (λ n. fine_done)) fine_stop
by_item_names free st.Typedef ws s e = typedef_names free ws s (begins_declarator e)
by_item_names free c ws s e = other_names free c ws s (begins_declarator e)

no_names : (free : Bool) (c : Storage) (ws : Specifiers) (s : Scope) → Fine ItemTree free 4 false (item_names_by c ws s k.Nothing)
no_names free st.Typedef ws s = fine_stop
no_names free _ ws s = fine_stop

by_item_specifiers : {seen : Bool} (free : Bool) (c : Storage) (s : Scope) → Fine ItemTree free 4 seen (item_specifiers c s)
by_item_specifiers free c s = fine_call (may free) (λ ws. fine_look (no_names free c ws (behind_specifiers ws s)) (by_item_names free c ws (behind_specifiers ws s)))

other_item : {seen : Bool} (s : Scope) (b : Bool) → Fine ItemTree false 4 seen (if b then spend 1 2 (item_specifiers st.Nothing s) else stop)
other_item s b = fine_if b (fine_spend (by_item_specifiers false st.Nothing s)) fine_stop

by_item_start : (s : Scope) (e : Kind) → Fine ItemTree false 4 true (item_start_by s e)
by_item_start s k.Static = fine_spend (fine_take (λ n. by_item_specifiers true st.Static s))
by_item_start s k.Extern = fine_spend (fine_take (λ n. by_item_specifiers true st.Extern s))
by_item_start s k.Typedef = fine_spend (fine_take (λ n. by_item_specifiers true st.Typedef s))
by_item_start s e = other_item s (begins_type e)

by_items : (s : Scope) (e : Kind) → Fine (List ItemTree) false 5 true (items_by s e)
by_items s k.Nothing = fine_done
by_items s _ = fine_strict refl (λ x. fine_call refl (λ xs. fine_done))

pub outer_fine : (c : Storage) (s : Scope) → IsFine (an_outer c s)
outer_fine c s = fine_call refl (λ x. fine_look fine_done (by_named_init (outer_types c s) 3 (may_begin c x) x))

pub more_outer_fine : (c : Storage) (s : Scope) → IsFine (more_outer c s)
more_outer_fine c s = fine_look fine_stop (by_more_outer c s)

pub first_fine : (t : NameEnvironment) → IsFine (a_first t)
first_fine t = fine_call refl (λ ss. fine_look fine_stop (by_first_declarator t ss))

pub item_fine : (s : Scope) → IsFine (an_item s)
item_fine s = fine_look fine_stop (by_item_start s)

pub items_fine : (s : Scope) → IsFine (all_items s)
items_fine s = fine_look fine_done (by_items s)
