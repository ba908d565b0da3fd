-- The rules outside functions keep to what is due.
use Rattle.std.proofs.Common.{ℕ, ◌≤◌, Bool, false, cond, [], arith}
use Rattle.c_tree.specs.declared.tree.Storage.{Storage}
use Rattle.c_tree.specs.declared.tree.Storage.TheVariants as st
use Rattle.c_tree.specs.TypeWords.{has_tag}
use Rattle.c_tree.specs.Tree.{Name, Stars, Specifiers, DeclaratorTree, plain, function}
use Rattle.c_tree.specs.Shape.{Scope, behind_specifiers}
use Rattle.c_grammar.specs.declared.kind.Kind.{Kind}
use Rattle.c_grammar.specs.declared.kind.Kind.TheVariants as k
use Rattle.c_grammar.specs.Body as body
use Rattle.c_grammar.specs.Rules.{NameEnvironment, only_types, naming, outer_types, begins_type, begins_declarator, has_initializer, may_begin, more_outer_by, is_function, follows_first, first_by, first_declared_by, first_declarator_by, with_names, item_by, item_names_by, item_specifiers, item_start_by, items_by, an_outer, more_outer, a_first, an_item, all_items}
use Rattle.grammar_limits.proofs.Dues.{Safe, Due, safe_done, safe_stop, safe_look, safe_take, safe_spend, safe_rise, safe_call, safe_strict, safe_scope, safe_if, safe_naming}
use Rattle.grammar_limits.proofs.SafeDeclarators.{declared-by, pointer-by}
use Rattle.grammar_limits.proofs.SafeDeclarations.{named-init-by}

-- a name outside functions
pub outer-due : (c : Storage) (s : Scope) → Due (an_outer c s)
outer-due c s low = safe_call (omega arith) (omega arith) (omega arith) (omega arith) (λ x. safe_look (λ e. named-init-by (outer_types c s) 3 _ (may_begin c x) x e (omega arith)))

more-outer-by : (c : Storage) (s : Scope) (e : Kind) → Safe (more_outer_by c s e) 60 0 30 10 0
more-outer-by c s k.Semicolon = safe_take (λ _. safe_done (omega arith) (omega arith))
more-outer-by c s k.Comma = safe_spend (omega arith) (omega arith) (safe_take (λ _. safe_call (omega arith) (omega arith) (omega arith) (omega arith) (λ _. safe_call (omega arith) (omega arith) (omega arith) (omega arith) (λ _. safe_done (omega arith) (omega arith)))))
more-outer-by c s _ = safe_stop

pub more-outer-due : (c : Storage) (s : Scope) → Due (more_outer c s)
more-outer-due c s low = safe_look (λ e. more-outer-by c s e)

-- a declaration goes on, or nothing does
rises-first : (c : DeclaratorTree) (u n : ℕ) (b : Bool) → 10 ≤ n → Safe (cond b (body.rise (body.done c)) body.stop) 10 1 u n 0
rises-first c u n b h = safe_if b (safe_rise (omega arith) (safe_done (omega arith) (omega arith))) safe_stop

first-by : (c : DeclaratorTree) (u n : ℕ) (e : Kind) → 10 ≤ n → Safe (first_by c e) 10 1 u n 0
first-by c u n k.OpenBrace h = safe_if (is_function c) (safe_done (omega arith) (omega arith)) safe_stop
first-by c u n e h = rises-first c u n (follows_first c e) h

-- behind the name of the first declarator: behind an array the deepest node may be too deep while its sizes are read
first-declared-by : (t : NameEnvironment) (ss : Stars) (n : Name) (e : Kind) → Safe (first_declared_by t ss n e) 10 1 23 110 0
first-declared-by t ss n k.OpenBracket = safe_rise (omega arith) (declared-by t 3 1 23 1 false ss n k.OpenBracket (omega arith) (omega arith))
first-declared-by t ss n k.OpenParen = safe_take (λ _. safe_call (omega arith) (omega arith) (omega arith) (omega arith) (λ x. safe_look (λ e. first-by (function ss n x.0 x.1) _ _ e (omega arith))))
first-declared-by t ss n e = first-by (plain ss n) _ _ e (omega arith)

first-declarator-by : (t : NameEnvironment) (ss : Stars) (e : Kind) → Safe (first_declarator_by t ss e) 10 1 22 10 0
first-declarator-by t ss k.Name = safe_take (λ n. safe_look (λ e. first-declared-by t ss n e))
first-declarator-by t ss k.OpenParen = safe_rise (omega arith) (pointer-by t 3 1 22 1 false false ss (omega arith) (omega arith) (omega arith))
first-declarator-by t ss _ = safe_stop

-- the first declarator of an item
pub first-due : (t : NameEnvironment) → Due (a_first t)
first-due t low = safe_call (omega arith) (omega arith) (omega arith) (omega arith) (λ x. safe_look (λ e. first-declarator-by t x e))

item-by : (c : Storage) (ws : Specifiers) (s : Scope) (x : DeclaratorTree) (u n : ℕ) (e : Kind) → 30 ≤ u → 18 ≤ n → Safe (item_by c ws s x e) 20 0 u n 0
item-by c ws s x u n k.OpenBrace room h = safe_if (is_function x) (safe_take (λ _. safe_call (omega arith) (omega arith) (omega arith) (omega arith) (λ _. safe_done (omega arith) (omega arith)))) safe_stop
item-by c ws s x u n k.Assign room h = safe_if (has_initializer x) (safe_spend (omega arith) (omega arith) (safe_take (λ _. safe_call (omega arith) (omega arith) (omega arith) (omega arith) (λ _. safe_call (omega arith) (omega arith) (omega arith) (omega arith) (λ _. safe_done (omega arith) (omega arith)))))) safe_stop
item-by c ws s x u n _ room h = safe_call (omega arith) (omega arith) (omega arith) (omega arith) (λ _. safe_done (omega arith) (omega arith))

typedef-named : (ws : Specifiers) (s : Scope) (u n : ℕ) → 30 ≤ u → 18 ≤ n → Safe (body.call (an_outer st.Typedef s) (λ x. with_names st.Typedef ws s x)) 20 0 u n 0
typedef-named ws s u n room h = safe_call (omega arith) (omega arith) (omega arith) (omega arith) (λ _. safe_call (omega arith) (omega arith) (omega arith) (omega arith) (λ _. safe_done (omega arith) (omega arith)))

typedef-first : (ws : Specifiers) (s : Scope) (u n : ℕ) (e : Kind) → 30 ≤ u → 19 ≤ n →
    Safe (cond (begins_declarator e) (naming (has_tag ws) 2 (body.call (an_outer st.Typedef s) (λ x. with_names st.Typedef ws s x))) body.stop) 20 0 u n 0
typedef-first ws s u n e room h = safe_if (begins_declarator e) (safe_naming (has_tag ws) 2 (omega arith) (omega arith) (typedef-named ws s _ _ (omega arith) (omega arith)) (typedef-named ws s _ _ (omega arith) (omega arith))) safe_stop

declarator-named : (c : Storage) (ws : Specifiers) (s : Scope) (u n : ℕ) → 30 ≤ u → 18 ≤ n → Safe (body.scope 2 (a_first (only_types s.types)) (λ x. body.look [] (item_by c ws s x))) 20 0 u n 0
declarator-named c ws s u n room h = safe_scope (omega arith) (omega arith) (omega arith) (omega arith) (omega arith) (λ x. safe_look (λ j. item-by c ws s x _ _ j (omega arith) (omega arith)))

declarator-first : (c : Storage) (ws : Specifiers) (s : Scope) (u n : ℕ) (e : Kind) → 30 ≤ u → 19 ≤ n →
    Safe (cond (begins_declarator e) (naming (has_tag ws) 2 (body.scope 2 (a_first (only_types s.types)) (λ x. body.look [] (item_by c ws s x)))) body.stop) 20 0 u n 0
declarator-first c ws s u n e room h = safe_if (begins_declarator e) (safe_naming (has_tag ws) 2 (omega arith) (omega arith) (declarator-named c ws s _ _ (omega arith) (omega arith)) (declarator-named c ws s _ _ (omega arith) (omega arith))) safe_stop

item-names-by : (c : Storage) (ws : Specifiers) (s : Scope) (u n : ℕ) (e : Kind) → 30 ≤ u → 19 ≤ n → Safe (item_names_by c ws s e) 20 0 u n 0
item-names-by c ws s u n k.Semicolon room h = safe_if (has_tag ws) (safe_take (λ _. safe_done (omega arith) (omega arith))) safe_stop
item-names-by st.Typedef ws s u n e room h = typedef-first ws s u n e room h
item-names-by c ws s u n e room h = declarator-first c ws s u n e room h

specifiers-first : (c : Storage) (s : Scope) (u n : ℕ) → 30 ≤ u → 19 ≤ n → Safe (item_specifiers c s) 20 0 u n 0
specifiers-first c s u n room h = safe_call (omega arith) (omega arith) (omega arith) (omega arith) (λ x. safe_look (λ e. item-names-by c x (behind_specifiers x s) _ _ e (omega arith) (omega arith)))

item-plain : (s : Scope) (b : Bool) → Safe (cond b (body.spend 1 2 (item_specifiers st.Nothing s)) body.stop) 20 0 30 20 0
item-plain s b = safe_if b (safe_spend (omega arith) (omega arith) (specifiers-first st.Nothing s _ _ (omega arith) (omega arith))) safe_stop

item-start-by : (s : Scope) (e : Kind) → Safe (item_start_by s e) 20 0 30 20 0
item-start-by s k.Static = safe_spend (omega arith) (omega arith) (safe_take (λ _. specifiers-first st.Static s _ _ (omega arith) (omega arith)))
item-start-by s k.Extern = safe_spend (omega arith) (omega arith) (safe_take (λ _. specifiers-first st.Extern s _ _ (omega arith) (omega arith)))
item-start-by s k.Typedef = safe_spend (omega arith) (omega arith) (safe_take (λ _. specifiers-first st.Typedef s _ _ (omega arith) (omega arith)))
item-start-by s e = item-plain s (begins_type e)

-- an item
pub item-due : (s : Scope) → Due (an_item s)
item-due s low = safe_look (λ e. item-start-by s e)

items-by : (s : Scope) (e : Kind) → Safe (items_by s e) 20 0 30 20 0
items-by s k.Nothing = safe_done (omega arith) (omega arith)
items-by s _ = safe_strict (omega arith) (omega arith) (omega arith) (omega arith) (λ _. safe_call (omega arith) (omega arith) (omega arith) (omega arith) (λ _. safe_done (omega arith) (omega arith)))

-- all items
pub items-due : (s : Scope) → Due (all_items s)
items-due s low = safe_look (λ e. items-by s e)
