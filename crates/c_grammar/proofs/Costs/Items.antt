-- What the rules outside functions count.
use Rattle.std.proofs.Common.{◌≡◌, ◌≢◌, suc, ◌+◌, ◌≤◌, max, [], ◌∷◌, length, refl, sym, ap, subst, ◌∙◌, arith, length-append, Bool, true, false, cond, IsTrue, None}
use Rattle.c_tree.specs.declared.tree.Storage.{Storage}
use Rattle.c_tree.specs.declared.tree.Storage.TheVariants as st
use Rattle.c_tree.specs.TypeWords.{has_tag}
use Rattle.c_tree.specs.Tree.{Name, Stars, Specifiers, DeclaratorTree, plain, array, function, pointer, NamedTree, Statements}
use Rattle.c_tree.specs.Nodes.{Node, nodes_specifiers, nodes_declarator, nodes_named, nodes_statements, nodes_item, nodes_items}
use Rattle.c_tree.specs.Depth.{depth_specifiers, depth_declarator, depth_named, depth_statements, depth_item}
use Rattle.c_tree.specs.Marks.{Tokens}
use Rattle.c_tree.specs.Shape.{Scope, behind_specifiers, behind_item}
use Rattle.c_grammar.specs.declared.kind.Kind.{Kind}
use Rattle.c_grammar.specs.declared.kind.Kind.TheVariants as k
use Rattle.c_grammar.specs.Kind.{kind}
use Rattle.c_grammar.specs.Body.{done}
use Rattle.c_grammar.specs.Body as body
use Rattle.c_grammar.specs.Gauge.{Meter, added, raised}
use Rattle.c_grammar.specs.Rules.{NameEnvironment, only_types, naming, outer_types, begins_type, begins_declarator, has_initializer, may_begin, more_outer_by, is_function, follows_first, first_by, first_declared_by, first_declarator_by, function_of, with_names, item_by, item_names_by, item_specifiers, item_start_by, items_by, an_outer, more_outer, a_first, an_item, all_items}
use Rattle.c_grammar.proofs.Conditions.{go_done, go_stop, go_look, go_call, go_strict, go_scope, go_if}
use Rattle.c_grammar.proofs.Costs.Counting.{Costs}
use Rattle.c_grammar.proofs.Costs.Steps.{Counts, Cost, pay, lift, skips}
use Rattle.c_grammar.proofs.Costs.Numbers.{initializer_deep, names_size, declaration_size}
use Rattle.c_grammar.proofs.Costs.Declarators.{Declares, array-by, pointer-by}
use Rattle.c_grammar.proofs.Costs.Declarations.{Specifies, tag-alone, name-first, named-init-by}

-- a name outside functions
pub outer-cost : (c : Storage) (s : Scope) → Cost (an_outer c s)
outer-cost c s ts m =
    go_call (λ x us n p. go_look (λ e is. named-init-by (outer_types c s) 3 (may_begin c x) x e us m n _ p (λ y vs z h before. let a = h before in (a.0, omega arith))))

more-outer-by : (c : Storage) (s : Scope) (e : Kind) (ts : Tokens) (m : Meter) → Counts (more_outer_by c s e) (Costs (more_outer c s) ts m) ts m
more-outer-by c s k.Semicolon ts m = skips (λ _ us. go_done (λ before. (omega arith, omega arith)))
more-outer-by c s k.Comma ts m = pay (skips (λ _ us. go_call (λ x vs n p. go_call (λ xs ws o h. go_done (λ before. let a = p (omega arith) in let b = h (omega arith) in (omega (arith, names_size x xs), omega arith))))))
more-outer-by c s _ ts m = go_stop

-- more names outside functions
pub more-outer-cost : (c : Storage) (s : Scope) → Cost (more_outer c s)
more-outer-cost c s ts m = go_look (λ e is. more-outer-by c s e ts m)

abbrev is_brace : Kind → Bool
is_brace k.OpenBrace = true
is_brace _ = false

not_brace : (e : Kind) → is_brace e ≡ false → e ≢ k.OpenBrace
not_brace e h is = let no = sym h ∙ ap is_brace is in cc

-- behind a declarator that is counted, where no body follows
first-else : (t : NameEnvironment) (c : DeclaratorTree) (e : Kind) (ts us : Tokens) (m n : Meter) → kind [] us ≡ e → e ≢ k.OpenBrace → Declares 2 m c n →
    Counts (cond (follows_first c e) (body.rise (done c)) body.stop) (Costs (a_first t) ts m) us n
first-else t c e ts us m n is other h = go_if {b = follows_first c e}
    (λ yes. lift (go_done (λ before. let a = h (omega arith) in (a.0, λ f at. absurd (other (sym is ∙ at)), λ no. omega arith, λ at. omega arith))))
    (λ no. go_stop)

first-by : (t : NameEnvironment) (c : DeclaratorTree) (e : Kind) (ts us : Tokens) (m n : Meter) → kind [] us ≡ e → Declares 2 m c n → Counts (first_by c e) (Costs (a_first t) ts m) us n
first-by t c k.OpenBrace ts us m n is h = go_if {b = is_function c}
    (λ yes. go_done (λ before. let a = h (omega arith) in (a.0, λ f at. omega arith, λ no. absurd (cc (sym yes ∙ no)), λ other. absurd (other is))))
    (λ no. go_stop)
first-by t c e ts us m n is h = first-else t c e ts us m n is (not_brace e refl) h

-- an array or a pointer, which is no function, is counted one node deeper
deeper : (t : NameEnvironment) (c : DeclaratorTree) (ts us : Tokens) (m n : Meter) → is_function c ≡ false → Declares 3 (raised m) c n → Costs (a_first t) ts m c us n
deeper t c ts us m n other h before = let a = h (omega arith) in (a.0, λ f at. absurd (cc (sym other ∙ f)), λ no. omega arith, λ at. omega arith)

first-declared-by : (t : NameEnvironment) (ss : Stars) (n : Name) (e : Kind) (ts us : Tokens) (m : Meter) → kind [] us ≡ e → Counts (first_declared_by t ss n e) (Costs (a_first t) ts m) us m
first-declared-by t ss n k.OpenBracket ts us m is = lift (array-by t 3 ss n us (raised m) _ (λ xs vs z h. deeper t (array ss n xs) ts vs m z refl h))
first-declared-by t ss n k.OpenParen ts us m is = skips (λ _ vs. go_call (λ ps ws o h. go_look (λ e at. first-by t (function ss n ps.0 ps.1) e ts ws m o at h)))
first-declared-by t ss n e ts us m is = first-by t (plain ss n) e ts us m m is (λ before. (omega arith, omega arith))

first-declarator-by : (t : NameEnvironment) (ss : Stars) (e : Kind) (ts us : Tokens) (m : Meter) → Counts (first_declarator_by t ss e) (Costs (a_first t) ts m) us m
first-declarator-by t ss k.Name ts us m = skips (λ n vs. go_look (λ e is. first-declared-by t ss n e ts vs m is))
first-declarator-by t ss k.OpenParen ts us m = lift (pointer-by t 3 false false ss us (raised m) _ (λ c vs z no h. deeper t c ts vs m z no h))
first-declarator-by t ss _ ts us m = go_stop

-- the first declarator of an item
pub first-cost : (t : NameEnvironment) → Cost (a_first t)
first-cost t ts m = go_call (λ ss us n p. go_look (λ e is. subst (λ z. Counts (first_declarator_by t ss e) (Costs (a_first t) ts m) us z) (sym p) (first-declarator-by t ss e ts us m)))

-- ---- items

-- the first name and the specifiers of an item are counted
with-names : (c : Storage) (ws : Specifiers) (s r : Scope) (x : NamedTree) (ts us : Tokens) (m n : Meter) →
    (1 ≤ m.peak → (n.made ≡ m.made + suc (length (nodes_specifiers ws) + length (nodes_named x))) × (n.peak ≡ max m.peak (2 + max (depth_specifiers ws) (depth_named x)))) →
    Counts (with_names c ws s x) (Costs (an_item r) ts m) us n
with-names c ws s r x ts us m n h = go_call (λ xs vs z p. go_done (λ before. let a = h before in let b = p (omega arith) in
    (omega (arith, names_size x xs, declaration_size (record { storage = c; specs = ws; names = x ∷ xs })), omega arith)))

function-parts : (c : Storage) (ws : Specifiers) (ss : Statements) (x : DeclaratorTree) → IsTrue (is_function x) →
    (length (nodes_item (function_of c ws ss x)) ≡ suc (length (nodes_specifiers ws) + (length (nodes_declarator x) + suc (length (nodes_statements ss))))) ×
    (depth_item (function_of c ws ss x) ≡ 1 + max (depth_specifiers ws) (max (depth_declarator x) (1 + depth_statements ss)))
function-parts c ws ss (function xs n ps v) h = (simp length-append, refl)
function-parts c ws ss (plain xs n) h = cc
function-parts c ws ss (array xs n ys) h = cc
function-parts c ws ss (pointer xs qs n ys ps v) h = cc

-- the specifiers and the first declarator of an item are counted, with the node that holds the declarator
pub record Begun (e : Kind) (ws : Specifiers) (x : DeclaratorTree) (m n : Meter) : Type 0 where
  pub made : n.made ≡ m.made + suc (length (nodes_specifiers ws) + suc (length (nodes_declarator x)))
  pub of_function : e ≡ k.OpenBrace → is_function x ≡ true → n.peak ≡ max m.peak (2 + max (depth_specifiers ws) (max 1 (depth_declarator x)))
  pub of_name : e ≢ k.OpenBrace → n.peak ≡ max m.peak (2 + max (depth_specifiers ws) (1 + depth_declarator x))

plain-name : (c : Storage) (ws : Specifiers) (s r : Scope) (x : DeclaratorTree) (e : Kind) (ts us : Tokens) (m n : Meter) → e ≢ k.OpenBrace → (1 ≤ m.peak → Begun e ws x m n) →
    Counts (with_names c ws s (record { declarator = x; init = None })) (Costs (an_item r) ts m) us n
plain-name c ws s r x e ts us m n other h = with-names c ws s r _ ts us m n (λ before. let a = h before in let made = a.made in let peak = a.of_name other in (omega (arith, length-append {A = Node}), omega arith))

item-by : (c : Storage) (ws : Specifiers) (s r : Scope) (x : DeclaratorTree) (e : Kind) (ts us : Tokens) (m n : Meter) → (1 ≤ m.peak → Begun e ws x m n) → Counts (item_by c ws s x e) (Costs (an_item r) ts m) us n
item-by c ws s r x k.OpenBrace ts us m n h = go_if {b = is_function x}
    (λ yes. skips (λ _ vs. go_call (λ ss xs z p. go_done (λ before.
    let a = h before in let made = a.made in let peak = a.of_function refl yes in let b = p (omega arith) in let parts = function-parts c ws ss x yes in (omega arith, omega arith)))))
    (λ no. go_stop)
item-by c ws s r x k.Assign ts us m n h = go_if {b = has_initializer x}
    (λ yes. pay (skips (λ _ vs. go_call (λ i xs z p. with-names c ws s r _ ts xs m z (λ before.
    let a = h before in let made = a.made in let peak = a.of_name (not_brace k.Assign refl) in let deep = initializer_deep i in (omega (arith, length-append {A = Node}), omega arith))))))
    (λ no. go_stop)
item-by c ws s r x e ts us m n h = plain-name c ws s r x e ts us m n (not_brace e refl) h

-- behind the specifiers of an item, whose own node is counted
abbrev Opened : Specifiers → Meter → Meter → Type 0
Opened ws m n = Specifies 2 ws (added 1 2 m) n

typedef-first : (ws : Specifiers) (s : Scope) (e : Kind) (ts us : Tokens) (m n : Meter) → Opened ws m n → (r : Scope) →
    Counts (cond (begins_declarator e) (naming (has_tag ws) 2 (body.call (an_outer st.Typedef s) (λ x. with_names st.Typedef ws s x))) body.stop) (Costs (an_item r) ts m) us n
typedef-first ws s e ts us m n h r = go_if {b = begins_declarator e}
    (λ yes. name-first 2 ws (added 1 2 m) n h (λ y i. go_call (λ x vs z p. with-names st.Typedef ws s r x ts vs m z (λ before. let a = i (omega arith) in let b = p (omega arith) in (omega arith, omega arith)))))
    (λ no. go_stop)

declarator-first : (c : Storage) (ws : Specifiers) (s : Scope) (e : Kind) (ts us : Tokens) (m n : Meter) → Opened ws m n → (r : Scope) →
    Counts (cond (begins_declarator e) (naming (has_tag ws) 2 (body.scope 2 (a_first (only_types s.types)) (λ x. body.look [] (item_by c ws s x)))) body.stop) (Costs (an_item r) ts m) us n
declarator-first c ws s e ts us m n h r = go_if {b = begins_declarator e}
    (λ yes. name-first 2 ws (added 1 2 m) n h (λ y i. go_scope (λ x vs z p. go_look (λ j is. item-by c ws s r x j ts vs m _ (λ before. let a = i (omega arith) in let b = p refl in record {
      made = omega (arith, b.0);
      of_function = λ at f. let peak = b.1 f (is ∙ at) in omega arith;
      of_name = λ no. let peak = b.3 (λ at. no (sym is ∙ at)) in omega arith;
    })))))
    (λ no. go_stop)

item-names-by : (c : Storage) (ws : Specifiers) (s : Scope) (e : Kind) (ts us : Tokens) (m n : Meter) → Opened ws m n → (r : Scope) → Counts (item_names_by c ws s e) (Costs (an_item r) ts m) us n
item-names-by c ws s k.Semicolon ts us m n h r = go_if {b = has_tag ws}
    (λ yes. skips (λ _ vs. go_done (λ before. let a = tag-alone 2 ws (added 1 2 m) n yes h (omega arith) in (omega (arith, length-append {A = Node}), omega arith)))) (λ no. go_stop)
item-names-by st.Typedef ws s e ts us m n h r = typedef-first ws s e ts us m n h r
item-names-by c ws s e ts us m n h r = declarator-first c ws s e ts us m n h r

item-specifiers : (c : Storage) (s : Scope) (ts us : Tokens) (m : Meter) → Counts (item_specifiers c s) (Costs (an_item s) ts m) us (added 1 2 m)
item-specifiers c s ts us m = go_call (λ ws vs n p. go_look (λ e is. item-names-by c ws (behind_specifiers ws s) e ts vs m n p s))

item-plain : (s : Scope) (e : Kind) (ts : Tokens) (m : Meter) → Counts (cond (begins_type e) (body.spend 1 2 (item_specifiers st.Nothing s)) body.stop) (Costs (an_item s) ts m) ts m
item-plain s e ts m = go_if {b = begins_type e} (λ yes. pay (item-specifiers st.Nothing s ts ts m)) (λ no. go_stop)

item-start-by : (s : Scope) (e : Kind) (ts : Tokens) (m : Meter) → Counts (item_start_by s e) (Costs (an_item s) ts m) ts m
item-start-by s k.Static ts m = pay (skips (λ _ us. item-specifiers st.Static s ts us m))
item-start-by s k.Extern ts m = pay (skips (λ _ us. item-specifiers st.Extern s ts us m))
item-start-by s k.Typedef ts m = pay (skips (λ _ us. item-specifiers st.Typedef s ts us m))
item-start-by s e ts m = item-plain s e ts m

-- an item
pub item-cost : (s : Scope) → Cost (an_item s)
item-cost s ts m = go_look (λ e is. item-start-by s e ts m)

first-item : (s : Scope) (ts : Tokens) (m : Meter) → Counts (body.strict (an_item s) (λ x. body.call (all_items (behind_item x s)) (λ xs. done (x ∷ xs)))) (Costs (all_items s) ts m) ts m
first-item s ts m = go_strict (λ x us n p. go_call (λ xs vs z h. go_done (λ before. let a = p before in let b = h (omega arith) in let size = length-append (nodes_item x) (nodes_items xs) in (omega arith, omega arith))))

items-by : (s : Scope) (e : Kind) (ts : Tokens) (m : Meter) → Counts (items_by s e) (Costs (all_items s) ts m) ts m
items-by s k.Nothing ts m = go_done (λ before. (omega arith, omega arith))
items-by s _ ts m = first-item s ts m

-- all items
pub items-cost : (s : Scope) → Cost (all_items s)
items-cost s ts m = go_look (λ e is. items-by s e ts m)
