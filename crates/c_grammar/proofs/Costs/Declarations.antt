-- What the rules of initialisers and declarations count.
use Rattle.std.proofs.Common.{◌≡◌, ℕ, suc, ◌+◌, ◌≤◌, max, ◌∷◌, length, arith, length-append, Bool, true, false, cond, None}
use Rattle.c_tree.specs.declared.tree.Storage.{Storage}
use Rattle.c_tree.specs.declared.tree.Storage.TheVariants as st
use Rattle.c_tree.specs.TypeWords.{is_one_type, type_words, has_tag}
use Rattle.c_tree.specs.Tree.{Specifiers, DeclaratorTree, single, initializers, NamedTree}
use Rattle.c_tree.specs.Nodes.{Node, nodes_named, nodes_declarator, nodes_specifiers}
use Rattle.c_tree.specs.Depth.{depth_named, depth_declarator, depth_specifiers}
use Rattle.c_tree.specs.Marks.{Tokens}
use Rattle.c_grammar.specs.declared.kind.Kind.{Kind}
use Rattle.c_grammar.specs.declared.kind.Kind.TheVariants as k
use Rattle.c_grammar.specs.Body.{done}
use Rattle.c_grammar.specs.Body as body
use Rattle.c_grammar.specs.Gauge.{Meter}
use Rattle.c_grammar.specs.Rules.{NameEnvironment, Reads, naming, begins_declarator, initializer_by, initializers_by, next_initializer_by, more_initializers_by, declaration_by, declared_names_by, has_initializer, named_init_by, more_named_by, an_expression, an_initializer, all_initializers, more_initializers, a_declaration, a_declared, a_named, more_named}
use Rattle.c_grammar.proofs.Conditions.{go_done, go_stop, go_look, go_call, go_if}
use Rattle.c_grammar.proofs.Costs.Counting.{Costs, first_count}
use Rattle.c_grammar.proofs.Costs.Steps.{Counts, Cost, pay, skips, wants, a_name_taken}
use Rattle.c_grammar.proofs.Costs.Numbers.{names_size, declaration_size, initializer_deep, first_counted}

-- ---- initialisers

initializer-single : (t : NameEnvironment) (d o : ℕ) (ts : Tokens) (m : Meter) → Counts (body.call (an_expression t d 2 o) (λ x. done (single x))) (Costs (an_initializer t d o) ts m) ts m
initializer-single t d o ts m = go_call (λ x us n p. go_done p)

initializer-by : (t : NameEnvironment) (d o : ℕ) (e : Kind) (ts : Tokens) (m : Meter) → Counts (initializer_by t d o e) (Costs (an_initializer t d o) ts m) ts m
initializer-by t d o k.OpenBrace ts m = pay (skips (λ _ us. go_call (λ ps vs n p. let a = p (omega arith) in let deep = a.2 in go_done (omega arith, omega arith))))
initializer-by t d o _ ts m = initializer-single t d o ts m

-- an initialiser
pub initializer-cost : (t : NameEnvironment) (d o : ℕ) → Cost (an_initializer t d o)
initializer-cost t d o ts m = go_look (λ e is. initializer-by t d o e ts m)

initializers-first : (t : NameEnvironment) (d o : ℕ) (ts : Tokens) (m : Meter) →
    Counts (body.call (an_initializer t d o) (λ i. body.call (more_initializers t d) (λ ps. done (initializers None i ps.0, ps.1)))) (Costs (all_initializers t d o) ts m) ts m
initializers-first t d o ts m = go_call (λ i us n p. go_call (λ ps vs z h. go_done (λ before. let a = h (omega arith) in let deep = initializer_deep i in (omega (arith, length-append {A = Node}), omega arith, omega arith))))

initializers-by : (t : NameEnvironment) (d o : ℕ) (e : Kind) (ts : Tokens) (m : Meter) → Counts (initializers_by t d o e) (Costs (all_initializers t d o) ts m) ts m
initializers-by t d o k.Dot ts m = pay (skips (λ _ us. a_name_taken (λ n vs. wants k.Assign (λ ws. go_call (λ i xs z p. go_call (λ ps ys w h. go_done (λ before.
    let a = h (omega arith) in let deep = initializer_deep i in (omega (arith, length-append {A = Node}), omega arith, omega arith))))))))
initializers-by t d o _ ts m = initializers-first t d o ts m

-- the parts of a list of initialisers
pub initializers-cost : (t : NameEnvironment) (d o : ℕ) → Cost (all_initializers t d o)
initializers-cost t d o ts m = go_look (λ e is. initializers-by t d o e ts m)

next-initializers : (t : NameEnvironment) (d : ℕ) (ts us : Tokens) (m : Meter) → Counts (body.call (all_initializers t d 1) done) (Costs (more_initializers t d) ts m) us m
next-initializers t d ts us m = go_call (λ ps vs n p. go_done (λ before. let a = p before in (omega arith, a.1)))

next-initializer-by : (t : NameEnvironment) (d : ℕ) (e : Kind) (ts us : Tokens) (m : Meter) → Counts (next_initializer_by t d e) (Costs (more_initializers t d) ts m) us m
next-initializer-by t d k.CloseBrace ts us m = skips (λ _ vs. go_done (λ before. (omega arith, omega arith)))
next-initializer-by t d _ ts us m = next-initializers t d ts us m

more-initializers-by : (t : NameEnvironment) (d : ℕ) (e : Kind) (ts : Tokens) (m : Meter) → Counts (more_initializers_by t d e) (Costs (more_initializers t d) ts m) ts m
more-initializers-by t d k.CloseBrace ts m = skips (λ _ us. go_done (λ before. (omega arith, omega arith)))
more-initializers-by t d k.Comma ts m = skips (λ _ us. go_look (λ e is. next-initializer-by t d e ts us m))
more-initializers-by t d _ ts m = go_stop

-- more of them
pub more-initializers-cost : (t : NameEnvironment) (d : ℕ) → Cost (more_initializers t d)
more-initializers-cost t d ts m = go_look (λ e is. more-initializers-by t d e ts m)

-- ---- declarations

declaration-plain : (t : NameEnvironment) (d : ℕ) (c : Storage) (ts us : Tokens) (m : Meter) → Counts (body.call (a_declared t d c) done) (Costs (a_declaration t d) ts m) us m
declaration-plain t d c ts us m = go_call (λ x vs n p. go_done p)

declaration-by : (t : NameEnvironment) (d : ℕ) (e : Kind) (ts : Tokens) (m : Meter) → Counts (declaration_by t d e) (Costs (a_declaration t d) ts m) ts m
declaration-by t d k.Static ts m = skips (λ _ us. declaration-plain t d st.Static ts us m)
declaration-by t d k.Extern ts m = skips (λ _ us. declaration-plain t d st.Extern ts us m)
declaration-by t d _ ts m = declaration-plain t d st.Nothing ts ts m

-- a declaration inside a function
pub declaration-cost : (t : NameEnvironment) (d : ℕ) → Cost (a_declaration t d)
declaration-cost t d ts m = go_look (λ e is. declaration-by t d e ts m)

-- behind specifiers that a name has to follow, unless they have a struct or an enum
abbrev pub Specifies : ℕ → Specifiers → Meter → Meter → Type 0
Specifies d ws m n = d ≤ m.peak → (n.made ≡ m.made + (first_count ws + length (nodes_specifiers ws))) × (n.peak ≡ max m.peak (d + max (first_count ws) (depth_specifiers ws))) × (is_one_type (type_words ws) ≡ true)

-- the specifiers are counted, and the name that follows
abbrev pub Begins : ℕ → Specifiers → Meter → Meter → Type 0
Begins d ws m n = d ≤ m.peak → (n.made ≡ m.made + suc (length (nodes_specifiers ws))) × (n.peak ≡ max m.peak (d + max 1 (depth_specifiers ws)))

-- a struct or an enum alone counts no name
pub tag-alone : (d : ℕ) (ws : Specifiers) (m n : Meter) → has_tag ws ≡ true → Specifies d ws m n → d ≤ m.peak → (n.made ≡ m.made + length (nodes_specifiers ws)) × (n.peak ≡ max m.peak (d + depth_specifiers ws))
tag-alone d ws m n tag h before = let a = h before in let none : first_count ws ≡ 0 = first_counted ws true tag a.2 in (omega arith, omega arith)

-- the name is counted before its declarator, or was counted with the first word of its type
pub name-first : {A : Type 0} {Q : A → Tokens → Meter → Type 0} {us : Tokens} {f : Reads A} (d : ℕ) (ws : Specifiers) (m n : Meter) → Specifies d ws m n → ((z : Meter) → Begins d ws m z → Counts f Q us z) →
    Counts (naming (has_tag ws) d f) Q us n
name-first d ws m n h g = go_if {b = has_tag ws}
    (λ yes. pay (g _ (λ before. let a = h before in let none : first_count ws ≡ 0 = first_counted ws true yes a.2 in (omega arith, omega arith))))
    (λ no. g _ (λ before. let a = h before in let one : first_count ws ≡ 1 = first_counted ws false no a.2 in (omega arith, omega arith)))

declared-first : (t : NameEnvironment) (d : ℕ) (c : Storage) (ws : Specifiers) (e : Kind) (ts us : Tokens) (m n : Meter) → Specifies d ws m n →
    Counts (cond (begins_declarator e) (naming (has_tag ws) d (body.call (a_named t d) (λ x. body.call (more_named t d) (λ xs. done (record { storage = c; specs = ws; names = x ∷ xs }))))) body.stop) (Costs (a_declared t d c) ts m) us n
declared-first t d s ws e ts us m n h = go_if {b = begins_declarator e}
    (λ yes. name-first d ws m n h (λ y i. go_call (λ x vs o p. go_call (λ xs bs z r. go_done (λ before. let a = i before in let b = p (omega arith) in let c = r (omega arith) in (omega (arith, names_size x xs, declaration_size (record { storage = s; specs = ws; names = x ∷ xs })), omega arith))))))
    (λ no. go_stop)

declared-names-by : (t : NameEnvironment) (d : ℕ) (c : Storage) (ws : Specifiers) (e : Kind) (ts us : Tokens) (m n : Meter) → Specifies d ws m n → Counts (declared_names_by t d c ws e) (Costs (a_declared t d c) ts m) us n
declared-names-by t d c ws k.Semicolon ts us m n h = go_if {b = has_tag ws} (λ yes. skips (λ _ vs. go_done (λ before. let a = tag-alone d ws m n yes h before in (omega (arith, length-append {A = Node}), omega arith)))) (λ no. go_stop)
declared-names-by t d c ws e ts us m n h = declared-first t d c ws e ts us m n h

-- a declaration behind its storage
pub declared-cost : (t : NameEnvironment) (d : ℕ) (c : Storage) → Cost (a_declared t d c)
declared-cost t d c ts m = go_call (λ ws us n p. go_look (λ e is. declared-names-by t d c ws e ts us m n p))

-- what is counted behind the declarator c of a name at depth d
abbrev pub Named : ℕ → Meter → NamedTree → Meter → Type 0
Named d m x n = d ≤ m.peak → (suc n.made ≡ m.made + length (nodes_named x)) × (suc n.peak ≡ max (suc m.peak) (d + depth_named x))

-- behind the declarator of a name at depth d
pub named-init-by : (t : NameEnvironment) (d : ℕ) (may : Bool) (c : DeclaratorTree) (e : Kind) (us : Tokens) (m n : Meter) (Q : NamedTree → Tokens → Meter → Type 0) →
    (d ≤ m.peak → (n.made ≡ m.made + length (nodes_declarator c)) × (n.peak ≡ max m.peak (d + depth_declarator c))) → ((x : NamedTree) (vs : Tokens) (z : Meter) → Named d m x z → Q x vs z) →
    Counts (named_init_by t d may c e) Q us n
named-init-by t d may c k.Assign us m n Q h g = go_if {b = may}
    (λ yes. pay (skips (λ _ vs. go_call (λ i ws z p. go_done (g _ _ _ (λ before. let a = h before in let deep = initializer_deep i in (omega (arith, length-append {A = Node}), omega arith)))))))
    (λ no. go_stop)
named-init-by t d may c _ us m n Q h g = go_done (g _ _ _ (λ before. let a = h before in (omega (arith, length-append {A = Node}), omega arith)))

-- a declared name
pub named-cost : (t : NameEnvironment) (d : ℕ) → Cost (a_named t d)
named-cost t d ts m = go_call (λ c us n p. go_look (λ e is. named-init-by t (d + 1) (has_initializer c) c e us m n _ p (λ x vs z h before. let a = h (omega arith) in (a.0, omega arith))))

more-named-by : (t : NameEnvironment) (d : ℕ) (e : Kind) (ts : Tokens) (m : Meter) → Counts (more_named_by t d e) (Costs (more_named t d) ts m) ts m
more-named-by t d k.Semicolon ts m = skips (λ _ us. go_done (λ before. (omega arith, omega arith)))
more-named-by t d k.Comma ts m = pay (skips (λ _ us. go_call (λ x vs n p. go_call (λ xs ws o h. go_done (λ before. let a = p (omega arith) in let b = h (omega arith) in (omega (arith, names_size x xs), omega arith))))))
more-named-by t d _ ts m = go_stop

-- more names
pub more-named-cost : (t : NameEnvironment) (d : ℕ) → Cost (more_named t d)
more-named-cost t d ts m = go_look (λ e is. more-named-by t d e ts m)
