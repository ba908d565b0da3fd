-- What the rules of declarators and parameters count.
use Rattle.std.proofs.Common.{◌≡◌, ℕ, suc, sym, subst, ◌+◌, ◌≤◌, max, [], length, refl, ap, arith, length-append, Bool, false, cond}
use Rattle.c_tree.specs.Tree.{Name, Quals, Stars, Sizes, no_sizes, size, DeclaratorTree, array, Specifiers, no_specifiers, specifiers, void_word, Parameters, no_parameters, parameters, bare_form, bare_stars}
use Rattle.c_tree.specs.Nodes.{Node, nodes_declarator, nodes_parameters, nodes_specifiers}
use Rattle.c_tree.specs.Depth.{depth_declarator, depth_parameters, depth_specifiers}
use Rattle.c_tree.specs.Marks.{Tokens}
use Rattle.c_grammar.specs.declared.kind.Kind.{Kind}
use Rattle.c_grammar.specs.declared.kind.Kind.TheVariants as k
use Rattle.c_grammar.specs.Kind.{same_kind}
use Rattle.c_grammar.specs.Body.{done}
use Rattle.c_grammar.specs.Body as body
use Rattle.c_grammar.specs.Gauge.{Meter}
use Rattle.c_grammar.specs.Rules.{NameEnvironment, inside, is_function, named_by, stars_by, quals_by, declared_by, pointed, declarator_by, size_by, sizes_by, one_size_by, at_most_one_by, listed_parameters, parameters_by, more_parameters_by, parameter_name_by, parameter_pointer_by, parameter_by, bare_by, an_expression, all_stars, all_quals, a_declarator, all_sizes, at_most_one_size, all_parameters, some_parameters, more_parameters, a_parameter, a_bare}
use Rattle.c_grammar.proofs.Conditions.{go_done, go_stop, go_look, go_call, go_scope, go_if}
use Rattle.c_grammar.proofs.Costs.Counting.{Costs}
use Rattle.c_grammar.proofs.Costs.Steps.{Counts, Cost, pay, lift, skips, wants, names}

-- ---- declarators

stars-by : (e : Kind) (ts : Tokens) (m : Meter) → Counts (stars_by e) (Costs all_stars ts m) ts m
stars-by k.Star ts m = skips (λ _ us. go_call (λ qs vs n p. go_call (λ ss ws o r. go_done (cc))))
stars-by _ ts m = go_done refl

-- no nodes for stars
pub stars-cost : Cost all_stars
stars-cost ts m = go_look (λ e is. stars-by e ts m)

quals-by : (e : Kind) (ts : Tokens) (m : Meter) → Counts (quals_by e) (Costs all_quals ts m) ts m
quals-by k.Const ts m = skips (λ _ us. go_call (λ qs vs n p. go_done p))
quals-by k.Volatile ts m = skips (λ _ us. go_call (λ qs vs n p. go_done p))
quals-by _ ts m = go_done refl

-- no nodes for qualifiers
pub quals-cost : Cost all_quals
quals-cost ts m = go_look (λ e is. quals-by e ts m)

size-first : (t : NameEnvironment) (d : ℕ) (ts us : Tokens) (m : Meter) →
    Counts (body.call (an_expression t d 3 1) (λ x. body.look [] (λ j. cond (same_kind j k.CloseBracket) (body.take (λ n. body.call (all_sizes t d) (λ xs. done (size x xs)))) body.stop))) (Costs (all_sizes t d) ts m) us m
size-first t d ts us m = go_call (λ x vs n p. wants k.CloseBracket (λ ws. go_call (λ xs ys o h. go_done (λ before. let a = h (omega arith) in (omega (arith, length-append {A = Node}), omega arith)))))

size-by : (t : NameEnvironment) (d : ℕ) (e : Kind) (ts us : Tokens) (m : Meter) → Counts (size_by t d e) (Costs (all_sizes t d) ts m) us m
size-by t d k.CloseBracket ts us m = skips (λ _ vs. go_call (λ xs ws n h. go_done h))
size-by t d _ ts us m = size-first t d ts us m

sizes-by : (t : NameEnvironment) (d : ℕ) (e : Kind) (ts : Tokens) (m : Meter) → Counts (sizes_by t d e) (Costs (all_sizes t d) ts m) ts m
sizes-by t d k.OpenBracket ts m = skips (λ _ us. go_look (λ e is. size-by t d e ts us m))
sizes-by t d _ ts m = go_done (λ before. (omega arith, omega arith))

-- the sizes of an array
pub sizes-cost : (t : NameEnvironment) (d : ℕ) → Cost (all_sizes t d)
sizes-cost t d ts m = go_look (λ e is. sizes-by t d e ts m)

one-size-first : (t : NameEnvironment) (d : ℕ) (ts us : Tokens) (m : Meter) →
    Counts (body.call (an_expression t d 3 1) (λ x. body.look [] (λ j. cond (same_kind j k.CloseBracket) (body.take (λ n. done (size x no_sizes))) body.stop))) (Costs (at_most_one_size t d) ts m) us m
one-size-first t d ts us m = go_call (λ x vs n p. wants k.CloseBracket (λ ws. go_done (λ before. (omega (arith, length-append {A = Node}), omega arith))))

one-size-by : (t : NameEnvironment) (d : ℕ) (e : Kind) (ts us : Tokens) (m : Meter) → Counts (one_size_by t d e) (Costs (at_most_one_size t d) ts m) us m
one-size-by t d k.CloseBracket ts us m = skips (λ _ vs. go_done (λ before. (omega arith, omega arith)))
one-size-by t d _ ts us m = one-size-first t d ts us m

at-most-one-by : (t : NameEnvironment) (d : ℕ) (e : Kind) (ts : Tokens) (m : Meter) → Counts (at_most_one_by t d e) (Costs (at_most_one_size t d) ts m) ts m
at-most-one-by t d k.OpenBracket ts m = skips (λ _ us. go_look (λ e is. one-size-by t d e ts us m))
at-most-one-by t d _ ts m = go_done (λ before. (omega arith, omega arith))

-- one size or none
pub at-most-one-cost : (t : NameEnvironment) (d : ℕ) → Cost (at_most_one_size t d)
at-most-one-cost t d ts m = go_look (λ e is. at-most-one-by t d e ts m)

-- what is counted with a declarator
abbrev pub Declares : ℕ → Meter → DeclaratorTree → Meter → Type 0
Declares d m c n = d ≤ m.peak → (n.made ≡ m.made + length (nodes_declarator c)) × (n.peak ≡ max m.peak (d + depth_declarator c))

-- the sizes of an array behind its name
pub array-by : (t : NameEnvironment) (d : ℕ) (ss : Stars) (n : Name) (us : Tokens) (m : Meter) (Q : DeclaratorTree → Tokens → Meter → Type 0) →
    ((xs : Sizes) (vs : Tokens) (z : Meter) → Declares d m (array ss n xs) z → Q (array ss n xs) vs z) → Counts (body.call (all_sizes t d) (λ xs. done (array ss n xs))) Q us m
array-by t d ss n us m Q g = go_call (λ xs vs o h. go_done (g xs vs o h))

declared-by : (t u : NameEnvironment) (d : ℕ) (f y : Bool) (ss : Stars) (n : Name) (e : Kind) (ts us : Tokens) (m : Meter) → Counts (declared_by u d f ss n e) (Costs (a_declarator t d f y) ts m) us m
declared-by t u d f y ss n k.OpenBracket ts us m = array-by u d ss n us m _ (λ xs vs o h. h)
declared-by t u d f y ss n k.OpenParen ts us m = go_if {b = f} (λ yes. skips (λ _ vs. go_call (λ ps ws o h. go_done h))) (λ no. go_done (λ before. (omega arith, omega arith)))
declared-by t u d f y ss n _ ts us m = go_done (λ before. (omega arith, omega arith))

pointed-by : (t : NameEnvironment) (d : ℕ) (ss : Stars) (qs : Quals) (n : Name) (us : Tokens) (m : Meter) (Q : DeclaratorTree → Tokens → Meter → Type 0) →
    ((c : DeclaratorTree) (vs : Tokens) (z : Meter) → is_function c ≡ false → Declares d m c z → Q c vs z) → Counts (pointed t d ss qs n) Q us m
pointed-by t d ss qs n us m Q g = go_call (λ xs vs o p. wants k.CloseParen (λ ws. wants k.OpenParen (λ es. go_call (λ ps bs z h. go_done (g _ _ _ refl (λ before.
    let a = p before in let b = h (omega arith) in (omega (arith, length-append {A = Node}), omega arith)))))))

-- behind the star and the qualifiers of a pointer to a function
pointer-name : (t : NameEnvironment) (d : ℕ) (y : Bool) (ss : Stars) (qs : Quals) (e : Kind) (us : Tokens) (m n : Meter) (Q : DeclaratorTree → Tokens → Meter → Type 0) → n ≡ m →
    ((c : DeclaratorTree) (vs : Tokens) (z : Meter) → is_function c ≡ false → Declares d m c z → Q c vs z) → Counts (named_by [] (λ a. pointed (inside y a t) d ss qs a) e) Q us n
pointer-name t d y ss qs e us m n Q is g =
    subst (λ z. Counts (named_by [] (λ a. pointed (inside y a t) d ss qs a) e) Q us z) (sym is) (names [] e (λ a vs. pointed-by (inside y a t) d ss qs a vs m Q g))

-- a pointer to a function
pub pointer-by : (t : NameEnvironment) (d : ℕ) (f y : Bool) (ss : Stars) (us : Tokens) (m : Meter) (Q : DeclaratorTree → Tokens → Meter → Type 0) →
    ((c : DeclaratorTree) (vs : Tokens) (z : Meter) → is_function c ≡ false → Declares d m c z → Q c vs z) → Counts (declarator_by t d f y ss k.OpenParen) Q us m
pointer-by t d f y ss us m Q g = skips (λ _ vs. wants k.Star (λ ws. go_call (λ qs es n p. go_look (λ e is. pointer-name t d y ss qs e es m n Q p g))))

declarator-by : (t : NameEnvironment) (d : ℕ) (f y : Bool) (ss : Stars) (e : Kind) (ts us : Tokens) (m : Meter) → Counts (declarator_by t d f y ss e) (Costs (a_declarator t d f y) ts m) us m
declarator-by t d f y ss k.Name ts us m = skips (λ n vs. go_look (λ e is. declared-by t (inside y n t) d f y ss n e ts vs m))
declarator-by t d f y ss k.OpenParen ts us m = pointer-by t d f y ss us m _ (λ c vs z no h. h)
declarator-by t d f y ss _ ts us m = go_stop

-- a declarator
pub declarator-cost : (t : NameEnvironment) (d : ℕ) (f y : Bool) → Cost (a_declarator t d f y)
declarator-cost t d f y ts m = go_call (λ ss us n p. go_look (λ e is. subst (λ z. Counts (declarator_by t d f y ss e) (Costs (a_declarator t d f y) ts m) us z) (sym p) (declarator-by t d f y ss e ts us m)))

-- ---- parameters

-- the one word void has no nodes
listed_same : (ps : Parameters) → (length (nodes_parameters (listed_parameters ps).0) ≡ length (nodes_parameters ps)) × (depth_parameters (listed_parameters ps).0 ≡ depth_parameters ps)
listed_same (parameters (specifiers void_word no_specifiers) (bare_form (bare_stars [])) no_parameters) = (refl, refl)
listed_same _ = (refl, refl)

first-parameter : (t : NameEnvironment) (d : ℕ) (ts : Tokens) (m : Meter) → Counts (body.call (some_parameters t d) (λ ps. done (listed_parameters ps))) (Costs (all_parameters t d) ts m) ts m
first-parameter t d ts m = go_call (λ ps us n p. go_done (λ before. let a = p before in let same = listed_same ps in (cc, cc)))

parameters-by : (t : NameEnvironment) (d : ℕ) (e : Kind) (ts : Tokens) (m : Meter) → Counts (parameters_by t d e) (Costs (all_parameters t d) ts m) ts m
parameters-by t d k.CloseParen ts m = skips (λ _ us. go_done (λ before. (omega arith, omega arith)))
parameters-by t d _ ts m = first-parameter t d ts m

-- the parameters of a function
pub parameters-cost : (t : NameEnvironment) (d : ℕ) → Cost (all_parameters t d)
parameters-cost t d ts m = go_look (λ e is. parameters-by t d e ts m)

-- parameters, one at least
pub some-parameters-cost : (t : NameEnvironment) (d : ℕ) → Cost (some_parameters t d)
some-parameters-cost t d ts m = go_scope (λ p us n h. go_call (λ ps vs o r. go_done (λ before. let a = h refl in let b = r (omega arith) in (omega (arith, length-append {A = Node}), omega arith))))

more-parameters-by : (t : NameEnvironment) (d : ℕ) (e : Kind) (ts : Tokens) (m : Meter) → Counts (more_parameters_by t d e) (Costs (more_parameters t d) ts m) ts m
more-parameters-by t d k.CloseParen ts m = skips (λ _ us. go_done (λ before. (omega arith, omega arith)))
more-parameters-by t d k.Comma ts m = skips (λ _ us. go_call (λ ps vs n h. go_done h))
more-parameters-by t d _ ts m = go_stop

-- more parameters
pub more-parameters-cost : (t : NameEnvironment) (d : ℕ) → Cost (more_parameters t d)
more-parameters-cost t d ts m = go_look (λ e is. more-parameters-by t d e ts m)

-- behind the specifiers of a parameter, where they are counted
abbrev Specified : ℕ → Specifiers → Meter → Meter → Type 0
Specified d ws m n = m.peak ≡ d → (n.made ≡ m.made + length (nodes_specifiers ws)) × (n.peak ≡ max m.peak (d + depth_specifiers ws))

parameter-name-by : (t : NameEnvironment) (d : ℕ) (ws : Specifiers) (ss : Stars) (a : Name) (e : Kind) (ts us : Tokens) (m n : Meter) →
    (m.peak ≡ d → (n.made ≡ m.made + suc (length (nodes_specifiers ws))) × (n.peak ≡ d + suc (depth_specifiers ws))) → Counts (parameter_name_by t d ws ss a e) (Costs (a_parameter t d) ts m) us n
parameter-name-by t d ws ss a k.OpenBracket ts us m n h = go_call (λ xs vs o p. go_done (λ before. let b = h before in let c = p (omega arith) in (omega (arith, length-append {A = Node}), omega arith)))
parameter-name-by t d ws ss a _ ts us m n h = go_done (λ before. let b = h before in (omega (arith, length-append {A = Node}), omega arith))

parameter-pointer-by : (t : NameEnvironment) (d : ℕ) (ws : Specifiers) (ss : Stars) (qs : Quals) (e : Kind) (ts us : Tokens) (m n : Meter) → Specified d ws m n → Counts (parameter_pointer_by t d ws ss qs e) (Costs (a_parameter t d) ts m) us n
parameter-pointer-by t d ws ss qs k.Name ts us m n h = lift (pay (skips (λ a vs. go_call (λ xs es o p. wants k.CloseParen (λ bs. wants k.OpenParen (λ cs. go_call (λ ps ds z r. go_done (λ before.
    let a = h before in let b = p (omega arith) in let c = r (omega arith) in (omega (arith, length-append {A = Node}), omega arith)))))))))
parameter-pointer-by t d ws ss qs k.CloseParen ts us m n h = skips (λ _ vs. wants k.OpenParen (λ es. go_call (λ ps bs o p. go_done (λ before.
    let a = h before in let b = p (omega arith) in (omega (arith, length-append {A = Node}), omega arith)))))
parameter-pointer-by t d ws ss qs _ ts us m n h = go_stop

parameter-by : (t : NameEnvironment) (d : ℕ) (ws : Specifiers) (ss : Stars) (e : Kind) (ts us : Tokens) (m n : Meter) → Specified d ws m n → Counts (parameter_by t d ws ss e) (Costs (a_parameter t d) ts m) us n
parameter-by t d ws ss k.Name ts us m n h = lift (pay (skips (λ a vs. go_look (λ e is. parameter-name-by t d ws ss a e ts vs m _ (λ before. let b = h before in (omega arith, omega arith))))))
parameter-by t d ws ss k.OpenParen ts us m n h = skips (λ _ vs. wants k.Star (λ es. go_call (λ qs bs o p. go_look (λ e is. parameter-pointer-by t d ws ss qs e ts bs m o (λ before. let b = h before in (cc, cc))))))
parameter-by t d ws ss _ ts us m n h = go_done (λ before. let a = h before in (omega (arith, length-append {A = Node}), omega arith))

-- a parameter in its own scope
pub parameter-cost : (t : NameEnvironment) (d : ℕ) → Cost (a_parameter t d)
parameter-cost t d ts m = go_call (λ ws us n p. go_call (λ ss vs o r. go_look (λ e is. parameter-by t d ws ss e ts vs m o (λ before. let a = p (omega arith) in let made = ap (λ (z : Meter). z.made) r in let peak = ap (λ (z : Meter). z.peak) r in (omega arith, omega arith)))))

bare-by : (t : NameEnvironment) (d : ℕ) (ss : Stars) (e : Kind) (ts us : Tokens) (m : Meter) → Counts (bare_by t d ss e) (Costs (a_bare t d) ts m) us m
bare-by t d ss k.OpenParen ts us m = skips (λ _ vs. wants k.Star (λ ws. go_call (λ qs es n p. wants k.CloseParen (λ bs. wants k.OpenParen (λ cs. go_call (λ ps ds o h. go_done (λ before.
    let same = ap (λ (z : Meter). z.peak) p in let alike = ap (λ (z : Meter). z.made) p in let a = h (omega arith) in (omega arith, omega arith))))))))
bare-by t d ss _ ts us m = go_done (λ before. (omega arith, omega arith))

-- a declarator without a name
pub bare-cost : (t : NameEnvironment) (d : ℕ) → Cost (a_bare t d)
bare-cost t d ts m = go_call (λ ss us n p. go_look (λ e is. subst (λ z. Counts (bare_by t d ss e) (Costs (a_bare t d) ts m) us z) (sym p) (bare-by t d ss e ts us m)))
