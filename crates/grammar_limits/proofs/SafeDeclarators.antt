-- The rules of declarators and parameters keep to what is due.
use Rattle.std.proofs.Common.{ℕ, ◌+◌, ◌≤◌, Bool, arith}
use Rattle.c_tree.specs.Tree.{Name, Stars, Quals, Specifiers}
use Rattle.c_grammar.specs.declared.kind.Kind.{Kind}
use Rattle.c_grammar.specs.declared.kind.Kind.TheVariants as k
use Rattle.c_grammar.specs.Rules.{NameEnvironment, inside, stars_by, quals_by, declared_by, declarator_by, size_by, sizes_by, one_size_by, at_most_one_by, parameters_by, more_parameters_by, parameter_name_by, parameter_pointer_by, parameter_by, bare_by, all_stars, all_quals, a_declarator, all_sizes, at_most_one_size, all_parameters, some_parameters, more_parameters, a_parameter, a_bare}
use Rattle.grammar_limits.proofs.Dues.{Safe, Due, safe_done, safe_stop, safe_look, safe_take, safe_spend, safe_rise, safe_call, safe_scope, safe_if, safe_expect, safe_name}

stars-by : (e : Kind) → Safe (stars_by e) 10 0 20 10 0
stars-by k.Star = safe_take (λ _. safe_call (omega arith) (omega arith) (omega arith) (omega arith) (λ _. safe_call (omega arith) (omega arith) (omega arith) (omega arith) (λ _. safe_done (omega arith) (omega arith))))
stars-by _ = safe_done (omega arith) (omega arith)

pub stars-due : Due all_stars
stars-due low = safe_look (λ e. stars-by e)

quals-by : (e : Kind) → Safe (quals_by e) 10 0 20 10 0
quals-by k.Const = safe_take (λ _. safe_call (omega arith) (omega arith) (omega arith) (omega arith) (λ _. safe_done (omega arith) (omega arith)))
quals-by k.Volatile = safe_take (λ _. safe_call (omega arith) (omega arith) (omega arith) (omega arith) (λ _. safe_done (omega arith) (omega arith)))
quals-by _ = safe_done (omega arith) (omega arith)

pub quals-due : Due all_quals
quals-due low = safe_look (λ e. quals-by e)

-- behind the stars and the name of a declarator, where the deepest node may be left so much too deep
pub declared-by : (t : NameEnvironment) (d over u s : ℕ) (f : Bool) (ss : Stars) (n : Name) (e : Kind) → d + 20 ≤ u → s ≤ over → Safe (declared_by t d f ss n e) 10 over u 110 s
declared-by t d over u s f ss n k.OpenBracket room less = safe_call (omega arith) (omega arith) (omega arith) (omega arith) (λ _. safe_done (omega arith) (omega arith))
declared-by t d over u s f ss n k.OpenParen room less = safe_if f (safe_take (λ _. safe_call (omega arith) (omega arith) (omega arith) (omega arith) (λ _. safe_done (omega arith) (omega arith)))) (safe_done (omega arith) (omega arith))
declared-by t d over u s f ss n _ room less = safe_done (omega arith) (omega arith)

-- a pointer to a function, where the deepest node may be so much too deep before its bracket
pub pointer-by : (t : NameEnvironment) (d over u s : ℕ) (f y : Bool) (ss : Stars) → d + 18 ≤ u → 19 ≤ u → s ≤ 1 → Safe (declarator_by t d f y ss k.OpenParen) 10 over u 10 s
pointer-by t d over u s f y ss room high less = safe_take (λ _. safe_expect k.Star (safe_call (omega arith) (omega arith) (omega arith) (omega arith) (λ _. safe_name (λ _. safe_call (omega arith) (omega arith) (omega arith) (omega arith) (λ _. safe_expect k.CloseParen (safe_expect k.OpenParen (safe_call (omega arith) (omega arith) (omega arith) (omega arith) (λ _. safe_done (omega arith) (omega arith)))))))))

declarator-by : (t : NameEnvironment) (d : ℕ) (f y : Bool) (ss : Stars) (e : Kind) → Safe (declarator_by t d f y ss e) 10 0 (d + 20) 10 0
declarator-by t d f y ss k.Name = safe_take (λ n. safe_look (λ e. declared-by (inside y n t) d _ _ _ f ss n e (omega arith) (omega arith)))
declarator-by t d f y ss k.OpenParen = pointer-by t d 0 (d + 20) 0 f y ss (omega arith) (omega arith) (omega arith)
declarator-by t d f y ss _ = safe_stop

-- a declarator
pub declarator-due : (t : NameEnvironment) (d : ℕ) (f y : Bool) → Due (a_declarator t d f y)
declarator-due t d f y low = safe_call (omega arith) (omega arith) (omega arith) (omega arith) (λ x. safe_look (λ e. declarator-by t d f y x e))

size-by : (t : NameEnvironment) (d u : ℕ) (e : Kind) → d + 20 ≤ u → Safe (size_by t d e) 10 0 u 110 0
size-by t d u k.CloseBracket room = safe_take (λ _. safe_call (omega arith) (omega arith) (omega arith) (omega arith) (λ _. safe_done (omega arith) (omega arith)))
size-by t d u _ room = safe_call (omega arith) (omega arith) (omega arith) (omega arith) (λ _. safe_expect k.CloseBracket (safe_call (omega arith) (omega arith) (omega arith) (omega arith) (λ _. safe_done (omega arith) (omega arith))))

sizes-by : (t : NameEnvironment) (d : ℕ) (e : Kind) → Safe (sizes_by t d e) 10 0 (d + 20) 10 0
sizes-by t d k.OpenBracket = safe_take (λ _. safe_look (λ e. size-by t d _ e (omega arith)))
sizes-by t d _ = safe_done (omega arith) (omega arith)

pub sizes-due : (t : NameEnvironment) (d : ℕ) → Due (all_sizes t d)
sizes-due t d low = safe_look (λ e. sizes-by t d e)

one-size-by : (t : NameEnvironment) (d u : ℕ) (e : Kind) → d + 20 ≤ u → Safe (one_size_by t d e) 10 0 u 110 0
one-size-by t d u k.CloseBracket room = safe_take (λ _. safe_done (omega arith) (omega arith))
one-size-by t d u _ room = safe_call (omega arith) (omega arith) (omega arith) (omega arith) (λ _. safe_expect k.CloseBracket (safe_done (omega arith) (omega arith)))

at-most-one-by : (t : NameEnvironment) (d : ℕ) (e : Kind) → Safe (at_most_one_by t d e) 10 0 (d + 20) 10 0
at-most-one-by t d k.OpenBracket = safe_take (λ _. safe_look (λ e. one-size-by t d _ e (omega arith)))
at-most-one-by t d _ = safe_done (omega arith) (omega arith)

pub at-most-one-due : (t : NameEnvironment) (d : ℕ) → Due (at_most_one_size t d)
at-most-one-due t d low = safe_look (λ e. at-most-one-by t d e)

parameters-by : (t : NameEnvironment) (d : ℕ) (e : Kind) → Safe (parameters_by t d e) 10 0 (d + 20) 10 0
parameters-by t d k.CloseParen = safe_take (λ _. safe_done (omega arith) (omega arith))
parameters-by t d _ = safe_call (omega arith) (omega arith) (omega arith) (omega arith) (λ _. safe_done (omega arith) (omega arith))

-- parameters
pub parameters-due : (t : NameEnvironment) (d : ℕ) → Due (all_parameters t d)
parameters-due t d low = safe_look (λ e. parameters-by t d e)

pub some-parameters-due : (t : NameEnvironment) (d : ℕ) → Due (some_parameters t d)
some-parameters-due t d low = safe_scope (omega arith) (omega arith) (omega arith) (omega arith) (omega arith) (λ _. safe_call (omega arith) (omega arith) (omega arith) (omega arith) (λ _. safe_done (omega arith) (omega arith)))

more-parameters-by : (t : NameEnvironment) (d : ℕ) (e : Kind) → Safe (more_parameters_by t d e) 10 0 (d + 20) 10 0
more-parameters-by t d k.CloseParen = safe_take (λ _. safe_done (omega arith) (omega arith))
more-parameters-by t d k.Comma = safe_take (λ _. safe_call (omega arith) (omega arith) (omega arith) (omega arith) (λ _. safe_done (omega arith) (omega arith)))
more-parameters-by t d _ = safe_stop

pub more-parameters-due : (t : NameEnvironment) (d : ℕ) → Due (more_parameters t d)
more-parameters-due t d low = safe_look (λ e. more-parameters-by t d e)

parameter-name-by : (t : NameEnvironment) (d u : ℕ) (ws : Specifiers) (ss : Stars) (n : Name) (e : Kind) → d + 21 ≤ u → Safe (parameter_name_by t d ws ss n e) 10 0 u 109 0
parameter-name-by t d u ws ss n k.OpenBracket room = safe_call (omega arith) (omega arith) (omega arith) (omega arith) (λ _. safe_done (omega arith) (omega arith))
parameter-name-by t d u ws ss n _ room = safe_done (omega arith) (omega arith)

parameter-pointer-by : (t : NameEnvironment) (d u : ℕ) (ws : Specifiers) (ss : Stars) (qs : Quals) (e : Kind) → d + 21 ≤ u → Safe (parameter_pointer_by t d ws ss qs e) 10 0 u 210 0
parameter-pointer-by t d u ws ss qs k.Name room = safe_rise (omega arith) (safe_spend (omega arith) (omega arith) (safe_take (λ _. safe_call (omega arith) (omega arith) (omega arith) (omega arith) (λ _. safe_expect k.CloseParen (safe_expect k.OpenParen (safe_call (omega arith) (omega arith) (omega arith) (omega arith) (λ _. safe_done (omega arith) (omega arith))))))))
parameter-pointer-by t d u ws ss qs k.CloseParen room = safe_take (λ _. safe_expect k.OpenParen (safe_call (omega arith) (omega arith) (omega arith) (omega arith) (λ _. safe_done (omega arith) (omega arith))))
parameter-pointer-by t d u ws ss qs _ room = safe_stop

parameter-by : (t : NameEnvironment) (d : ℕ) (ws : Specifiers) (ss : Stars) (e : Kind) → Safe (parameter_by t d ws ss e) 10 0 (d + 20) 10 0
parameter-by t d ws ss k.Name = safe_rise (omega arith) (safe_spend (omega arith) (omega arith) (safe_take (λ n. safe_look (λ e. parameter-name-by t d _ ws ss n e (omega arith)))))
parameter-by t d ws ss k.OpenParen = safe_take (λ _. safe_expect k.Star (safe_call (omega arith) (omega arith) (omega arith) (omega arith) (λ x. safe_look (λ e. parameter-pointer-by t d _ ws ss x e (omega arith)))))
parameter-by t d ws ss _ = safe_done (omega arith) (omega arith)

pub parameter-due : (t : NameEnvironment) (d : ℕ) → Due (a_parameter t d)
parameter-due t d low = safe_call (omega arith) (omega arith) (omega arith) (omega arith) (λ x. safe_call (omega arith) (omega arith) (omega arith) (omega arith) (λ y. safe_look (λ e. parameter-by t d x y e)))

bare-by : (t : NameEnvironment) (d : ℕ) (ss : Stars) (e : Kind) → Safe (bare_by t d ss e) 10 0 (d + 20) 10 0
bare-by t d ss k.OpenParen = safe_take (λ _. safe_expect k.Star (safe_call (omega arith) (omega arith) (omega arith) (omega arith) (λ _. safe_expect k.CloseParen (safe_expect k.OpenParen (safe_call (omega arith) (omega arith) (omega arith) (omega arith) (λ _. safe_done (omega arith) (omega arith)))))))
bare-by t d ss _ = safe_done (omega arith) (omega arith)

pub bare-due : (t : NameEnvironment) (d : ℕ) → Due (a_bare t d)
bare-due t d low = safe_call (omega arith) (omega arith) (omega arith) (omega arith) (λ x. safe_look (λ e. bare-by t d x e))
