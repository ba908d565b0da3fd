-- The bodies of the rules of declarators, parameters and initialisers are fine.
use Rattle.std.proofs.Common.{ℕ, Bool, true, false, [], refl}
use Rattle.c_tree.specs.Tree.{Name, Quals, Stars, Sizes, DeclaratorTree, Parameters, BareTree, Specifiers, Initializer, Initializers}
use Rattle.c_grammar.specs.declared.kind.Kind.{Kind}
use Rattle.c_grammar.specs.declared.kind.Kind.TheVariants as k
use Rattle.c_grammar.specs.Rules.{NameEnvironment, Parameter, stars_by, quals_by, declared_by, pointed, declarator_by, size_by, sizes_by, one_size_by, at_most_one_by, parameters_by, more_parameters_by, parameter_name_by, parameter_pointer_by, parameter_by, bare_by, initializer_by, initializers_by, next_initializer_by, more_initializers_by, all_stars, all_quals, a_declarator, all_sizes, at_most_one_size, all_parameters, some_parameters, more_parameters, a_parameter, a_bare, an_initializer, all_initializers, more_initializers, inside}
use Rattle.c_grammar.proofs.Performs.Steps.{Fine, IsFine, fine_done, fine_stop, fine_look, fine_spend, fine_rise, fine_call, fine_scope, fine_if, fine_take, fine_expect, fine_name}

by_stars : (e : Kind) → Fine Stars false 1 true (stars_by e)
by_stars k.Star = fine_take (λ n. fine_call refl (λ qs. fine_call refl (λ ss. fine_done)))
by_stars _ = fine_done

by_quals : (e : Kind) → Fine Quals false 1 true (quals_by e)
by_quals k.Const = fine_take (λ n. fine_call refl (λ qs. fine_done))
by_quals k.Volatile = fine_take (λ n. fine_call refl (λ qs. fine_done))
by_quals _ = fine_done

pub by_declared : {limit : ℕ} (t : NameEnvironment) (d : ℕ) (f : Bool) (ss : Stars) (n : Name) (e : Kind) → Fine DeclaratorTree true limit true (declared_by t d f ss n e)
by_declared t d f ss n k.OpenBracket = fine_call refl (λ xs. fine_done)
by_declared t d f ss n k.OpenParen = fine_if f (fine_take (λ m. fine_call refl (λ ps. fine_done))) fine_done
by_declared t d f ss n _ = fine_done

by_pointed : {limit : ℕ} (t : NameEnvironment) (d : ℕ) (ss : Stars) (qs : Quals) (n : Name) → Fine DeclaratorTree true limit false (pointed t d ss qs n)
by_pointed t d ss qs n = fine_call refl (λ xs. fine_expect k.CloseParen tt (fine_expect k.OpenParen tt (fine_call refl (λ ps. fine_done))))

pub by_declarator : {free : Bool} {limit : ℕ} (t : NameEnvironment) (d : ℕ) (f y : Bool) (ss : Stars) (e : Kind) → Fine DeclaratorTree free limit true (declarator_by t d f y ss e)
by_declarator t d f y ss k.Name = fine_take (λ n. fine_look fine_done (by_declared (inside y n t) d f ss n))
by_declarator t d f y ss k.OpenParen = fine_take (λ m. fine_expect k.Star tt (fine_call refl (λ qs. fine_name [] (λ n. by_pointed (inside y n t) d ss qs n))))
by_declarator t d f y ss _ = fine_stop

by_size : (t : NameEnvironment) (d : ℕ) (e : Kind) → Fine Sizes true 1 true (size_by t d e)
by_size t d k.CloseBracket = fine_take (λ n. fine_call refl (λ xs. fine_done))
by_size t d _ = fine_call refl (λ x. fine_expect k.CloseBracket tt (fine_call refl (λ xs. fine_done)))

by_sizes : (t : NameEnvironment) (d : ℕ) (e : Kind) → Fine Sizes false 1 true (sizes_by t d e)
by_sizes t d k.OpenBracket = fine_take (λ n. fine_look (fine_call refl (λ x. fine_expect k.CloseBracket tt (fine_call refl (λ xs. fine_done)))) (by_size t d))
by_sizes t d _ = fine_done

by_one_size : (t : NameEnvironment) (d : ℕ) (e : Kind) → Fine Sizes true 1 true (one_size_by t d e)
by_one_size t d k.CloseBracket = fine_take (λ n. fine_done)
by_one_size t d _ = fine_call refl (λ x. fine_expect k.CloseBracket tt fine_done)

by_at_most_one : (t : NameEnvironment) (d : ℕ) (e : Kind) → Fine Sizes false 1 true (at_most_one_by t d e)
by_at_most_one t d k.OpenBracket = fine_take (λ n. fine_look (fine_call refl (λ x. fine_expect k.CloseBracket tt fine_done)) (by_one_size t d))
by_at_most_one t d _ = fine_done

by_parameters : (t : NameEnvironment) (d : ℕ) (e : Kind) → Fine (Parameters × Bool) false 5 true (parameters_by t d e)
by_parameters t d k.CloseParen = fine_take (λ n. fine_done)
by_parameters t d _ = fine_call refl (λ ps. fine_done)

by_more_parameters : (t : NameEnvironment) (d : ℕ) (e : Kind) → Fine Parameters false 1 true (more_parameters_by t d e)
by_more_parameters t d k.CloseParen = fine_take (λ n. fine_done)
by_more_parameters t d k.Comma = fine_take (λ n. fine_call refl (λ ps. fine_done))
by_more_parameters t d _ = fine_stop

by_parameter_name : (t : NameEnvironment) (d : ℕ) (ws : Specifiers) (ss : Stars) (n : Name) (e : Kind) → Fine Parameter true 3 true (parameter_name_by t d ws ss n e)
by_parameter_name t d ws ss n k.OpenBracket = fine_call refl (λ xs. fine_done)
by_parameter_name t d ws ss n _ = fine_done

by_parameter_pointer : (t : NameEnvironment) (d : ℕ) (ws : Specifiers) (ss : Stars) (qs : Quals) (e : Kind) → Fine Parameter true 3 true (parameter_pointer_by t d ws ss qs e)
by_parameter_pointer t d ws ss qs k.Name = fine_rise (fine_spend (fine_take (λ n. fine_call refl (λ xs. fine_expect k.CloseParen tt (fine_expect k.OpenParen tt (fine_call refl (λ ps. fine_done)))))))
by_parameter_pointer t d ws ss qs k.CloseParen = fine_take (λ n. fine_expect k.OpenParen tt (fine_call refl (λ ps. fine_done)))
by_parameter_pointer t d ws ss qs _ = fine_stop

by_parameter : (t : NameEnvironment) (d : ℕ) (ws : Specifiers) (ss : Stars) (e : Kind) → Fine Parameter false 3 true (parameter_by t d ws ss e)
by_parameter t d ws ss k.Name = fine_rise (fine_spend (fine_take (λ n. fine_look fine_done (by_parameter_name t d ws ss n))))
by_parameter t d ws ss k.OpenParen = fine_take (λ n. fine_expect k.Star tt (fine_call refl (λ qs. fine_look fine_stop (by_parameter_pointer t d ws ss qs))))
by_parameter t d ws ss _ = fine_done

by_bare : (t : NameEnvironment) (d : ℕ) (ss : Stars) (e : Kind) → Fine BareTree false 2 true (bare_by t d ss e)
by_bare t d ss k.OpenParen =
    fine_take (λ n. fine_expect k.Star tt (fine_call refl (λ qs. fine_expect k.CloseParen tt (fine_expect k.OpenParen tt (fine_call refl (λ ps. fine_done))))))
by_bare t d ss _ = fine_done

by_initializer : (t : NameEnvironment) (d owed : ℕ) (e : Kind) → Fine Initializer false 4 true (initializer_by t d owed e)
by_initializer t d owed k.OpenBrace = fine_spend (fine_take (λ n. fine_call refl (λ ps. fine_done)))
by_initializer t d owed _ = fine_call refl (λ x. fine_done)

by_initializers : (t : NameEnvironment) (d owed : ℕ) (e : Kind) → Fine (Initializers × Bool) false 5 true (initializers_by t d owed e)
by_initializers t d owed k.Dot = fine_spend (fine_take (λ m. fine_name [] (λ n. fine_expect k.Assign tt (fine_call refl (λ i. fine_call refl (λ ps. fine_done))))))
by_initializers t d owed _ = fine_call refl (λ i. fine_call refl (λ ps. fine_done))

by_next_initializer : (t : NameEnvironment) (d : ℕ) (e : Kind) → Fine (Initializers × Bool) true 1 true (next_initializer_by t d e)
by_next_initializer t d k.CloseBrace = fine_take (λ n. fine_done)
by_next_initializer t d _ = fine_call refl (λ ps. fine_done)

by_more_initializers : (t : NameEnvironment) (d : ℕ) (e : Kind) → Fine (Initializers × Bool) false 1 true (more_initializers_by t d e)
by_more_initializers t d k.CloseBrace = fine_take (λ n. fine_done)
by_more_initializers t d k.Comma = fine_take (λ n. fine_look (fine_call refl (λ ps. fine_done)) (by_next_initializer t d))
by_more_initializers t d _ = fine_stop

pub stars_fine : IsFine all_stars
stars_fine = fine_look fine_done by_stars

pub quals_fine : IsFine all_quals
quals_fine = fine_look fine_done by_quals

pub declarator_fine : (t : NameEnvironment) (d : ℕ) (f y : Bool) → IsFine (a_declarator t d f y)
declarator_fine t d f y = fine_call refl (λ ss. fine_look fine_stop (by_declarator t d f y ss))

pub sizes_fine : (t : NameEnvironment) (d : ℕ) → IsFine (all_sizes t d)
sizes_fine t d = fine_look fine_done (by_sizes t d)

pub at_most_one_size_fine : (t : NameEnvironment) (d : ℕ) → IsFine (at_most_one_size t d)
at_most_one_size_fine t d = fine_look fine_done (by_at_most_one t d)

pub parameters_fine : (t : NameEnvironment) (d : ℕ) → IsFine (all_parameters t d)
parameters_fine t d = fine_look (fine_call refl (λ ps. fine_done)) (by_parameters t d)

pub some_parameters_fine : (t : NameEnvironment) (d : ℕ) → IsFine (some_parameters t d)
some_parameters_fine t d = fine_scope refl (λ p. fine_call refl (λ ps. fine_done))

pub more_parameters_fine : (t : NameEnvironment) (d : ℕ) → IsFine (more_parameters t d)
more_parameters_fine t d = fine_look fine_stop (by_more_parameters t d)

pub parameter_fine : (t : NameEnvironment) (d : ℕ) → IsFine (a_parameter t d)
parameter_fine t d = fine_call refl (λ ws. fine_call refl (λ ss. fine_look fine_done (by_parameter t d ws ss)))

pub bare_fine : (t : NameEnvironment) (d : ℕ) → IsFine (a_bare t d)
bare_fine t d = fine_call refl (λ ss. fine_look fine_done (by_bare t d ss))

pub initializer_fine : (t : NameEnvironment) (d owed : ℕ) → IsFine (an_initializer t d owed)
initializer_fine t d owed = fine_look (fine_call refl (λ x. fine_done)) (by_initializer t d owed)

pub initializers_fine : (t : NameEnvironment) (d owed : ℕ) → IsFine (all_initializers t d owed)
initializers_fine t d owed = fine_look (fine_call refl (λ i. fine_call refl (λ ps. fine_done))) (by_initializers t d owed)

pub more_initializers_fine : (t : NameEnvironment) (d : ℕ) → IsFine (more_initializers t d)
more_initializers_fine t d = fine_look fine_stop (by_more_initializers t d)
