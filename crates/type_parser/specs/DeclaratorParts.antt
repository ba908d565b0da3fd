-- Parts of the rules of declarators that are functions of their own.
use Rattle.std.specs.Prelude.{ℕ, Bool, true, Option, Some, None}
use Rattle.c_tree.specs.Tree.{Name, Quals, Stars, Expression, Sizes, open_size, size, DeclaratorTree, Parameters, BareTree, bare_pointer}
use Rattle.c_grammar.specs.declared.kind.Kind.{Kind}
use Rattle.c_grammar.specs.declared.kind.Kind.TheVariants as k
use Rattle.c_grammar.specs.Body as body
use Rattle.c_grammar.specs.Body.{done, look}
use Rattle.c_grammar.specs.Rules.{NameEnvironment, Reads, skip, expect, a_new_name, inside, pointed, all_quals, at_most_one_size, all_parameters, an_expression}

-- a star, and its qualifiers
abbrev pub star : Reads Quals
star = skip (body.call all_quals done)

-- a size before the others, or brackets alone
abbrev pub sized : Option Expression → Sizes → Sizes
sized None xs = open_size xs
sized (Some x) xs = size x xs

-- behind an opening bracket: a size, or none, and the closing bracket
abbrev pub bracketed_by : NameEnvironment → ℕ → Kind → Reads (Option Expression)
bracketed_by t d k.CloseBracket = skip (done None)
bracketed_by t d _ = body.call (an_expression t d 3 1) (λ x. expect k.CloseBracket (done (Some x)))

-- a size in its brackets, or the brackets alone
abbrev pub bracketed : NameEnvironment → ℕ → Reads (Option Expression)
bracketed t d = skip (look t.types (bracketed_by t d))

-- behind the name of a pointer to a function: the size, where it is an array of them, and the parameters
abbrev pub behind_pointer : NameEnvironment → ℕ → Reads (Sizes × (Parameters × Bool))
behind_pointer t d = body.call (at_most_one_size t d) (λ xs. expect k.CloseParen (expect k.OpenParen (body.call (all_parameters t d) (λ ps. done (xs, ps)))))

-- behind the bracket of a pointer to a function
abbrev pub pointer_from : NameEnvironment → ℕ → Stars → Reads DeclaratorTree
pointer_from t d ss = expect k.Star (body.call all_quals (λ qs. a_new_name t (pointed t d ss qs)))

-- the same in the declarator of a type
abbrev pub type_pointed : NameEnvironment → ℕ → Stars → Quals → Name → Reads DeclaratorTree
type_pointed t d ss qs n = pointed (inside true n t) d ss qs n

abbrev pub type_pointer_from : NameEnvironment → ℕ → Stars → Reads DeclaratorTree
type_pointer_from t d ss = expect k.Star (body.call all_quals (λ qs. a_new_name t (type_pointed t d ss qs)))

-- the same without a name: its qualifiers and its parameters
abbrev pub behind_bare : NameEnvironment → ℕ → Reads (Quals × (Parameters × Bool))
behind_bare t d = expect k.Star (body.call all_quals (λ qs. expect k.CloseParen (expect k.OpenParen (body.call (all_parameters t d) (λ ps. done (qs, ps))))))

abbrev pub bare_pointer_from : NameEnvironment → ℕ → Stars → Reads BareTree
bare_pointer_from t d ss =
    expect k.Star (body.call all_quals (λ qs. expect k.CloseParen (expect k.OpenParen (body.call (all_parameters t d) (λ ps. done (bare_pointer ss qs ps.0 ps.1))))))
