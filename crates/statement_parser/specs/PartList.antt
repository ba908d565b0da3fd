-- Parts of the rules of initialisers, as code reads them.
use Rattle.std.specs.Prelude.{ℕ, ◌+◌, Bool, true, false, Option, Some, None, []}
use Rattle.c_tree.specs.Tree.{Name, Initializer, listed, Initializers, initializers}
use Rattle.c_grammar.specs.declared.kind.Kind.{Kind}
use Rattle.c_grammar.specs.declared.kind.Kind.TheVariants as k
use Rattle.c_grammar.specs.Body.{done, stop, look, spend}
use Rattle.c_grammar.specs.Body as body
use Rattle.c_grammar.specs.Rules.{NameEnvironment, Reads, skip, expect, a_name, an_initializer, all_initializers}

-- an initialiser in braces
abbrev pub braced : NameEnvironment → ℕ → ℕ → Reads Initializer
braced t d owed = spend (owed + 1) (d + 2) (skip (body.call (all_initializers t (d + 1) 0) (λ ps. done (listed ps.0 ps.1))))

-- a part of a list, and where it is the last whether a comma stands behind it
abbrev pub OnePart : Type 0
OnePart = (Option Name × Initializer) × Option Bool

-- behind its comma: the closing brace, or another begins
abbrev pub next_by : Option Name × Initializer → Kind → Reads OnePart
next_by p k.CloseBrace = skip (done (p, Some true))
next_by p _ = done (p, None)

-- behind it
abbrev pub behind_part_by : NameEnvironment → Option Name × Initializer → Kind → Reads OnePart
behind_part_by t p k.CloseBrace = skip (done (p, Some false))
behind_part_by t p k.Comma = skip (look t.types (next_by p))
behind_part_by t p _ = stop

-- behind the name of a member
abbrev pub assigned : NameEnvironment → ℕ → Name → Reads OnePart
assigned t d n = expect k.Assign (body.call (an_initializer t d 0) (λ i. look [] (behind_part_by t (Some n, i))))

-- for a member that it names
abbrev pub named_part : NameEnvironment → ℕ → ℕ → Reads OnePart
named_part t d owed = spend owed (d + 1) (skip (a_name t (assigned t d)))

abbrev pub part_by : NameEnvironment → ℕ → ℕ → Kind → Reads OnePart
part_by t d owed k.Dot = named_part t d owed
part_by t d owed _ = body.call (an_initializer t d owed) (λ i. look [] (behind_part_by t (None, i)))

abbrev pub one_part : NameEnvironment → ℕ → ℕ → Reads OnePart
one_part t d owed = look [] (part_by t d owed)

-- one more part before the others, and whether a comma stands behind the last
abbrev pub with_part : Option Name × Initializer → Initializers × Bool → Initializers × Bool
with_part p ps = (initializers p.0 p.1 ps.0, ps.1)
