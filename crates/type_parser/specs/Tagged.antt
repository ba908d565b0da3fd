-- Parts of the rules of structs and enums, as code reads them.
use Rattle.std.specs.Prelude.{ℕ, ◌+◌, Bool, true, false, Option, Some, None, [], if◌then◌else◌}
use Rattle.c_tree.specs.Tree.{Name, Expression, Specifiers, Specifier, struct_of, enum_of, Members, member, Declarators, DeclaratorTree, Enumerators, enumerator, enumerator_with}
use Rattle.c_grammar.specs.declared.kind.Kind.{Kind}
use Rattle.c_grammar.specs.declared.kind.Kind.TheVariants as k
use Rattle.c_grammar.specs.Body.{done, stop, look, spend}
use Rattle.c_grammar.specs.Body as body
use Rattle.c_grammar.specs.Rules.{NameEnvironment, Reads, skip, expect, barred, a_new_name, begins_type, an_expression, all_specifiers, all_members, all_declarators, all_enumerators, a_declarator}

-- the members in their braces, of a struct with this tag or with none
abbrev pub struct_in : NameEnvironment → ℕ → Option Name → Reads Specifier
struct_in t d tag = spend 1 (d + 1) (skip (body.call (all_members t d) (λ ms. done (struct_of tag ms))))

-- the enumerators in their braces, of an enum with this tag or with none
abbrev pub enum_in : NameEnvironment → ℕ → Option Name → Reads Specifier
enum_in t d tag = spend 1 (d + 1) (skip (body.call (all_enumerators t d) (λ es. done (enum_of tag es.0 es.1))))

-- ---- members

-- a member, and whether it is the last
abbrev pub OneMember : Type 0
OneMember = (Specifiers × Declarators) × Bool

-- behind its semicolon: the closing brace, or another begins
abbrev pub behind_member_by : NameEnvironment → ℕ → Specifiers × Declarators → Kind → Reads OneMember
behind_member_by t d m k.CloseBrace = skip (done (m, true))
behind_member_by t d m kind = if begins_type kind then spend 1 (d + 1) (done (m, false)) else stop

abbrev pub one_member : NameEnvironment → ℕ → Reads OneMember
one_member t d = body.call (all_specifiers t d false []) (λ ws. body.call (all_declarators t d) (λ cs. expect k.Semicolon (look t.types (behind_member_by t d (ws, cs)))))

-- a member before the others
abbrev pub with_member : Specifiers × Declarators → Members → Members
with_member x ms = member x.0 x.1 ms

-- one more declarator of a member, behind a comma
abbrev pub another_declarator : NameEnvironment → ℕ → Reads DeclaratorTree
another_declarator t d = spend 1 (d + 1) (skip (body.call (a_declarator t (d + 1) false false) done))

-- ---- enumerators

-- an enumerator, and where it is the last whether a comma stands behind it
abbrev pub OneEnumerator : Type 0
OneEnumerator = (Name × Option Expression) × Option Bool

-- behind its comma: the closing brace, or another begins
abbrev pub next_by : NameEnvironment → ℕ → Name × Option Expression → Kind → Reads OneEnumerator
next_by t d e k.CloseBrace = skip (done (e, Some true))
next_by t d e k.Name = spend 1 (d + 1) (done (e, None))
next_by t d e _ = stop

-- behind it
abbrev pub behind_enumerator_by : NameEnvironment → ℕ → Name × Option Expression → Kind → Reads OneEnumerator
behind_enumerator_by t d e k.CloseBrace = skip (done (e, Some false))
behind_enumerator_by t d e k.Comma = skip (look (barred t) (next_by t d e))
behind_enumerator_by t d e _ = stop

-- behind its name
abbrev pub valued_by : NameEnvironment → ℕ → Name → Kind → Reads OneEnumerator
valued_by t d n k.Assign = spend 1 (d + 2) (skip (body.call (an_expression t (d + 1) 3 0) (λ x. look [] (behind_enumerator_by t d (n, Some x)))))
valued_by t d n _ = look [] (behind_enumerator_by t d (n, None))

abbrev pub one_enumerator : NameEnvironment → ℕ → Reads OneEnumerator
one_enumerator t d = a_new_name t (λ n. look [] (valued_by t d n))

-- one more enumerator before the others, and whether a comma stands behind the last
abbrev pub with_enumerator : Name × Option Expression → Enumerators × Bool → Enumerators × Bool
with_enumerator (n, None) es = (enumerator n es.0, es.1)
with_enumerator (n, Some x) es = (enumerator_with n x es.0, es.1)
