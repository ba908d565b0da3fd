-- What the names at a place of the text stand for (C11 6.2.1 to 6.2.3), and what a declaration makes of it.
use Rattle.std.specs.Prelude.{ℕ, suc, List, [], ◌∷◌, ◌++◌, length, Option, Some, None, ℤ, pos, Bool, true, false, is_some, is_none, slice_get, set}
use Rattle.std.specs.Option.{option_and_then}
use Rattle.c_scopes.specs.Scope as scope
use Rattle.c_scopes.specs.Scope.{Name, Scope, look_up, declared_here, declare, declare_around, or_else}
use Rattle.c_builtins.specs.declared.names.BuiltIn.TheVariants as b
use Rattle.c_environment.specs.Entity.{DeclaredType, Entity, variable, function, enumerator, type_name, built_in, Members, no_members, Structure}

pub record Environment : Type 0 where
  -- the things declared so far, in order of the text, behind those of the implementation
  pub entities : List Entity
  -- the blocks, whose names stand for things by their numbers; the names of the implementation, which stand outside the file's scope
  pub names : Scope
  pub implementation : Scope
  -- the objects and functions with linkage, by name (6.2.2p2)
  pub linked : Scope
  -- the tags, by the numbers of what they name: structures, by their numbers, and enumerations
  pub tags : Scope
  pub tagged : List (Option ℕ)
  pub structures : List Structure
  -- how many variables there are
  pub variables : ℕ
  -- the number of the function in whose text the place stands
  pub inside : Option ℕ
  -- the functions with a body in the whole unit, by their numbers, and the objects with a definition in it (6.9p3, 6.9.2)
  pub functions : Scope
  pub objects : Scope
  -- the names with linkage that have had a body or an initialiser so far, and the labels of the function so far (6.2.1p3)
  pub initialised : Scope
  pub labels : Scope

-- ---- what names stand for

-- the number of what an ordinary name stands for
abbrev pub number : Environment → Name → Option ℕ
number env n = or_else (look_up env.names n) (look_up env.implementation n)

abbrev pub entity : Environment → Name → Option Entity
entity env n = option_and_then (λ i. slice_get env.entities i) (number env n)

-- what the innermost block has declared the name as
abbrev pub entity_here : Environment → Name → Option Entity
entity_here env n = option_and_then (λ i. slice_get env.entities i) (declared_here env.names n)

-- the object or function with linkage of this name (6.2.2p2)
abbrev pub linked_entity : Environment → Name → Option Entity
linked_entity env n = option_and_then (λ i. slice_get env.entities i) (look_up env.linked n)

-- the innermost block has declared the name
abbrev pub is_declared_here : Environment → Name → Bool
is_declared_here env n = is_some (declared_here env.names n)

-- the name is one of the implementation's
abbrev pub is_reserved : Environment → Name → Bool
is_reserved env n = is_some (look_up env.implementation n)

-- the value of a name in a constant expression (6.6): of an enumerator, and of a built-in constant
abbrev pub constant_of : Entity → Option ℤ
constant_of (enumerator v) = v
constant_of (built_in (b.Number k)) = Some (pos k)
constant_of (built_in b.Null) = Some (pos 0)
constant_of _ = None

abbrev pub value : Environment → Name → Option ℤ
value env n = option_and_then constant_of (entity env n)

-- the type that a name of a type stands for
abbrev pub type_of : Option Entity → Option DeclaredType
type_of (Some (type_name t)) = Some t
type_of _ = None

-- what a tag names: None where it isn't declared, else the number of a structure, or an enumeration
abbrev pub tag : Environment → Name → Option (Option ℕ)
tag env n = option_and_then (λ i. slice_get env.tagged i) (look_up env.tags n)

abbrev pub tag_here : Environment → Name → Option (Option ℕ)
tag_here env n = option_and_then (λ i. slice_get env.tagged i) (declared_here env.tags n)

abbrev pub structure : Environment → ℕ → Option Structure
structure env k = slice_get env.structures k

-- the function of the unit that has this name and a body
abbrev pub function_number : Environment → Name → Option ℕ
function_number env n = look_up env.functions n

-- the unit defines an object of this name, that has linkage
abbrev pub is_defined_object : Environment → Name → Bool
is_defined_object env n = is_some (look_up env.objects n)

-- the name has had a body, or an initialiser, before
abbrev pub is_initialised : Environment → Name → Bool
is_initialised env n = is_some (look_up env.initialised n)

-- the function has had a label of this name before
abbrev pub is_label : Environment → Name → Bool
is_label env n = is_some (look_up env.labels n)

-- the place stands outside all functions
abbrev pub at_file_scope : Environment → Bool
at_file_scope env = is_none env.inside

-- ---- blocks (6.2.1p4)

abbrev pub entered : Environment → Environment
entered env = record env { names = scope.enter env.names; tags = scope.enter env.tags }

abbrev pub left : Environment → Environment
left env = record env { names = scope.leave env.names; tags = scope.leave env.tags }

-- in the text of a function, and behind it: the labels of a function are a name space of their own, so their block ends (6.2.1p3)
abbrev pub within_function : Environment → Option ℕ → Environment
within_function env f = record env { inside = f; labels = scope.leave env.labels }

abbrev pub with_label : Environment → Name → Environment
with_label env n = record env { labels = declare n 0 env.labels }

abbrev pub with_initialised : Environment → Name → Environment
with_initialised env n = record env { initialised = declare n 0 env.initialised }

-- ---- declarations

-- from here on the name stands for the thing of this number
abbrev pub named : Environment → Name → ℕ → Environment
named env n i = record env { names = declare n i env.names }

-- from here on the name stands for this thing
abbrev pub with_entity : Environment → Name → Entity → Environment
with_entity env n e = record env { entities = env.entities ++ e ∷ []; names = declare n (length env.entities) env.names }

-- the same of a thing with linkage that has not been declared before
abbrev pub with_new_linked : Environment → Name → Entity → Environment
with_new_linked env n e = record env { entities = env.entities ++ e ∷ []; names = declare n (length env.entities) env.names; linked = declare n (length env.entities) env.linked }

abbrev pub by_link : Environment → Name → DeclaredType → Option ℕ → Environment
by_link env n t (Some i) = named env n i
by_link env n t None = with_new_linked env n (function t)

-- The name of a function: in a unit it is one, however often it is declared (6.2.2p2).
abbrev pub with_function : Environment → Name → DeclaredType → Environment
with_function env n t = by_link env n t (look_up env.linked n)

-- the same in the block around the innermost
abbrev pub named_around : Environment → Name → ℕ → Environment
named_around env n i = record env { names = declare_around n i env.names }

abbrev pub with_new_linked_around : Environment → Name → Entity → Environment
with_new_linked_around env n e =
    record env { entities = env.entities ++ e ∷ []; names = declare_around n (length env.entities) env.names; linked = declare n (length env.entities) env.linked }

abbrev pub by_link_around : Environment → Name → DeclaredType → Option ℕ → Environment
by_link_around env n t (Some i) = named_around env n i
by_link_around env n t None = with_new_linked_around env n (function t)

abbrev pub with_function_around : Environment → Name → DeclaredType → Environment
with_function_around env n t = by_link_around env n t (look_up env.linked n)

abbrev pub next_variable : Environment → DeclaredType → Bool → Bool → Entity
next_variable env t lasting has_linkage = variable (record { number = env.variables; of = t; owner = env.inside; lasting = lasting; linked = has_linkage })

abbrev pub one_more : Environment → Environment
one_more env = record env { variables = suc env.variables }

-- a variable without linkage (6.2.2p6)
abbrev pub with_variable : Environment → Name → DeclaredType → Bool → Environment
with_variable env n t lasting = one_more (with_entity env n (next_variable env t lasting false))

abbrev pub by_variable_link : Environment → Name → DeclaredType → Option ℕ → Environment
by_variable_link env n t (Some i) = named env n i
by_variable_link env n t None = one_more (with_new_linked env n (next_variable env t true true))

-- a variable with linkage, which has static storage duration (6.2.4p3)
abbrev pub with_linked_variable : Environment → Name → DeclaredType → Environment
with_linked_variable env n t = by_variable_link env n t (look_up env.linked n)

-- ---- tags (6.7.2.3)

-- from here on the tag names this
abbrev pub with_tag : Environment → Name → Option ℕ → Environment
with_tag env n what = record env { tags = declare n (length env.tagged) env.tags; tagged = env.tagged ++ what ∷ [] }

abbrev pub with_optional_tag : Environment → Option Name → Option ℕ → Environment
with_optional_tag env None what = env
with_optional_tag env (Some n) what = with_tag env n what

-- a structure more, whose members aren't known
abbrev pub with_structure : Environment → Bool → Environment
with_structure env is_declared = record env { structures = env.structures ++ (record { members = no_members; begun = false; complete = false; declared = is_declared }) ∷ [] }

-- the members of a structure are known from here on
abbrev pub completed : Environment → ℕ → Members → Environment
completed env k ms = record env { structures = set env.structures k (record { members = ms; begun = true; complete = true; declared = true }) }

-- a structure's tag is declared, and not mentioned alone, from here on
abbrev pub marked : Structure → Structure
marked s = record s { declared = true }

abbrev pub marked_at : Environment → ℕ → Option Structure → Environment
marked_at env k None = env
marked_at env k (Some s) = record env { structures = set env.structures k (marked s) }

abbrev pub with_declared : Environment → ℕ → Environment
with_declared env k = marked_at env k (structure env k)

-- a structure's members begin here (p1)
abbrev pub beginning : Structure → Structure
beginning s = record s { begun = true }

abbrev pub beginning_at : Environment → ℕ → Option Structure → Environment
beginning_at env k None = env
beginning_at env k (Some s) = record env { structures = set env.structures k (beginning s) }

abbrev pub with_begun : Environment → ℕ → Environment
with_begun env k = beginning_at env k (structure env k)
