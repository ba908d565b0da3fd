-- What a name in an expression stands for (C11 6.2.1p1, 6.5.1p2).
use Rattle.std.specs.Prelude.{ℕ, Option, Some, None, Bool, true, not, ◌||◌, is_some, bytes_eq, codes}
use Rattle.c_kinds.specs.Kind.{Kind}
use Rattle.c_scopes.specs.Scope.{Name}
use Rattle.c_environment.specs.Entity.{Entity, variable, parameter, function, enumerator, type_name, library, built_in, Variable}
use Rattle.c_environment.specs.Environment.{Environment, entity, function_number, is_defined_object}
use Rattle.c_rules.specs.declared.names.Denoted.{Denoted}
use Rattle.c_rules.specs.declared.names.Denoted.TheVariants as d

-- an object with linkage is defined in the unit or nowhere (6.9p5)
abbrev pub is_defined : Environment → Name → Variable → Bool
is_defined env n v = not v.linked || is_defined_object env n

abbrev pub denoted_by : Environment → Name → Option Entity → Denoted
denoted_by env n None = d.Undeclared
denoted_by env n (Some (variable v)) = d.Object v.of.constant (is_defined env n v)
denoted_by env n (Some (parameter t)) = d.Object t.constant true
denoted_by env n (Some (function t)) = d.Function (is_some (function_number env n)) (bytes_eq n (codes "main"))
denoted_by env n (Some (enumerator v)) = d.Enumerator
denoted_by env n (Some (type_name t)) = d.Undeclared
denoted_by env n (Some (library k)) = d.Library
denoted_by env n (Some (built_in b)) = d.BuiltIn b

abbrev pub denoted : Environment → Name → Denoted
denoted env n = denoted_by env n (entity env n)

-- the kind that the name was declared with
abbrev pub declared_kind : Option Entity → Option Kind
declared_kind (Some (variable v)) = Some v.of.kind
declared_kind (Some (parameter t)) = Some t.kind
declared_kind (Some (function t)) = Some t.kind
declared_kind _ = None

abbrev pub kind_of : Environment → Name → Option Kind
kind_of env n = declared_kind (entity env n)

-- the library function that the name stands for, by its place in the table
abbrev pub library_by : Option Entity → Option ℕ
library_by (Some (library k)) = Some k
library_by _ = None

abbrev pub library_of : Environment → Name → Option ℕ
library_of env n = library_by (entity env n)
