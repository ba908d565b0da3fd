-- What declarations declare (C11 6.2.1p1, 6.7).
use Rattle.std.specs.Prelude.{ℕ, List, [], ◌∷◌, ◌++◌, length, Option, ℤ, Bool, false, slice_get}
use Rattle.std.specs.Option.{option_and_then}
use Rattle.c_kinds.specs.Kind.{Kind}
use Rattle.c_builtins.specs.declared.names.BuiltIn.{BuiltIn}
use Rattle.c_scopes.specs.Scope.{Name, Scope, look_up, declare}

-- A type as a declaration gives it: its kind, which of a function type is that of pointers to it; whether it is a function type; whether it is
-- an array without a size, which is incomplete (6.2.5p22); whether what is declared with it is const and volatile (6.7.3); and whether it is
-- sig_atomic_t (7.14p2), under whatever name.
pub record DeclaredType : Type 0 where
  pub kind : Kind
  pub is_function : Bool
  pub is_open : Bool
  pub constant : Bool
  pub volatile : Bool
  pub atomic : Bool

-- a type without qualifiers that is no function type
abbrev pub simple : Kind → DeclaredType
simple k = record { kind = k; is_function = false; is_open = false; constant = false; volatile = false; atomic = false }

-- A variable: its number among the variables; its type; the number of the function in which it is first declared; whether it has static
-- storage duration (6.2.4p3); whether it has linkage (6.2.2).
pub record Variable : Type 0 where
  pub number : ℕ
  pub of : DeclaredType
  pub owner : Option ℕ
  pub lasting : Bool
  pub linked : Bool

-- What an ordinary name stands for (6.2.3): a variable, or a parameter of a function with a body; a parameter of a prototype; a function
-- with its type; an enumerator with its value, where it has one; a type; a library function, by its place in the table; a built-in name.
pub data Entity : Type 0 where
  variable : Variable → Entity
  parameter : DeclaredType → Entity
  function : DeclaredType → Entity
  enumerator : Option ℤ → Entity
  type_name : DeclaredType → Entity
  library : ℕ → Entity
  built_in : BuiltIn → Entity

-- the variables among them, in order
abbrev pub variables_of : List Entity → List Variable
variables_of [] = []
variables_of (variable v ∷ es) = v ∷ variables_of es
variables_of (_ ∷ es) = variables_of es

-- The members of a structure, a name space of its own (6.2.3): each name with its place, and the kinds in order.
pub record Members : Type 0 where
  pub names : Scope
  pub kinds : List Kind

abbrev pub no_members : Members
no_members = record { names = [] ∷ []; kinds = [] }

abbrev pub with_member : Members → Name → Kind → Members
with_member ms n k = record { names = declare n (length ms.kinds) ms.names; kinds = ms.kinds ++ k ∷ [] }

-- the kind of a member
abbrev pub member : Members → Name → Option Kind
member ms n = option_and_then (λ i. slice_get ms.kinds i) (look_up ms.names n)

-- the place of a member among them, and the kind of the one at a place
abbrev pub member_place : Members → Name → Option ℕ
member_place ms n = look_up ms.names n

abbrev pub member_at : Members → ℕ → Option Kind
member_at ms i = slice_get ms.kinds i

-- A structure: its members; whether they have begun (6.7.2.3p1), and whether they are known, so that it is complete (6.7.2.1p8); whether its
-- tag is declared, and not mentioned alone.
pub record Structure : Type 0 where
  pub members : Members
  pub begun : Bool
  pub complete : Bool
  pub declared : Bool
