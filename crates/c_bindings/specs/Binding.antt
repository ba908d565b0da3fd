-- What a name stands for, by the number of the object or function, or by its value (C11 6.2.1p1, 6.5.1p2).
use Rattle.std.specs.Prelude.{ℕ, Option, Some, None, ℤ, pos}
use Rattle.c_builtins.specs.declared.names.BuiltIn.{BuiltIn}
use Rattle.c_builtins.specs.declared.names.BuiltIn.TheVariants as b
use Rattle.c_scopes.specs.Scope.{Name}
use Rattle.c_environment.specs.Entity as e
use Rattle.c_environment.specs.Entity.{Entity}
use Rattle.c_environment.specs.Environment.{Environment, entity, function_number}
use Rattle.c_bindings.specs.declared.binding.Binding.{Binding}
use Rattle.c_bindings.specs.declared.binding.Binding.TheVariants.{Variable, Function, Library, LibraryObject, Value, Default, Ignore, Failure, Kernel, Opaque, Errno}

-- a built-in name: a constant by its value, and the null pointer is 0; a value with which a kernel object is initialised; an object of the
-- library; nothing of what the subset leaves out
abbrev pub built_in_binding : BuiltIn → Option Binding
built_in_binding (b.Number k) = Some (Value (pos k))
built_in_binding b.Null = Some (Value (pos 0))
built_in_binding b.Default = Some Default
built_in_binding b.Ignore = Some Ignore
built_in_binding b.Failure = Some Failure
built_in_binding b.Initializer = Some Kernel
built_in_binding (b.Stream k) = Some (LibraryObject k)
built_in_binding b.Opaque = Some Opaque
built_in_binding b.Errno = Some Errno
built_in_binding b.LeftOut = None

-- a function by its number, where it has a body in the unit
abbrev pub numbered_function : Option ℕ → Option Binding
numbered_function None = None
numbered_function (Some k) = Some (Function (record { 0 = k }))

abbrev pub function_binding : Environment → Name → Option Binding
function_binding env n = numbered_function (function_number env n)

-- an enumerator by its value, where it has one
abbrev pub valued_enumerator : Option ℤ → Option Binding
valued_enumerator None = None
valued_enumerator (Some z) = Some (Value z)

-- A variable by its number, which a parameter of a prototype has not; a name of a type stands for none of these.
abbrev pub bound_by : Environment → Name → Option Entity → Option Binding
bound_by env n None = None
bound_by env n (Some (e.variable v)) = Some (Variable (record { 0 = v.number }))
bound_by env n (Some (e.parameter t)) = None
bound_by env n (Some (e.function t)) = function_binding env n
bound_by env n (Some (e.enumerator v)) = valued_enumerator v
bound_by env n (Some (e.type_name t)) = None
bound_by env n (Some (e.library k)) = Some (Library k)
bound_by env n (Some (e.built_in x)) = built_in_binding x

abbrev pub bound_to : Environment → Name → Option Binding
bound_to env n = bound_by env n (entity env n)
