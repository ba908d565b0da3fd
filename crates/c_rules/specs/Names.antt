-- Names and literals as expressions (C11 6.5.1).
use Rattle.std.specs.Prelude.{ℕ, List, Bool, if◌then◌else◌, Option, Some, None}
use Rattle.c_kinds.specs.Kind.{Kind, pointer, array, kernel}
use Rattle.c_arithmetic.specs.Literals.{integer_type}
use Rattle.c_builtins.specs.declared.names.BuiltIn.{BuiltIn}
use Rattle.c_builtins.specs.declared.names.BuiltIn.TheVariants as built_in
use Rattle.c_rules.specs.declared.misfit.MisfitKind.TheVariants.{UnknownName, LeftOut, LibraryAsValue}
use Rattle.c_rules.specs.declared.names.Denoted.{Denoted}
use Rattle.c_rules.specs.declared.names.Denoted.TheVariants.{Undeclared, Object, Function, Library, Enumerator, BuiltIn as BuiltInName}
use Rattle.c_rules.specs.Judgement.{Judgement, fits, fails, silent, by_one}
use Rattle.c_rules.specs.Types.{of_type, plain_int, char, handler}

-- The kind of a built-in name (POSIX.1-2017 XBD 13); those that the subset leaves out have none.
abbrev pub built_in_kind : BuiltIn → Option Kind
built_in_kind built_in.Default = Some handler
built_in_kind built_in.Ignore = Some handler
built_in_kind built_in.Failure = Some handler
built_in_kind built_in.Initializer = Some kernel
built_in_kind (built_in.Stream n) = Some (pointer kernel)
built_in_kind built_in.LeftOut = None
built_in_kind _ = Some plain_int

abbrev pub by_built_in : Option Kind → Judgement
by_built_in (Some k) = fits k
by_built_in None = fails LeftOut

abbrev pub of_declared : Option Kind → Judgement
of_declared k = by_one k fits

-- A name (6.5.1p2), with the kind that it was declared with. It is declared, and an object or a function of the program is defined
-- (6.9p3); it is none that the subset leaves out, as main in an expression; and a library function's stands only before the arguments of
-- a call, where it has no kind by its form.
abbrev pub named : Denoted → Option Kind → Bool → Judgement
named Undeclared k as_callee = fails UnknownName
named (Object is_const defined) k as_callee = if defined then of_declared k else fails UnknownName
named (Function defined main) k as_callee = if defined then (if main then fails LeftOut else of_declared k) else fails UnknownName
named Library k as_callee = if as_callee then silent else fails LibraryAsValue
named Enumerator k as_callee = fits plain_int
named (BuiltInName b) k as_callee = by_built_in (built_in_kind b)

-- an integer constant (6.4.4.1p5), a character constant (6.4.4.4p10), a string literal (6.4.5p6)
abbrev pub integer : List ℕ → Judgement
integer z = fits (of_type (integer_type z))

abbrev pub character : Judgement
character = fits plain_int

abbrev pub text : Judgement
text = fits (array char)
