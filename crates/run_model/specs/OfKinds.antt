-- What a run must know of a type, from the type itself.
use Rattle.std.specs.Prelude.{ℕ, cond, nat_eq, Option, Some, None}
use Rattle.c_kinds.specs.Kind as types
use Rattle.run_model.specs.Kinds.{Kind, Void, Number, Pointer, FnPointer, SetKind, ActionKind, ArrayKind, PartsKind}

-- sigaction: the number of struct sigaction among the structures
abbrev pub kind_of : (sigaction : ℕ) → types.Kind → Kind
kind_of sigaction types.void = Void
kind_of sigaction (types.int width signed) = Number (record { width = width; signed = signed })
kind_of sigaction (types.pointer k) = Pointer
kind_of sigaction (types.function_of ks k) = FnPointer
kind_of sigaction (types.array k) = ArrayKind
kind_of sigaction (types.structure n) = cond (nat_eq n sigaction) ActionKind PartsKind
kind_of sigaction types.signals = SetKind
kind_of sigaction types.kernel = PartsKind

-- a node without a kind has no value
abbrev pub kind_or : (sigaction : ℕ) → Option types.Kind → Kind
kind_or sigaction None = Void
kind_or sigaction (Some k) = kind_of sigaction k
