-- The plain type that a value of the program stands for.
use Rattle.std.specs.Prelude.{List}
use Rattle.c_kinds.specs.Kind as k
use Rattle.c_kinds.specs.Kind.{Kind}
use Rattle.c_kinds.specs.declared.ctype.CType.{CType, fold-CType}
use Rattle.c_kinds.specs.declared.ctype.Types.{Types, fold-Types}
use Rattle.c_kinds.specs.declared.ctype.CType.TheOpen.{CType-F, Types-F}

abbrev pub kind_step : CType-F Kind (List Kind) → Kind
kind_step CType-F.Void = k.void
kind_step (CType-F.Int w s) = k.int w s
kind_step (CType-F.Ptr to) = k.pointer to.value
kind_step (CType-F.FnPtr ks to) = k.function ks to.value
kind_step (CType-F.Array of) = k.array of.value
kind_step (CType-F.Struct n) = k.structure n
kind_step CType-F.Set = k.signals
kind_step CType-F.Kernel = k.kernel

abbrev pub types_step : Types-F Kind (List Kind) → List Kind
types_step ts = ts.all.value.items

abbrev pub view : CType → Kind
view = fold-CType Kind (List Kind) kind_step types_step

abbrev pub view_types : Types → List Kind
view_types = fold-Types Kind (List Kind) kind_step types_step
