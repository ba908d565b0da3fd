-- How many types stand in a type, each as often as it stands there: a measure of what is left to let go of.
use Rattle.std.specs.Prelude.{ℕ, ◌+◌, List, map, sum}
use Rattle.c_kinds.specs.declared.ctype.CType.{CType, fold-CType}
use Rattle.c_kinds.specs.declared.ctype.Types.{Types, fold-Types}
use Rattle.c_kinds.specs.declared.ctype.CType.TheOpen.{CType-F, Types-F}

abbrev pub weight_step : CType-F ℕ ℕ → ℕ
weight_step CType-F.Void = 1
weight_step (CType-F.Int w s) = 1
weight_step (CType-F.Ptr to) = to.value + 1
weight_step (CType-F.FnPtr ks to) = ks + to.value + 1
weight_step (CType-F.Array of) = of.value + 1
weight_step (CType-F.Struct n) = 1
weight_step CType-F.Set = 1
weight_step CType-F.Kernel = 1

abbrev pub weights_step : Types-F ℕ ℕ → ℕ
weights_step ts = sum ts.all.value.items

abbrev pub weight : CType → ℕ
weight = fold-CType ℕ ℕ weight_step weights_step

abbrev pub weight_types : Types → ℕ
weight_types = fold-Types ℕ ℕ weight_step weights_step

abbrev pub weigh : List CType → ℕ
weigh ts = sum (map weight ts)
