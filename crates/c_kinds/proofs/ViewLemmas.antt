-- What the types of the program stand for, variant by variant.
use Rattle.std.proofs.Common.{◌≡◌, List, ap, sym, ◌∙◌}
use Rattle.std.specs.declared.rc.Rc.{Rc}
use Rattle.std.specs.declared.alloc.Global.{Global}
use Rattle.c_kinds.specs.Kind as k
use Rattle.c_kinds.specs.Kind.{Kind}
use Rattle.c_kinds.specs.View.{view, view_types, kind_step, types_step}
use Rattle.c_kinds.specs.declared.ctype.CType.{CType, fold-roll-CType}
use Rattle.c_kinds.specs.declared.ctype.CType.TheOpen.{CType-F}
use Rattle.c_kinds.specs.declared.ctype.CType.TheVariants as v
use Rattle.c_kinds.specs.declared.ctype.Types.{Types}

pub view_FnPtr : (x1 : Types) (x2 : Rc CType Global) → view (v.FnPtr x1 x2) ≡ k.function (view_types x1) (view x2.value)
view_FnPtr x1 x2 = ap view (sym (v.rolls-FnPtr x1 x2)) ∙ fold-roll-CType Kind (List Kind) kind_step types_step (CType-F.FnPtr x1 x2)
