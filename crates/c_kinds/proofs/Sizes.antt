-- The parts of a function's type are smaller than it, and weigh less.
use denote.Param.Weighed.{at_most}
use Rattle.std.proofs.Common.{◌≡◌, ℕ, ◌+◌, ◌<◌, All, arith, ap, sym, subst, ◌∙◌}
use Rattle.std.specs.declared.rc.Rc.{Rc}
use Rattle.std.specs.declared.alloc.Global.{Global}
use Rattle.c_kinds.specs.Weight.{weight, weight_types, weight_step, weights_step}
use Rattle.c_kinds.specs.declared.ctype.CType.{CType, size-CType, fold-roll-CType}
use Rattle.c_kinds.specs.declared.ctype.CType.TheOpen.{CType-F}
use Rattle.c_kinds.specs.declared.ctype.CType.TheVariants as v
use Rattle.c_kinds.specs.declared.ctype.CType.TheViews.{sized-FnPtr, size_is-Types}
use Rattle.c_kinds.specs.declared.ctype.Types.{Types, size-Types}

pub parts_smaller : (self : CType) (ts : Types) (to : Rc CType Global) → self ≡ v.FnPtr ts to → (size-Types ts < size-CType self) × (size-CType to.value < size-CType self)
parts_smaller self ts to is =
    let sized = sized-FnPtr ts to in
    subst (λ x. (size-Types ts < size-CType x) × (size-CType to.value < size-CType x)) (sym is) (omega (arith, sized), omega (arith, sized))

pub parts_weigh : (self : CType) (ts : Types) (to : Rc CType Global) → self ≡ v.FnPtr ts to → weight self ≡ weight_types ts + weight to.value + 1
parts_weigh self ts to is = ap weight is ∙ ap weight (sym (v.rolls-FnPtr ts to)) ∙ fold-roll-CType ℕ ℕ weight_step weights_step (CType-F.FnPtr ts to)

pub all_smaller : (ts : Types) → All (λ t. size-CType t < size-Types ts) ts.all.value.items
all_smaller ts = λ k d h. omega (arith, size_is-Types ts, at_most size-CType ts.all.value.items k d h)
