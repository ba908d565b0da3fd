-- The order of abstract integers: whatever the lower one stands for, the upper one stands for.
use Rattle.std.specs.Prelude.{◌≡◌, pos, Bool, true, false, cond, not, ◌&&◌}
use Rattle.std.specs.Ordering.{int_eq}
use Rattle.abstract_values.specs.declared.number.AbsInt.{AbsInt}
use Rattle.abstract_values.specs.declared.number.AbsInt.TheVariants.{Any, NotZero, Exactly, EntryErrno}

-- all is below any value; a number but 0 is below what isn't 0; else equal values alone are ordered
abbrev pub IntUnder : AbsInt → AbsInt → Type 0
IntUnder a Any = Unit {0}
IntUnder NotZero NotZero = Unit {0}
IntUnder (Exactly i) NotZero = i ≡ pos 0 → ⊥
IntUnder (Exactly i) (Exactly j) = i ≡ j
IntUnder EntryErrno EntryErrno = Unit {0}
IntUnder _ _ = ⊥

-- it stands for no 0
abbrev pub never_zero : AbsInt → Bool
never_zero NotZero = true
never_zero (Exactly i) = not (int_eq i (pos 0))
never_zero _ = false

-- the least value above two values neither of which is below the other
abbrev pub apart : AbsInt → AbsInt → AbsInt
apart a b = cond (never_zero a && never_zero b) NotZero Any

-- the least value above both
abbrev pub int_join : AbsInt → AbsInt → AbsInt
int_join (Exactly i) (Exactly j) = cond (int_eq i j) (Exactly i) (apart (Exactly i) (Exactly j))
int_join EntryErrno EntryErrno = EntryErrno
int_join a b = apart a b

-- it stands for every integer
abbrev pub is_any_int : AbsInt → Bool
is_any_int Any = true
is_any_int _ = false
