-- The order of abstract sets of signals: one stands for the sets between its `must` and its `may`.
use Rattle.std.specs.Prelude.{Bool, ◌&&◌, IsTrue}
use Rattle.std.specs.FinSet as set
use Rattle.sig_set.specs.Signals.{every_signal}
use Rattle.abstract_values.specs.declared.signal_set.AbsSet.{AbsSet}

-- the lower one has more signals that must be in, and fewer that may
abbrev pub SetUnder : AbsSet → AbsSet → Type 0
SetUnder a b = IsTrue (set.is_subset b.must a.must) × IsTrue (set.is_subset a.may b.may)

-- the least abstract set above both
abbrev pub set_join : AbsSet → AbsSet → AbsSet
set_join a b = record { must = set.intersection a.must b.must; may = set.union a.may b.may }

-- it stands for every set
abbrev pub is_any_set : AbsSet → Bool
is_any_set a = set.is_subset a.must set.empty && set.is_subset every_signal a.may

-- it stands for some set
abbrev pub IsSomeSet : AbsSet → Type 0
IsSomeSet a = IsTrue (set.is_subset a.must a.may)

-- every set of signals
abbrev pub any_set : AbsSet
any_set = record { must = set.empty; may = every_signal }
