-- The order of states.
use Rattle.std.specs.Prelude.{IsTrue, false, []}
use Rattle.abstract_values.specs.declared.number.AbsInt.TheVariants.{Any}
use Rattle.abstract_values.specs.declared.state.State.{State}
use Rattle.abstract_values.specs.Numbers.{IntUnder}
use Rattle.abstract_values.specs.Sets.{SetUnder, IsSomeSet, any_set}
use Rattle.abstract_values.specs.Entries.{SlotsUnder, AreFormed}

-- whatever state s describes, t describes
pub record Under (s t : State) : Type 0 where
  pub mask : SetUnder s.mask t.mask
  pub errno : IntUnder s.errno t.errno
  pub alone : IsTrue t.alone → IsTrue s.alone
  pub bare : IsTrue t.bare → IsTrue s.bare
  pub slots : SlotsUnder s.slots t.slots

-- u is the least state above both
pub record IsJoin (s t u : State) : Type 0 where
  pub left : Under s u
  pub right : Under t u
  pub least : (v : State) → Under s v → Under t v → Under u v

-- within the bounds of facts: sets and functions stand for something, and where a handler was surely never installed
-- there is surely one thread
pub record IsWellFormed (s : State) : Type 0 where
  pub mask : IsSomeSet s.mask
  pub bare : IsTrue s.bare → IsTrue s.alone
  pub slots : AreFormed s.slots

-- nothing is known
abbrev pub unknown_state : State
unknown_state = record { mask = any_set; errno = Any; alone = false; bare = false; slots = [] }
