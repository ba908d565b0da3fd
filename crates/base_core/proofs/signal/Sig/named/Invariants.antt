use Rattle.std.proofs.Common.{◌≡◌, ◌-◌}
use Rattle.base_core.specs.Signal.{signal_named}
use Rattle.base_core.proofs.SignalNames.{search_from}
use Rattle.base_core.proofs.signal.Sig.named.Given as goal

abbrev pub invariant-loop-number : goal.invariant-loop-number
invariant-loop-number l = search_from (l.number - 1) l.number l.name ≡ signal_named l.name
