use Rattle.std.proofs.Common.{◌≤◌, map, drop, length}
use Rattle.flow_form.specs.Known.{label_of, AreKnown}
use Rattle.flow_form.proofs.targets.known_labels.Given as goal

abbrev pub decreases-loop-i : goal.decreases-loop-i
decreases-loop-i l = l.i

abbrev pub invariant-loop-i : goal.invariant-loop-i
invariant-loop-i l = (l.i ≤ length l.labels) × AreKnown l.known (map label_of (drop l.i l.labels))
