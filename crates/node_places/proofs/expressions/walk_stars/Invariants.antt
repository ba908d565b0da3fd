use Rattle.std.proofs.Common.{◌≡◌, drop}
use Rattle.node_places.specs.Walked.{walked}
use Rattle.node_places.specs.Past.{past_stars}
use Rattle.node_places.proofs.expressions.walk_stars.Given as goal

abbrev pub invariant-loop-quals : goal.invariant-loop-quals
invariant-loop-quals l = past_stars (walked l.walk) (drop l.quals-index l.all) ≡ past_stars (walked l.fn.walk) l.fn.all
