use Rattle.std.proofs.Common.{subst}
use Rattle.abstract_values.specs.Entries.{AreSlots}
use Rattle.abstract_values.proofs.Laws.{joins, joins_below, joins_formed}
use Rattle.abstract_values.proofs.state.State.join.Goals as goal

pub returns-then-below-clause-join : goal.returns-then-below-clause-join
returns-then-below-clause-join c = joins_below _ _ (c.below.ensures.0 c.if-below.true)

pub returns-clause-join : goal.returns-clause-join
returns-clause-join c = joins _ _ _ (record {
  mask = c.join-self.ensures;
  errno = c.join-self-2.ensures;
  alone = c.both-self.ensures;
  bare = c.both-self-2.ensures;
  slots = c.in_ok-self.ensures;
  kept = subst AreSlots c.drop.view_is c.drop.invariant;
})

pub returns-clause-formed : goal.returns-clause-formed
returns-clause-formed c = joins_formed _ _ _ (record {
  mask = c.join-self.ensures;
  errno = c.join-self-2.ensures;
  alone = c.both-self.ensures;
  bare = c.both-self-2.ensures;
  slots = c.in_ok-self.ensures;
  kept = subst AreSlots c.drop.view_is c.drop.invariant;
})
