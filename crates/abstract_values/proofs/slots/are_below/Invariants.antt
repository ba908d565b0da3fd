use Rattle.abstract_values.proofs.Places.{Left}
use Rattle.abstract_values.proofs.Entries.{earlier, meets}
use Rattle.abstract_values.proofs.slots.are_below.Given as goal

abbrev pub invariant-loop-entry : goal.invariant-loop-entry
invariant-loop-entry l = Left earlier meets l.upper l.lower l.entry-index l.place
