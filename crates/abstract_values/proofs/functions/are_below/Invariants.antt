use Rattle.abstract_values.proofs.Places.{Left}
use Rattle.abstract_values.proofs.Codes.{lower, equal}
use Rattle.abstract_values.proofs.functions.are_below.Given as goal

abbrev pub invariant-loop-code : goal.invariant-loop-code
invariant-loop-code l = Left lower equal l.codes l.others l.code-index l.place
