use Rattle.std.proofs.Common.{◌≡◌, ◌++◌, length}
use Rattle.flat_programs.specs.FlatSpelling.{spell_calls}
use Rattle.flat_programs.proofs.body.calls.Given as goal

abbrev pub invariant-loop-function : goal.invariant-loop-function
invariant-loop-function l = l.tokens ≡ spell_calls l.calls.items ++ l.rest

abbrev pub decreases-loop-function : goal.decreases-loop-function
decreases-loop-function l = length l.rest
