use Rattle.std.proofs.Common.{◌≡◌, ◌++◌, length}
use Rattle.flat_programs.specs.FlatSpelling.{spell_statements}
use Rattle.flat_programs.specs.Body.{AreReadable}
use Rattle.flat_programs.proofs.body.statements.Given as goal

abbrev pub invariant-loop-next : goal.invariant-loop-next
invariant-loop-next l = (l.tokens ≡ spell_statements l.statements.items ++ l.rest) × AreReadable l.statements.items

abbrev pub decreases-loop-next : goal.decreases-loop-next
decreases-loop-next l = length l.rest
