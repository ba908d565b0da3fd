use Rattle.std.proofs.Common.{◌≡◌, ◌++◌, length}
use Rattle.flat_programs.specs.FlatSpelling.{spell_handlers}
use Rattle.flat_programs.specs.Handlers.{AreShaped}
use Rattle.flat_programs.proofs.handler.handlers.Given as goal

abbrev pub invariant-next : goal.invariant-next
invariant-next l = (l.tokens ≡ spell_handlers l.handlers.items ++ l.rest) × AreShaped l.handlers.items

abbrev pub decreases-next : goal.decreases-next
decreases-next l = length l.rest
