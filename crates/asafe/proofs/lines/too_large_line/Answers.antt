use Rattle.asafe.specs.Lines.{too_large_line}
use Rattle.asafe.proofs.lines.too_large_line.Goals as goal

pub returns-in-Ok : goal.returns-in-Ok
unfolding too_large_line
returns-in-Ok c = c.in-Ok.ensures.ok
