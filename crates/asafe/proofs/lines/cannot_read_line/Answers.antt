use Rattle.asafe.specs.Lines.{cannot_read_line}
use Rattle.asafe.proofs.lines.cannot_read_line.Goals as goal

pub returns-in-Ok : goal.returns-in-Ok
unfolding cannot_read_line
returns-in-Ok c = c.in-Ok.ensures.ok
