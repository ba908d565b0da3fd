use Rattle.asafe.specs.FaultLine.{line_at}
use Rattle.asafe.proofs.fault_line.line_at.Goals as goal

pub returns-in-Ok : goal.returns-in-Ok
unfolding line_at
returns-in-Ok c = c.in-Ok.ensures.ok
