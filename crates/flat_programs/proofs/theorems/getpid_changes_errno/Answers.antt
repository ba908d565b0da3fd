use Rattle.flat_programs.proofs.Examples.{getpid_changes_errno}
use Rattle.flat_programs.proofs.theorems.getpid_changes_errno.Goals as goal

pub returns : goal.returns
returns c = getpid_changes_errno
