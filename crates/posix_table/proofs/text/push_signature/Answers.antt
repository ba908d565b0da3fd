use Rattle.std.proofs.Common.{rules, append_assoc}
use Rattle.posix_table.proofs.text.push_signature.Goals as goal

pub returns : goal.returns
returns c = search (rules, append_assoc)
