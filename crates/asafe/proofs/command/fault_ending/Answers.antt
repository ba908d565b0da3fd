use Rattle.std.proofs.Common.{◌≡◌, string_bytes, subst}
use Rattle.asafe.specs.FaultLine.{fault_line}
use Rattle.asafe.proofs.Endings.{fault_told}
use Rattle.asafe.proofs.command.fault_ending.Goals as goal

pub returns-in-Ok : goal.returns-in-Ok
returns-in-Ok c = λ json gives.
    fault_told c.args.file.now c.args.text.now (string_bytes c.in-Ok.line) c.args.fault c.in-Some.place c.in-Some.ensures gives
    (subst (λ kind. string_bytes c.in-Ok.line ≡ fault_line c.args.file.now c.args.text.now c.in-Some.place kind) c.kind.ensures c.in-Ok.ensures)
