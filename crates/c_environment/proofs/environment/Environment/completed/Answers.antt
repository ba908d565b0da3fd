use Rattle.std.proofs.Common.{ap, true}
use Rattle.std.proofs.lemmas.List.{map-set}
use Rattle.c_environment.specs.Seen.{seen_structure, seen_environment}
use Rattle.c_environment.proofs.environment.Environment.completed.Goals as goal

pub returns-then-place-len : goal.returns-then-place-len
returns-then-place-len c =
    ap (λ ss. record (seen_environment c.args.self.now) { structures = ss })
    (map-set seen_structure c.args.self.now.structures.items c.args.number (record { members = c.args.members; begun = true; complete = true; declared = true }))
