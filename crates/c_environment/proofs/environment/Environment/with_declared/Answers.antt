use Rattle.std.proofs.Common.{◌≡◌, Some, ap, true, ◌∙◌, arith, vec_len}
use Rattle.std.specs.Prelude.{slice_get, option_map}
use Rattle.std.proofs.lemmas.List.{map-set}
use Rattle.std.proofs.lemmas.Option.{slice_get-map, slice_get_read}
use Rattle.c_environment.specs.Seen.{seen_structure, seen_environment}
use Rattle.c_environment.proofs.Structures.{marked_there}
use Rattle.c_environment.proofs.environment.Environment.with_declared.Goals as goal

pub returns-then-place-len : goal.returns-then-place-len
returns-then-place-len c =
    let env = c.args.self.now in
    let there = c.index_mut.result.now in
    let is : slice_get env.structures.items c.args.number ≡ Some there =
    slice_get_read env.structures.items (vec_len env.structures) c.args.number there env.structures.ok.0 (omega (arith, c.if-place-len.true, c.len.ensures)) c.index_mut.ensures.value in
    ap (λ ss. record (seen_environment env) { structures = ss })
    (map-set seen_structure env.structures.items c.args.number (record { members = there.members; begun = there.begun; complete = there.complete; declared = true }))
    ∙ marked_there (seen_environment env) c.args.number (seen_structure there)
    (slice_get-map seen_structure env.structures.items c.args.number ∙ ap (option_map seen_structure) is)
