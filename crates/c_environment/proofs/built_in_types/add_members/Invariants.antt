use Rattle.std.proofs.Common.{◌≡◌, map, drop}
use Rattle.c_environment.specs.Start as plain
use Rattle.c_environment.specs.Seen.{seen_members}
use Rattle.c_environment.proofs.built_in_types.add_members.Given as goal

abbrev pub invariant-loop-member : goal.invariant-loop-member
invariant-loop-member l =
    plain.members_of (seen_members l.members) (map (λ m. (m.name.now, m.holds)) (drop l.member-index l.all))
    ≡ plain.members_of (seen_members l.fn.members) (map (λ m. (m.name.now, m.holds)) l.fn.all)
