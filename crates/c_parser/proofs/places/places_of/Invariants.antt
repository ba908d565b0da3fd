use Rattle.std.proofs.Common.{◌≡◌, map, take}
use Rattle.c_parser.specs.Places as spec
use Rattle.c_parser.proofs.places.places_of.Given as goal

abbrev pub invariant-loop-k : goal.invariant-loop-k
invariant-loop-k l = l.places ≡ map (spec.place_at l.tokens) (take l.k-index l.indices)
