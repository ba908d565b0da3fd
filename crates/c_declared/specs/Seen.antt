-- The plain data that values of the walk stand for.
use Rattle.std.specs.Prelude.{List, map}
use Rattle.c_bindings.specs.declared.told.Told.{Told}
use Rattle.c_bindings.specs.Told as plain
use Rattle.c_bindings.specs.Seen.{seen_told}
use Rattle.c_declared.specs.declared.judgements.Judgements.{Judgements}

abbrev pub all_seen : List (List Told) → List (List plain.Told)
all_seen ts = map (λ w. map seen_told w) ts

-- what is told of the nodes below each node that is open, the innermost first
abbrev pub shown : Judgements → List (List plain.Told)
shown j = all_seen j.growing
