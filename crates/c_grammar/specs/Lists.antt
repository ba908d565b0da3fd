-- Lists that are read item by item.
use Rattle.std.specs.Prelude.{List, [], ◌∷◌}
use Rattle.c_grammar.specs.Body.{Outcome, got, refused, exceeded}
use Rattle.c_grammar.specs.Gauge.{Meter}

-- another value is made of what was read
abbrev pub mapped : {A B : Type 0} → (A → B) → Outcome Meter A → Outcome Meter B
mapped g (got a ts m) = got (g a) ts m
mapped g (refused ts) = refused ts
mapped g (exceeded ts) = exceeded ts

-- these before the others
abbrev pub before : {X T : Type 0} → (X → T → T) → List X → T → T
before cons [] t = t
before cons (x ∷ xs) t = cons x (before cons xs t)
