-- A rule that has to take a token, step by step.
use Rattle.std.proofs.Common.{◌≡◌, ◌≢◌, ◌<◌, ℕ, nat_lt, Bool, true, ◌||◌, [], ◌∷◌, ◌++◌, length, length-append, refl, arith}
use Rattle.std.proofs.lemmas.Bool.Decides.{nat_tests}
use Rattle.c_tree.specs.Marks.{Tokens}
use Rattle.c_grammar.specs.Body.{strict, Outcome, got}
use Rattle.c_grammar.specs.Rules.{Rule, Result, Reads, rank}
use Rattle.c_grammar.proofs.Parse.{parse}
use Rattle.c_grammar.proofs.Runs.{Runs}

-- what another rule reads, if it took a token
pub run_strict : {A : Type 0} {taken : Bool} {limit : ℕ} {o : Outcome (Unit {0}) A} {r : Rule} {f : Result r → Reads A} {ts : Tokens} {v : Result r} {vs : Tokens} →
    taken || nat_lt (rank r) limit ≡ true → parse r ts ≡ got v vs tt → length vs < length ts → Runs true limit (f v) vs o → Runs taken limit (strict r f) ts o
run_strict {limit} {r} {f} {ts} {v} {vs} goes is fewer h = let test : nat_lt (length vs) (length ts) ≡ true = grind (arith, nat_tests) in record { runs = rw (goes, is, test) h.runs }

-- behind tokens there are fewer
pub longer_by : (xs r : Tokens) → xs ≢ [] → length r < length (xs ++ r)
longer_by [] r some = absurd (some refl)
longer_by (x ∷ xs) r some = let h = length-append xs r in omega arith
