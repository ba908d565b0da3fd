-- The first node that breaks a rule stands in the list.
use Rattle.std.proofs.Common.{◌≡◌, ◌<◌, ℕ, List, [], ◌∷◌, length, suc, Option, Some, None, arith, subst, sym}
use Rattle.c_rules.specs.declared.misfit.MisfitKind.{MisfitKind}
use Rattle.c_rules.specs.Judgement.{misfit}
use Rattle.c_bindings.specs.Told.{Told, here_or, first_misfit, one_further}

abbrev Below : ℕ → Option (ℕ × MisfitKind) → Type 0
Below n None = Unit {0}
Below n (Some p) = p.0 < n

further : (n : ℕ) (o : Option (ℕ × MisfitKind)) → Below n o → Below (suc n) (one_further o)
further n None h = tt
further n (Some p) h = omega (arith, h)

here : (n : ℕ) (m : Option MisfitKind) (o : Option (ℕ × MisfitKind)) → Below n o → Below (suc n) (here_or m o)
here n (Some m) o h = omega arith
here n None o h = further n o h

is_below : (ts : List Told) → Below (length ts) (first_misfit ts)
is_below [] = tt
is_below (t ∷ ts) = here (length ts) (misfit t.judged) (first_misfit ts) (is_below ts)

pub below : (ts : List Told) (p : ℕ × MisfitKind) → Some p ≡ first_misfit ts → p.0 < length ts
below ts p e = subst (Below (length ts)) (sym e) (is_below ts)
