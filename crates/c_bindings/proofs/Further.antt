-- Numbers in lists of what is told.
use Rattle.std.proofs.Common.{◌≡◌, ℕ, suc, ◌+◌, Option, None, Some, refl, ap, arith}
use Rattle.c_rules.specs.declared.misfit.MisfitKind.{MisfitKind}
use Rattle.c_bindings.specs.Told.{one_further}

-- so many numbers further
abbrev pub further : ℕ → Option (ℕ × MisfitKind) → Option (ℕ × MisfitKind)
further n None = None
further n (Some p) = Some (n + p.0, p.1)

pub further_none : (o : Option (ℕ × MisfitKind)) → further 0 o ≡ o
further_none None = refl
further_none (Some p) = let e : 0 + p.0 ≡ p.0 = omega arith in ap (λ n. Some (n, p.1)) e

pub further_one : (n : ℕ) (o : Option (ℕ × MisfitKind)) → further n (one_further o) ≡ further (n + 1) o
further_one n None = refl
further_one n (Some p) = let e : n + suc p.0 ≡ (n + 1) + p.0 = omega arith in ap (λ m. Some (m, p.1)) e

pub further_here : (n : ℕ) (m : MisfitKind) → further n (Some (0, m)) ≡ Some (n, m)
further_here n m = let e : n + 0 ≡ n = omega arith in ap (λ k. Some (k, m)) e
