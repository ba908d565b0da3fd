-- What becomes of one structure.
use Rattle.std.proofs.Common.{◌≡◌, ℕ, Some, ap, sym}
use Rattle.std.specs.Prelude.{set, slice_get}
use Rattle.c_environment.specs.Entity.{Structure}
use Rattle.c_environment.specs.Environment.{Environment, marked, marked_at, with_declared, beginning, beginning_at, with_begun}

-- one that is there is marked
pub marked_there : (env : Environment) (k : ℕ) (s : Structure) → slice_get env.structures k ≡ Some s → record env { structures = set env.structures k (marked s) } ≡ with_declared env k
marked_there env k s is = ap (marked_at env k) (sym is)

-- one that is there begins
pub begun_there : (env : Environment) (k : ℕ) (s : Structure) → slice_get env.structures k ≡ Some s → record env { structures = set env.structures k (beginning s) } ≡ with_begun env k
begun_there env k s is = ap (beginning_at env k) (sym is)
