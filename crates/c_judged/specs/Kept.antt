-- What a list of values keeps for its look-ups.
use Rattle.std.specs.Prelude.{◌≡◌, ℤ, List}
use Rattle.std.specs.List.{list_any}
use Rattle.std.specs.Ordering.{int_eq}

-- a value is one of these keys exactly where it stands in the list
abbrev pub HoldSame : List ℤ → List ℤ → Type 0
HoldSame keys values = (z : ℤ) → list_any (int_eq z) keys ≡ list_any (int_eq z) values
