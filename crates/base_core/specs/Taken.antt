-- What a sink tells of the bytes that it has taken.
use Rattle.std.specs.Prelude.{ℕ, List, ◌++◌, Option, Some, None}

-- the bytes taken, with these behind them, where they are told
abbrev pub appended : Option (List ℕ) → List ℕ → Option (List ℕ)
appended None bytes = None
appended (Some taken) bytes = Some (taken ++ bytes)
