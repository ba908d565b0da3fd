-- Statements that a reader can read.
use Rattle.std.specs.Prelude.{◌≤◌, List, [], ◌∷◌}
use Rattle.flat_programs.specs.declared.flat.Statement.{Statement}
use Rattle.flat_programs.specs.declared.flat.Statement.TheVariants.{Call, Install}
use Rattle.flat_programs.specs.FlatShape.{IsLetter}

-- an install names a signal and a letter
abbrev pub IsReadable : Statement → Type 0
IsReadable (Call f) = Unit {0}
IsReadable (Install s h) = ((1 ≤ s) × (s ≤ 28)) × IsLetter h

abbrev pub AreReadable : List Statement → Type 0
AreReadable [] = Unit {0}
AreReadable (s ∷ ss) = IsReadable s × AreReadable ss
