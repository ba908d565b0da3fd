-- The file in which the first fault of a text lies.
use Rattle.std.specs.Prelude.{ℕ, zero, suc, ◌-◌, if◌then◌else◌, nat_eq, List, [], ◌∷◌, slice_get, Option, None, Result, Ok, Err}
use Rattle.c_lexer.specs.Bytes.{Text}
use Rattle.c_lexer.specs.Lexis.{Progress, step, start}
use Rattle.c_lexer.specs.declared.fault.LexFault.{LexFault}

-- the name of a file by its number, and none for the command's own file, whose number is 0
abbrev pub file_named : List Text → ℕ → Option Text
file_named files n = if nat_eq n 0 then None else slice_get files (n - 1)

abbrev pub here_or_later : Progress → Result (Progress × ℕ) LexFault → (Progress → ℕ → Option Text) → Option Text
here_or_later p (Err e) later = file_named p.files p.place.file
here_or_later p (Ok next) later = later next.0 (next.1 - 1)

-- the file of the first fault in what follows, where this much was read before it; the number counts the bytes that are left
-- of the last item
abbrev pub fault_file_from : ℕ → Progress → Text → Option Text
fault_file_from left p [] = None
fault_file_from (suc left) p (b ∷ z) = fault_file_from left p z
fault_file_from zero p (b ∷ z) = here_or_later p (step p (b ∷ z)) (λ q left. fault_file_from left q z)

unfoldable pub fault_file_behind : Progress → Text → Option Text
fault_file_behind = fault_file_from 0

-- the name of the line marker's file in which the first fault of a text lies; none where there is no fault, or it lies in the
-- command's own file
unfoldable pub fault_file : Text → Option Text
fault_file = fault_file_behind start
