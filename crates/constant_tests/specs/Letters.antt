-- Names with a value, for the tests: m is INT_MAX, n is INT_MIN, t is 3 and w is -2.
use Rattle.std.specs.Prelude.{ℕ, if◌then◌else◌, ◌==◌, List, [], ◌∷◌, Option, Some, None, ℤ, pos, negsuc}

abbrev pub of_letter : ℕ → Option ℤ
of_letter b =
    if b == 109 then Some (pos 2147483647)
    else (if b == 110 then Some (negsuc 2147483647)
    else (if b == 116 then Some (pos 3)
    else (if b == 119 then Some (negsuc 1) else None)))

abbrev pub letter_values : List ℕ → Option ℤ
letter_values [] = None
letter_values (b ∷ []) = of_letter b
letter_values (b ∷ c ∷ z) = None
