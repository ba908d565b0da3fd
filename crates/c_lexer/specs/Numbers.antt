-- Numbers by their digits (C11 6.4.4.1).
use Rattle.std.specs.Prelude.{ℕ, ◌+◌, ◌-◌, ◌*◌, if◌then◌else◌, nat_le, [], ◌∷◌}
use Rattle.c_lexer.specs.Bytes.{Text}

-- the value of a digit, decimal or hexadecimal
abbrev pub digit : ℕ → ℕ
digit b = if nat_le b 57 then b - 48 else (if nat_le b 70 then b - 55 else b - 87)

-- the value of the digits behind a number
abbrev pub value_from : ℕ → ℕ → Text → ℕ
value_from base number [] = number
value_from base number (b ∷ z) = value_from base (number * base + digit b) z

-- the value of the digits
abbrev pub value : ℕ → Text → ℕ
value base z = value_from base 0 z
