-- The type and the value of an integer constant and of a character constant, from its bytes (C11 6.4.4.1, 6.4.4.4).
use Rattle.std.specs.Prelude.{ℕ, ◌+◌, ◌-◌, ◌*◌, Bool, not, ◌&&◌, ◌||◌, if◌then◌else◌, ◌==◌, nat_le, List, [], ◌∷◌, drop, slice_index, Option, Some, None, ℤ, pos}
use Rattle.std.specs.List.{list_any}
use Rattle.c_arithmetic.specs.declared.types.IntType.{IntType}
use Rattle.c_arithmetic.specs.Types.{int, unsigned_int, long, unsigned_long, char}
use Rattle.c_arithmetic.specs.Conversion.{holds, converted, kept}

abbrev pub Bytes : Type 0
Bytes = List ℕ

-- ---- numbers by their digits

-- the value of a digit, decimal or hexadecimal
abbrev pub digit : ℕ → ℕ
digit b = if nat_le b 57 then b - 48 else (if nat_le b 70 then b - 55 else b - 87)

-- the value of the digits behind a number
abbrev pub value_from : ℕ → ℕ → Bytes → ℕ
value_from base number [] = number
value_from base number (b ∷ z) = value_from base (number * base + digit b) z

-- ---- integer constants (6.4.4.1)

-- u or U, and l or L
abbrev pub is_unsigned_letter : ℕ → Bool
is_unsigned_letter b = b == 117 || b == 85

abbrev pub is_long_letter : ℕ → Bool
is_long_letter b = b == 108 || b == 76

-- what stands before the suffix
abbrev pub before_suffix : Bytes → Bytes
before_suffix [] = []
before_suffix (b ∷ z) = if is_unsigned_letter b || is_long_letter b then [] else b ∷ before_suffix z

-- behind `0x` the digits are hexadecimal, behind another `0` octal
abbrev pub is_hexadecimal : Bytes → Bool
is_hexadecimal z = slice_index z 0 == 48 && (slice_index z 1 == 120 || slice_index z 1 == 88)

abbrev pub is_decimal : Bytes → Bool
is_decimal z = not (slice_index z 0 == 48)

-- the value
abbrev pub magnitude : Bytes → ℕ
magnitude z =
    if is_hexadecimal z then value_from 16 0 (before_suffix (drop 2 z))
    else value_from (if is_decimal z then 10 else 8) 0 (before_suffix z)

-- The first type of the list that can represent the value (p5). In the list are the types without a sign unless the constant is
-- decimal without a u, those with a sign unless it has a u, and those of rank int unless it has an l. A decimal constant
-- past them all is an unsigned long, where C names no type.
abbrev pub first_type : Bool → Bool → Bool → ℕ → IntType
first_type is_decimal has_u has_l n =
    if not has_l && not has_u && holds int (pos n) then int
    else (if not has_l && (has_u || not is_decimal) && holds unsigned_int (pos n) then unsigned_int
    else (if not has_u && holds long (pos n) then long
    else unsigned_long))

abbrev pub integer_type : Bytes → IntType
integer_type z = first_type (is_decimal z) (list_any is_unsigned_letter z) (list_any is_long_letter z) (magnitude z)

abbrev pub integer_number : Bytes → Option ℤ
integer_number z = kept (pos (magnitude z))

-- ---- character constants (6.4.4.4)

-- behind a `\`: the character of the one letter's escape sequences, as a 7, n 10 and t 9; that of any other is itself
abbrev pub simple : ℕ → ℕ
simple b =
    if b == 97 then 7 else (if b == 98 then 8 else (if b == 102 then 12 else (if b == 110 then 10 else (if b == 114 then 13
    else (if b == 116 then 9 else (if b == 118 then 11 else b))))))

-- the digits up to the closing quote
abbrev pub before_quote : Bytes → Bytes
before_quote [] = []
before_quote (b ∷ z) = if b == 39 then [] else b ∷ before_quote z

-- the value of an escape sequence behind its `\`
abbrev pub escaped : Bytes → ℕ
escaped z =
    if slice_index z 0 == 120 then value_from 16 0 (before_quote (drop 1 z))
    else (if nat_le 48 (slice_index z 0) && nat_le (slice_index z 0) 55 then value_from 8 0 (before_quote z)
    else simple (slice_index z 0))

-- the value of the character behind the opening quote
abbrev pub character : Bytes → ℕ
character z = if slice_index z 1 == 92 then escaped (drop 2 z) else slice_index z 1

-- It has the type int, and the value of a char (p10). A value past that of an unsigned char is none (p9).
abbrev pub character_number : Bytes → Option ℤ
character_number z = if nat_le (character z) 255 then Some (converted char (pos (character z))) else None
