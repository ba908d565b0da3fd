-- Integer constants (C11 6.4.4.1).
use Rattle.std.specs.Prelude.{ℕ, ◌≡◌, ◌+◌, ◌-◌, ◌^◌, Bool, true, ◌&&◌, ◌||◌, if◌then◌else◌, ◌==◌, nat_lt, take, drop, slice_index}
use Rattle.std.specs.Char.{is_ascii_digit}
use Rattle.base_core.specs.declared.token.Class.TheVariants.{Integer}
use Rattle.c_lexer.specs.Bytes.{Text, is_in, run}
use Rattle.c_lexer.specs.Numbers.{value}
use Rattle.c_lexer.specs.declared.bytes.ByteClass.{ByteClass}
use Rattle.c_lexer.specs.declared.bytes.ByteClass.TheVariants.{Word, Digit, Octal, Hexadecimal}
use Rattle.c_lexer.specs.declared.item.Item.{Item}
use Rattle.c_lexer.specs.declared.item.Item.TheVariants.{Token, Fault}
use Rattle.c_lexer.specs.declared.item.Refusal.TheVariants.{BadByte, NumberTooLarge}

-- the text begins with a digit
abbrev pub begins : Text → Type 0
begins z = is_ascii_digit (slice_index z 0) ≡ true

-- hexadecimal-prefix hexadecimal-digit
abbrev pub is_hexadecimal : Text → Bool
is_hexadecimal z = slice_index z 0 == 48 && (slice_index z 1 == 120 || slice_index z 1 == 88) && is_in Hexadecimal (slice_index z 2)

-- how many bytes stand before the digits
abbrev pub prefix : Text → ℕ
prefix z = if is_hexadecimal z then 2 else 0

abbrev pub digits_class : Text → ByteClass
digits_class z = if is_hexadecimal z then Hexadecimal else (if slice_index z 0 == 48 then Octal else Digit)

abbrev pub base : Text → ℕ
base z = if is_hexadecimal z then 16 else (if slice_index z 0 == 48 then 8 else 10)

-- the digits and what follows them
abbrev pub digits : Text → Text
digits z = drop (prefix z) z

-- how many digits there are
abbrev pub count : Text → ℕ
count z = run (digits_class z) (digits z)

-- unsigned-suffix
abbrev pub unsigned : Text → ℕ
unsigned z = if slice_index z 0 == 117 || slice_index z 0 == 85 then 1 else 0

-- long-suffix or long-long-suffix
abbrev pub long : Text → ℕ
long z = if slice_index z 0 == 108 || slice_index z 0 == 76 then (if slice_index z 1 == slice_index z 0 then 2 else 1) else 0

-- the two in either order
abbrev pub suffix : Text → ℕ
suffix z = if unsigned z == 1 then 1 + long (drop 1 z) else long z + unsigned (drop (long z) z)

abbrev pub integer_len : Text → ℕ
integer_len z = prefix z + count z + suffix (drop (count z) (digits z))

-- a letter, a digit, `_` or `.`
abbrev pub spoils : ℕ → Bool
spoils b = is_in Word b || b == 46

-- The longest constant at the front. Its value fits 64 bits, and no letter, digit, `_` or `.` follows it directly.
unfoldable pub integer : Text → Item
integer z =
    let next = slice_index z (integer_len z) in
    if nat_lt (2 ^ 64 - 1) (value (base z) (take (count z) (digits z))) then Fault NumberTooLarge 0
    else (if spoils next then Fault BadByte (integer_len z)
    else Token Integer (integer_len z))
