-- The values of a type, their representations, and conversion (C11 6.2.6.2, 6.3.1.3).
use Rattle.std.specs.Prelude.{ℕ, ◌-◌, ◌^◌, min, Bool, ◌&&◌, if◌then◌else◌, nat_le, nat_lt, Option, Some, None, ℤ, pos, negsuc, ◌-ℤ◌, unsigned_abs}
use Rattle.std.specs.Int.{int_rem_euclid}
use Rattle.c_arithmetic.specs.declared.types.IntType.{IntType}
use Rattle.c_arithmetic.specs.Types.{long}

-- how many bits represent a value: no type has more than 64
abbrev pub bits : IntType → ℕ
bits t = min t.width 64

-- how many values there are
abbrev pub modulus : IntType → ℕ
modulus t = 2 ^ bits t

-- how many of them are negative, where there is a sign (two's complement)
abbrev pub half : IntType → ℕ
half t = 2 ^ (bits t - 1)

-- the number is a value of the type: from 0 to 2^w - 1, or from -2^(w - 1) to 2^(w - 1) - 1
abbrev pub holds : IntType → ℤ → Bool
holds t (pos n) = nat_lt n (if t.signed then half t else modulus t)
holds t (negsuc n) = t.signed && nat_lt n (half t)

-- the bits that represent the number, modulo 2^w
abbrev pub residue : IntType → ℤ → ℕ
residue t z = unsigned_abs (int_rem_euclid z (pos (modulus t)))

-- the value that bits represent
abbrev pub represented : IntType → ℕ → ℤ
represented t n = if t.signed && nat_le (half t) n then pos n -ℤ pos (modulus t) else pos n

-- Conversion to the type (6.3.1.3): the value of the type that is equal to the number modulo 2^w. For a type with a sign that
-- can't represent the number, C leaves this to the implementation (p3).
abbrev pub converted : IntType → ℤ → ℤ
converted t z = represented t (residue t z)

-- a value that counts: it lies within 64 bits with a sign
abbrev pub kept : ℤ → Option ℤ
kept z = if holds long z then Some z else None
