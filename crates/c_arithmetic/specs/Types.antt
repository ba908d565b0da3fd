-- Integer types and the conversions between them that don't look at values (C11 6.2.5, 6.3.1.1, 6.3.1.8).
use Rattle.std.specs.Prelude.{true, false, if◌then◌else◌, nat_le, nat_lt}
use Rattle.c_arithmetic.specs.declared.types.IntType.{IntType}

-- an int has 32 bits, a long and a long long have 64, a char has 8 and a sign (5.2.4.2.1)
abbrev pub int : IntType
int = record { width = 32; signed = true }

abbrev pub unsigned_int : IntType
unsigned_int = record { width = 32; signed = false }

abbrev pub long : IntType
long = record { width = 64; signed = true }

abbrev pub unsigned_long : IntType
unsigned_long = record { width = 64; signed = false }

abbrev pub char : IntType
char = record { width = 8; signed = true }

-- Integer promotion (6.3.1.1p2): a type of lower rank than int becomes int, which can represent all its values.
abbrev pub promoted : IntType → IntType
promoted t = if nat_lt t.width 32 then int else t

-- of two with a sign, or two without, the one of greater rank
abbrev pub of_greater_rank : IntType → IntType → IntType
of_greater_rank s t = if nat_lt s.width t.width then t else s

-- Of one without a sign and one with: the former if its rank isn't less, else the latter, which can represent all its values.
-- (Where it can't, as of unsigned long and long long, the former is the same as the unsigned type that corresponds to it.)
abbrev pub of_mixed : IntType → IntType → IntType
of_mixed u s = if nat_le s.width u.width then u else s

-- the common type of promoted types
abbrev pub usual : IntType → IntType → IntType
usual s t =
    if s.signed then (if t.signed then of_greater_rank s t else of_mixed t s)
    else (if t.signed then of_mixed s t else of_greater_rank s t)

-- The usual arithmetic conversions (6.3.1.8p1): the type that both operands and the result have.
abbrev pub common : IntType → IntType → IntType
common s t = usual (promoted s) (promoted t)
