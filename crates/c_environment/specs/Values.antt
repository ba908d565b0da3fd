-- Which built-in names have a value of int.
use Rattle.std.specs.Prelude.{Bool, true, nat_le}
use Rattle.c_builtins.specs.declared.names.BuiltIn.{BuiltIn}
use Rattle.c_builtins.specs.declared.names.BuiltIn.TheVariants as b

-- its number, where it has one, is a value of int
abbrev pub fits_int : BuiltIn → Bool
fits_int (b.Number k) = nat_le k 2147483647
fits_int _ = true
