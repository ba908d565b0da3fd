-- Conversion of a value from one type to another (C11 6.3).
use Rattle.std.specs.Prelude.{◌≡◌, Bool, true, false}
use Rattle.c_arithmetic.specs.declared.types.IntType.{IntType}
use Rattle.c_arithmetic.specs.Conversion.{converted}
use Rattle.run_model.specs.Kinds.{Kind, Void, Number, is_address}
use Rattle.run_model.specs.Values.{Int, Value, Scalar, NoValue, AnyOf}

-- an integer that is brought into an integer type (6.3.1.3)
abbrev pub wrapped : IntType → Value → Value
wrapped t (Scalar (Int i)) = Scalar (Int (converted t i))
wrapped t v = v

-- from a pointer any integer (6.3.2.3p6)
abbrev pub ToNumber : Bool → IntType → Value → Value → Type 0
ToNumber true t v w = AnyOf (Number t) w
ToNumber false t v w = w ≡ wrapped t v

-- the value v of a type, converted to another one, is w. A pointer keeps what it is made of
abbrev pub Converts : Kind → Kind → Value → Value → Type 0
Converts from Void v w = w ≡ NoValue
Converts from (Number t) v w = ToNumber (is_address from) t v w
Converts from _ v w = w ≡ v
