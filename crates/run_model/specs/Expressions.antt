-- The value of an expression from those of its operands (C11 6.5).
use Rattle.std.specs.Prelude.{◌≡◌, ℕ, ℤ, pos, ◌≤ℤ◌, Some, Bool, true, false, not, nat_eq}
use Rattle.c_arithmetic.specs.declared.types.IntType.{IntType}
use Rattle.c_arithmetic.specs.Types.{int, long}
use Rattle.run_model.specs.Kinds.{Kind, Number, Pointer, Part, ArrayKind, InRange}
use Rattle.run_model.specs.Values.{Word, Int, Ptr, Fn, Value, Scalar, At, AnyOf, same_int, truth, is_zero, is_value}
use Rattle.run_model.specs.Arithmetic.{Operator, Equals, Orders, Order, Adds, Subtracts, Sign, equality, of_one, of_two, result_type}
use Rattle.run_model.specs.Conversions.{Converts}
use Rattle.run_model.specs.Code.{Code, OfLibrary, Operation, Constant, Free, SizeOf, FunctionName, LibraryObject, Keep, Convert, AddressOf, Not, IsNonzero, One, Two, static}
use Rattle.run_model.specs.Places.{Local}

abbrev pub same_word : Word → Word → Bool
same_word (Int i) (Int j) = same_int i j
same_word (Fn f) (Fn g) = nat_eq f g
same_word _ _ = false

abbrev pub are_pointers : Word → Word → Bool
are_pointers (Ptr o) (Ptr p) = true
are_pointers _ _ = false

-- both types are integer types, and both words integers: an int may hold a pointer that was read from a part of an object
abbrev pub are_integers : Kind → Word → Kind → Word → Bool
are_integers (Number s) (Int i) (Number t) (Int j) = true
are_integers _ _ _ _ = false

abbrev pub are_numbers : Kind → Kind → Bool
are_numbers (Number s) (Number t) = true
are_numbers _ _ = false

-- the type of an operator's result: int for comparisons (6.5.8p6, 6.5.9p3), for a pointer and an integer a pointer, for two pointers long (6.5.6p8, p9)
abbrev pub arithmetic_kind : Operator → Kind → Kind → Kind
arithmetic_kind op (Number s) (Number t) = Number (result_type op s t)
arithmetic_kind Subtracts Pointer (Number t) = Pointer
arithmetic_kind Subtracts ArrayKind (Number t) = Pointer
arithmetic_kind Subtracts k m = Number long
arithmetic_kind op k m = Pointer

abbrev pub kind_between : Operator → Kind → Kind → Kind
kind_between (Equals n) k m = Number int
kind_between (Orders o) k m = Number int
kind_between op k m = arithmetic_kind op k m

-- an operator on two words of these types. A pointer designates a whole object, so an integer that is added leaves it; a pointer differs from
-- every integer and function, and of two pointers neither equality nor order is known
pub data Gives : Operator → Kind → Word → Kind → Word → Value → Type 0 where
  integers : {op : Operator} {s t : IntType} {i j r : ℤ} → of_two op s i t j ≡ Some r → Gives op (Number s) (Int i) (Number t) (Int j) (Scalar (Int r))
  equal : {negated : Bool} {k m : Kind} {x y : Word} → are_integers k x m y ≡ false → are_pointers x y ≡ false → Gives (Equals negated) k x m y (truth (equality negated (same_word x y)))
  equal_pointers : (b : Bool) {negated : Bool} {k m : Kind} {o p : ℕ} → Gives (Equals negated) k (Ptr o) m (Ptr p) (truth b)
  orders : (b : Bool) {o : Order} {k m : Kind} {x y : Word} → are_integers k x m y ≡ false → Gives (Orders o) k x m y (truth b)
  adds : {k m : Kind} {o : ℕ} {j : ℤ} → Gives Adds k (Ptr o) m (Int j) (Scalar (Ptr o))
  adds_other : {k m : Kind} {o : ℕ} {i : ℤ} → Gives Adds k (Int i) m (Ptr o) (Scalar (Ptr o))
  adds_integers : {k m : Kind} {i j : ℤ} {v : Value} → are_numbers k m ≡ false → AnyOf (kind_between Adds k m) v → Gives Adds k (Int i) m (Int j) v
  subtracts : {k m : Kind} {o : ℕ} {j : ℤ} → Gives Subtracts k (Ptr o) m (Int j) (Scalar (Ptr o))
  subtracts_pointers : {k m : Kind} {o p : ℕ} {v : Value} → AnyOf (kind_between Subtracts k m) v → Gives Subtracts k (Ptr o) m (Ptr p) v
  subtracts_integers : {k m : Kind} {i j : ℤ} {v : Value} → are_numbers k m ≡ false → AnyOf (kind_between Subtracts k m) v → Gives Subtracts k (Int i) m (Int j) v

-- the value of an expression of that kind. Control goes on to `&&` and `||` from their right operand only where it decides (6.5.13p4)
pub data Evaluates (code : Code) (l : Local) (k : Kind) : Operation → Value → Type 0 where
  constant : {i : ℤ} → Evaluates code l k (Constant i) (Scalar (Int i))
  free : {v : Value} → AnyOf k v → Evaluates code l k Free v
  size : {i : ℤ} → InRange long i → pos 1 ≤ℤ i → Evaluates code l k SizeOf (Scalar (Int i))
  function : {f : ℕ} → Evaluates code l k (FunctionName f) (Scalar (Fn f))
  library : {n o : ℕ} → static code (OfLibrary n) ≡ Some o → Evaluates code l k (LibraryObject n) (Scalar (Ptr o))
  keep : {a : ℕ} → Evaluates code l k (Keep a) (l.vals a)
  convert : {a : ℕ} {v : Value} → is_value (l.vals a) ≡ true → Converts (code.kind a) k (l.vals a) v → Evaluates code l k (Convert a) v
  address : {a o : ℕ} {part : Part} → l.vals a ≡ At o part → Evaluates code l k (AddressOf a) (Scalar (Ptr o))
  array_address : {a o : ℕ} → code.kind a ≡ ArrayKind → l.vals a ≡ Scalar (Ptr o) → Evaluates code l k (AddressOf a) (Scalar (Ptr o))
  negates : {a : ℕ} → Evaluates code l k (Not a) (truth (is_zero (l.vals a)))
  is_nonzero : {a : ℕ} → Evaluates code l k (IsNonzero a) (truth (not (is_zero (l.vals a))))
  one : {s : Sign} {a : ℕ} {t : IntType} {i r : ℤ} → code.kind a ≡ Number t → l.vals a ≡ Scalar (Int i) → of_one s t i ≡ Some r → Evaluates code l k (One s a) (Scalar (Int r))
  two : {op : Operator} {a b : ℕ} {x y : Word} {v : Value} → l.vals a ≡ Scalar x → l.vals b ≡ Scalar y → Gives op (code.kind a) x (code.kind b) y v → Evaluates code l k (Two op a b) v
