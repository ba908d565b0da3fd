-- What the definitions say where it is easily missed, each beside the program where it shows.
use Rattle.std.specs.Prelude.{◌≡◌, ◌≢◌, ℕ, ℤ, pos, negsuc, List, [], ◌∷◌, Bool, true, false}
use Rattle.posix_table.specs.declared.kind.Param.TheVariants as letter
use Rattle.posix_table.specs.declared.kind.Effect.{Effect}
use Rattle.c_arithmetic.specs.Types.{int, long}
use Rattle.run_model.specs.Signals.{sigill, sigtrap}
use Rattle.run_model.specs.Kinds.{Kind, Void, Number, Pointer, ArrayKind, Whole, Part}
use Rattle.run_model.specs.Values.{Int, Ptr, Fn, Value, Scalar, At, NoValue, Item, AWord, zero_word}
use Rattle.run_model.specs.Arithmetic.{Equals, Subtracts}
use Rattle.run_model.specs.Conversions.{Converts}
use Rattle.run_model.specs.Code.{Code, LibraryCall, Keep, AddressOf, ConstantAny, FromValue, function}
use Rattle.run_model.specs.Objects.{Content, OfItems, Reads}
use Rattle.run_model.specs.World.{Setter, Disposition, Shared}
use Rattle.run_model.specs.Places.{Local, stands_as}
use Rattle.run_model.specs.Expressions.{Gives, Evaluates}
use Rattle.run_model.specs.Acts.{Declares, Closes}
use Rattle.run_model.specs.Arguments.{write_of, NoWrite}
use Rattle.run_model.specs.LibraryWrites.{Writes}
use Rattle.run_model.specs.Arrivals.{Defers}
use Rattle.run_model.specs.Forks.{prepares, parents, present}
use Rattle.run_model.specs.Start.{IsConstant}
use Rattle.run_model.specs.References.{behind_argument}

-- the disposition that sigaction sets with these flags
abbrev pub with_flags : Disposition → ℤ → Disposition
with_flags d g = record d { flags = g; by = Setter.BySigaction }

pub record Cases : Type 0 where
  -- sa.sa_flags = ~SA_RESETHAND;
  -- the number -5 has the bit of SA_NODEFER and not that of SA_RESETHAND: the handler may interrupt itself, and stays
  pub not_resethand : (sig : ℕ) (d : Disposition) (blocks resets : Bool) → Defers sig (with_flags d (negsuc 4)) blocks resets → (blocks ≡ false) × (resets ≡ false)
  -- sa.sa_flags = ~(SA_NODEFER | SA_RESETHAND);  sa.sa_flags = -8;
  -- neither bit is set in -7, nor in -8: the signal is blocked
  pub neither_flag : (sig : ℕ) (d : Disposition) (blocks resets : Bool) → Defers sig (with_flags d (negsuc 6)) blocks resets → (blocks ≡ true) × (resets ≡ false)
  pub minus_eight : (sig : ℕ) (d : Disposition) (blocks resets : Bool) → Defers sig (with_flags d (negsuc 7)) blocks resets → (blocks ≡ true) × (resets ≡ false)
  -- sa.sa_flags = SA_RESETHAND;
  -- the signal may be blocked or not; its disposition is reset, but of SIGILL and SIGTRAP
  pub resethand : (blocks : Bool) (d : Disposition) → Defers 9 (with_flags d (pos 4)) blocks true
  pub resethand_of_sigill : (d : Disposition) (blocks resets : Bool) → Defers sigill (with_flags d (pos 4)) blocks resets → resets ≡ false
  pub resethand_of_sigtrap : (d : Disposition) (blocks resets : Bool) → Defers sigtrap (with_flags d (pos 4)) blocks resets → resets ≡ false
  -- signal(SIGINT, h);
  -- of the handler both are free
  pub by_signal : (sig : ℕ) (d : Disposition) (blocks resets : Bool) → d.by ≡ Setter.BySignal → Defers sig d blocks resets
  -- struct s { int a; int *p; } x;  x.p = &g;  int t = x.a;  if (t != 0) ..
  -- an int that holds a pointer isn't 0
  pub pointer_in_int : (o : ℕ) → Gives (Equals true) (Number int) (Ptr o) (Number int) (Int (pos 0)) (Scalar (Int (pos 1)))
  pub pointer_in_int_is_not_zero : (o : ℕ) (v : Value) → Gives (Equals true) (Number int) (Ptr o) (Number int) (Int (pos 0)) v → v ≡ Scalar (Int (pos 1))
  -- int a = 3, b = 2;  a - b
  -- of two integers there is one difference
  pub difference : (v : Value) → Gives Subtracts (Number int) (Int (pos 3)) (Number int) (Int (pos 2)) v → v ≡ Scalar (Int (pos 1))
  -- x.f = f;  read(0, x.p, 4)
  -- an argument behind which integers are written and that is a function writes nothing
  pub function_as_buffer : (call : LibraryCall) (l : Local) (s : Shared) (k f : ℕ) → Writes call l (record { place = k; letter = letter.Write; value = Scalar (Fn f) } ∷ []) s s
  -- fcntl(0, 0, x.a), where x.a is an int that holds a pointer
  -- the letter goes by the argument's type: behind an integer nothing is referred to, and nothing written
  pub integer_argument : (e : Effect) (v : Value) → behind_argument e letter.Int v ≡ []
  pub integer_argument_written : (call : LibraryCall) (k : ℕ) → write_of call k letter.Int ≡ NoWrite
  -- typedef int A[2];  A f(void) { }
  -- a function whose result has an array type gives any integer in place of a pointer
  pub array_result : (code : Code) (f : ℕ) → f ≢ code.main → (function code f).result ≡ ArrayKind → Closes code f NoValue (Scalar zero_word)
  -- void *p;  p[0];
  -- is a read, of no value
  pub read_of_void : (x : Content) (part : Part) → Reads x part Void NoValue
  -- long x = (long)&a;
  -- begins with any value of its own type, past those of int
  pub undefined_long : (code : Code) → IsConstant code (ConstantAny (Number long)) (Int (pos 9223372036854775807))
  -- int (*p)(void) = f, where f returns a long;  p()
  -- the result is converted: 4294967296 comes back as 0
  pub result_of_another_width : (v : Value) → Converts (Number long) (Number int) (Scalar (Int (pos 4294967296))) v → v ≡ Scalar (Int (pos 0))
  -- char b[4];  read(0, (b), 4);  read(0, (0, b), 4);  read(0, &b, 4);
  -- an array has a pointer to its object as value, in brackets, behind a comma and below `&` too
  pub array : (o : ℕ) → stands_as ArrayKind (At o Whole) ≡ Scalar (Ptr o)
  pub array_in_brackets : (code : Code) (l : Local) (k : Kind) (a o : ℕ) → l.vals a ≡ Scalar (Ptr o) → (v : Value) → Evaluates code l k (Keep a) v → v ≡ Scalar (Ptr o)
  pub array_address : (code : Code) (l : Local) (k : Kind) (a o : ℕ) → code.kind a ≡ ArrayKind → l.vals a ≡ Scalar (Ptr o) → Evaluates code l k (AddressOf a) (Scalar (Ptr o))
  -- int (*a)[1] ..; a list with an initialiser begins empty: what it held before isn't there any more
  pub list_begins_empty : (code : Code) (l : Local) (e : ℕ) (x y : Content) (xs : List Item) → l.vals e ≡ Scalar zero_word → code.kind e ≡ Pointer
      → Declares code l ArrayKind (FromValue e) (OfItems xs) y → y ≡ OfItems (AWord zero_word ∷ [])
  -- pthread_atfork(p, 0, 0)
  -- registers p as prepare handler, and no other
  pub one_fork_handler : (p : ℕ) → (present (prepares (record { prepare = Fn p; parent = zero_word; child = zero_word } ∷ []) []) ≡ Fn p ∷ [])
      × (present (parents (record { prepare = Fn p; parent = zero_word; child = zero_word } ∷ [])) ≡ [])
