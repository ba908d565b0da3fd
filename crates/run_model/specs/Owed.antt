-- What the layers below owe of a program: where its edges lead, and that the types of its nodes are C's.
use Rattle.std.specs.Prelude.{◌≡◌, ◌≢◌, ℕ, ◌<◌, ℤ, List, true, Contains}
use Rattle.std.specs.List.{AllByRecursion}
use Rattle.base_core.specs.declared.id.Pos.{Pos}
use Rattle.base_core.specs.declared.id.Phase.TheVariants.{In0, In1, Leave}
use Rattle.posix_table.specs.declared.kind.ResultKind.{ResultKind}
use Rattle.posix_table.specs.declared.kind.ResultKind.TheVariants as result
use Rattle.c_arithmetic.specs.declared.types.IntType.{IntType}
use Rattle.c_arithmetic.specs.Types.{int, unsigned_long, long, promoted}
use Rattle.run_model.specs.Kinds.{Kind, Void, Number, Pointer, FnPointer, InRange}
use Rattle.run_model.specs.Code.{Code, Edge, Operation, Constant, SizeOf, Keep, Not, IsNonzero, One, Two, Take, Callee, Named, User, LibraryCall, Library, Static, function, is_function, enter_of, at}
use Rattle.run_model.specs.Expressions.{kind_between}
use Rattle.run_model.specs.Forks.{copies_process}
use Rattle.run_model.specs.Start.{BeginsAs}
use Rattle.run_model.specs.Objects.{Content}

-- the number is a value of the kind, where that is one of integers
abbrev pub InKind : Kind → ℤ → Type 0
InKind (Number t) i = InRange t i
InKind _ i = Unit {0}

-- the type of an expression (C11 6.5): of a constant one that holds it, of sizeof unsigned long, in brackets that of the operand, of `!`, `&&`
-- and `||` int, of a sign the promoted type, of an operator with two operands that of its result
abbrev pub HasType : Code → ℕ → Operation → Type 0
HasType code n (Constant i) = InKind (code.kind n) i
HasType code n SizeOf = code.kind n ≡ Number unsigned_long
HasType code n (Keep a) = code.kind n ≡ code.kind a
HasType code n (Not a) = code.kind n ≡ Number int
HasType code n (IsNonzero a) = code.kind n ≡ Number int
HasType code n (One s a) = (t : IntType) → code.kind a ≡ Number t → code.kind n ≡ Number (promoted t)
HasType code n (Two o a b) = code.kind n ≡ kind_between o (code.kind a) (code.kind b)
HasType code n _ = Unit {0}

-- the type of a call of a library function
abbrev pub ResultType : ResultKind → Kind
ResultType result.Int = Number long
ResultType result.Nothing = Void
ResultType result.Never = Void
ResultType result.OldHandler = FnPointer
ResultType _ = Pointer

pub record IsCode (code : Code) : Type 0 where
  pub main : is_function code code.main ≡ true
  -- ---- positions
  pub enters : (f : ℕ) → is_function code f ≡ true → code.has f (enter_of code f) ≡ true
  pub edges : (f : ℕ) (p : Pos) (e : Edge) → code.has f p ≡ true → Contains (code.next p) e → code.has f e.to ≡ true
  -- a call of a user function leads on to its Leave, and one that copies the process to its In1
  pub calls : (f n : ℕ) (callee : Callee) (args : List ℕ) → code.call n ≡ User callee args → code.has f (at n In0) ≡ true → code.has f (at n Leave) ≡ true
  pub copies : (f n : ℕ) (call : LibraryCall) → code.call n ≡ Library call → copies_process call.row.effect ≡ true → code.has f (at n In0) ≡ true → code.has f (at n In1) ≡ true
  -- a function that is called by its name is there
  pub named : (n f : ℕ) (args : List ℕ) → code.call n ≡ User (Named f) args → is_function code f ≡ true
  -- ---- types
  pub widths : (n : ℕ) (t : IntType) → code.kind n ≡ Number t → 0 < t.width
  pub takes : (p q : Pos) (n : ℕ) (op : Operation) → code.action p q ≡ Take n op → HasType code n op
  pub results : (n : ℕ) (call : LibraryCall) → code.call n ≡ Library call → code.kind n ≡ ResultType call.row.result
  pub ids : (n : ℕ) (call : LibraryCall) → code.call n ≡ Library call → copies_process call.row.effect ≡ true → call.row.result ≡ result.Int
  pub functions : (f : ℕ) → code.kind (function code f).node ≡ (function code f).result
  pub main_result : (function code code.main).result ≡ Number int
  -- ---- objects
  -- a variable has a type that an object can have
  pub variables : (v : ℕ) → (code.variable v).kind ≢ Void
  -- the initialiser of a static object suits its type, and takes addresses of static objects alone
  pub statics : AllByRecursion (λ (s : Static). (x : Content) × BeginsAs code s x) code.statics
