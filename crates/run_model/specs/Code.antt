-- A program as the layers below give it: positions, edges, and what is done on the way along an edge.
use Rattle.std.specs.Prelude.{ℕ, suc, ℤ, List, [], ◌∷◌, Option, Some, None, Bool, true, false, nat_eq, option_map, slice_get}
use Rattle.base_core.specs.declared.id.Pos.{Pos}
use Rattle.base_core.specs.declared.id.Phase.{Phase}
use Rattle.base_core.specs.declared.id.Phase.TheVariants.{Enter, Leave}
use Rattle.posix_table.specs.declared.kind.Param.{Param}
use Rattle.posix_table.specs.declared.row.Row.{Row}
use Rattle.run_model.specs.Kinds.{Kind, Void, Member}
use Rattle.run_model.specs.Arithmetic.{Operator, Sign}

-- ---- positions and edges

abbrev pub at : ℕ → Phase → Pos
at n phase = record { node = record { 0 = n }; phase = phase }

-- when control goes along an edge (C11 6.8.4, 6.8.5, 6.5.13 to 6.5.15)
pub data Guard : Type 0 where
  Always : Guard
  Nonzero : (n : ℕ) → Guard
  Zero : (n : ℕ) → Guard
  Equal : (n : ℕ) (i : ℤ) → Guard
  NoneOf : (n : ℕ) (cases : List ℤ) → Guard

pub record Edge : Type 0 where
  pub to : Pos
  pub guard : Guard

-- ---- expressions

-- what an expression that stands for a place says of it (C11 6.3.2.1p1)
pub data Place : Type 0 where
  Variable : (v : ℕ) → Place
  -- a string literal
  Text : (n : ℕ) → Place
  ErrnoPlace : Place
  -- `a.m`
  MemberOf : (a : ℕ) (m : Member) → Place
  -- `*a`, `a[i]`, `a->m`
  Behind : (a : ℕ) (m : Member) → Place

-- how an expression's value comes from those of its operands
pub data Operation : Type 0 where
  Constant : (i : ℤ) → Operation
  -- a constant of the system that isn't known, or a value of its own
  Free : Operation
  SizeOf : Operation
  FunctionName : (f : ℕ) → Operation
  -- stdin, stdout, stderr
  LibraryObject : (k : ℕ) → Operation
  -- in brackets, the right of a comma, `*` before a function
  Keep : (a : ℕ) → Operation
  -- a cast, and the branch of `?:` that was taken
  Convert : (a : ℕ) → Operation
  AddressOf : (a : ℕ) → Operation
  Not : (a : ℕ) → Operation
  -- `&&` and `||` by way of their right operand
  IsNonzero : (a : ℕ) → Operation
  One : (s : Sign) (a : ℕ) → Operation
  Two : (o : Operator) (a b : ℕ) → Operation

-- the second operand of a compound assignment; that of `++` and `--` is 1
pub data Operand : Type 0 where
  OfNode : (b : ℕ) → Operand
  OfOne : Operand

-- the initialiser of a declared name (C11 6.7.9)
pub data Init : Type 0 where
  NoInit : Init
  FromValue : (e : ℕ) → Init
  -- a list for a struct sigaction; of two parts for the handler the last counts
  FromParts : (handler mask flags : Option ℕ) → Init
  -- the expressions of another list, and a string for an array
  FromList : (es : List ℕ) → Init

-- ---- steps

-- what is done on the way from one position to the next
pub data Action : Type 0 where
  Pass : Action
  -- n takes a value
  Take : (n : ℕ) (op : Operation) → Action
  -- n takes the object of its place, which is not read
  Designate : (n : ℕ) → Action
  Read : (n : ℕ) → Action
  -- `t = b`
  Assign : (n t b : ℕ) → Action
  -- compound assignment, `++` and `--`; `old`: the value of n is that from before
  Change : (n t : ℕ) (o : Operator) (b : Operand) (old : Bool) → Action
  Declare : (v : ℕ) (init : Init) → Action
  -- the function f takes the value of e, as its result
  Return : (f e : ℕ) → Action
  -- into the Leave of the function f
  Close : (f : ℕ) → Action
  -- into In0 of a library function, from there to Leave, and from In1 of fork to Leave
  Into : (call : ℕ) → Action
  Out : (call : ℕ) → Action
  Forked : (call : ℕ) → Action
  -- along the edges from In0 to Leave of a user function and to In1 of fork no frame goes by itself
  Apart : Action

-- ---- calls

pub data Callee : Type 0 where
  Named : (f : ℕ) → Callee
  Through : (n : ℕ) → Callee

-- a call of a library function: its row and the place of that in the table, a letter for each argument, and the arguments. For the letters
-- `y` and `*` stands that of the argument's type: an integer, or a pointer that is written or read
pub record LibraryCall : Type 0 where
  pub row : Row
  pub number : ℕ
  pub letters : List Param
  pub args : List ℕ

pub data CallOf : Type 0 where
  NoCall : CallOf
  User : (callee : Callee) (args : List ℕ) → CallOf
  Library : (call : LibraryCall) → CallOf

-- ---- functions and variables

pub record Parameter : Type 0 where
  -- where it has a name
  pub variable : Option ℕ
  pub kind : Kind

pub record Function : Type 0 where
  pub node : ℕ
  pub result : Kind
  pub parameters : List Parameter
  -- its automatic variables, its parameters with names among them
  pub locals : List ℕ

pub record VariableInfo : Type 0 where
  pub kind : Kind
  -- declared const
  pub constant : Bool
  -- declared volatile sig_atomic_t
  pub flag : Bool

-- where an object comes from: a variable, a string literal, a call that allocates, the library, the arrival of a signal at a function,
-- main's arguments
pub data Origin : Type 0 where
  OfVariable : (v : ℕ) → Origin
  OfText : (n : ℕ) → Origin
  Allocated : (call : ℕ) → Origin
  OfLibrary : (k : ℕ) → Origin
  OfArrival : (f : ℕ) → Origin
  OfArguments : Origin

abbrev pub same_origin : Origin → Origin → Bool
same_origin (OfVariable v) (OfVariable w) = nat_eq v w
same_origin (OfText m) (OfText n) = nat_eq m n
same_origin (Allocated m) (Allocated n) = nat_eq m n
same_origin (OfLibrary j) (OfLibrary k) = nat_eq j k
same_origin (OfArrival f) (OfArrival g) = nat_eq f g
same_origin OfArguments OfArguments = true
same_origin _ _ = false

-- a value in the initialiser of a static object; any value where C leaves it undefined
pub data StaticValue : Type 0 where
  ConstantInt : (i : ℤ) → StaticValue
  ConstantAny : (k : Kind) → StaticValue
  ConstantAddress : (o : Origin) → StaticValue
  ConstantFunction : (f : ℕ) → StaticValue

pub data Initial : Type 0 where
  ZeroInitial : Initial
  InitialWord : (c : StaticValue) → Initial
  InitialAction : (handler flags : StaticValue) → Initial
  InitialItems : (cs : List StaticValue) → Initial

-- an object that is there from the start: a static variable, a string literal, an object of the library, the one of main's arguments
-- where main has a parameter that points to it
pub record Static : Type 0 where
  pub origin : Origin
  pub kind : Kind
  pub initial : Initial

pub record Code : Type 0 where
  -- the function f has the position
  pub has : (f : ℕ) → Pos → Bool
  pub next : Pos → List Edge
  pub action : (from to : Pos) → Action
  pub kind : (n : ℕ) → Kind
  pub place : (n : ℕ) → Option Place
  pub pending : (n : ℕ) → Pos → Bool
  pub call : (n : ℕ) → CallOf
  pub functions : List Function
  pub main : ℕ
  -- the type of the function f matches that to which the callee n points
  pub matches : (n f : ℕ) → Bool
  pub variable : (v : ℕ) → VariableInfo
  pub statics : List Static
  -- the row of fork in the table is unsafe, as in the later profile
  pub fork_unsafe : Bool

abbrev pub no_function : Function
no_function = record { node = 0; result = Void; parameters = []; locals = [] }

abbrev pub function_or : Option Function → Function
function_or None = no_function
function_or (Some f) = f

-- the function of that number
abbrev pub function : Code → ℕ → Function
function code f = function_or (slice_get code.functions f)

abbrev pub is_there : Option Function → Bool
is_there None = false
is_there (Some f) = true

abbrev pub is_function : Code → ℕ → Bool
is_function code f = is_there (slice_get code.functions f)

abbrev pub enter_of : Code → ℕ → Pos
enter_of code f = at (function code f).node Enter

abbrev pub leave_of : Code → ℕ → Pos
leave_of code f = at (function code f).node Leave

-- the place of the object of that origin among the static ones: it is its number too
abbrev pub found_if : Bool → Option ℕ → Option ℕ
found_if true later = Some 0
found_if false later = option_map suc later

abbrev pub place_of : List Static → Origin → Option ℕ
place_of [] origin = None
place_of (s ∷ ss) origin = found_if (same_origin s.origin origin) (place_of ss origin)

abbrev pub static : Code → Origin → Option ℕ
static code origin = place_of code.statics origin
