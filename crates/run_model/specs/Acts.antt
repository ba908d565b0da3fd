-- What a step along an edge does within a frame: values, reads, assignments, declarations, returns (C11 6.5.16, 6.5.2.4, 6.5.3.1, 6.7.9,
-- 6.8.6.4, 6.9.1p12, 7.5).
use Rattle.std.specs.Prelude.{◌≡◌, ◌≢◌, ℕ, ℤ, pos, List, [], ◌∷◌, ◌++◌, Option, Some, None, Bool, true, cond}
use Rattle.c_arithmetic.specs.Types.{int}
use Rattle.run_model.specs.Signals.{Mask}
use Rattle.run_model.specs.Kinds.{Kind, Number, InRange, Part, Whole}
use Rattle.run_model.specs.Values.{Word, Int, Item, Value, Scalar, Signals, At, AtErrno, NoValue, Values, is_value, AnyOf, zero_word}
use Rattle.run_model.specs.Arithmetic.{Operator}
use Rattle.run_model.specs.Conversions.{Converts}
use Rattle.run_model.specs.Code.{Code, Operation, Operand, OfNode, OfOne, Init, NoInit, FromValue, FromParts, FromList, Action, Pass, Take, Designate, Read, Assign, Change, Declare, Return, Close, function}
use Rattle.run_model.specs.Objects.{Content, OfAction, OfItems, Object, items_of, read_as, Reads, Stores, Fresh}
use Rattle.run_model.specs.Places.{Env, Local, takes, wrote, writes, IsThere, designated, stands_as}
use Rattle.run_model.specs.Expressions.{Gives, kind_between, Evaluates}

-- ---- compound assignment, `++` and `--`

abbrev pub operand_kind : Code → Operand → Kind
operand_kind code (OfNode b) = code.kind b
operand_kind code OfOne = Number int

abbrev pub operand_value : Local → Operand → Value
operand_value l (OfNode b) = l.vals b
operand_value l OfOne = Scalar (Int (pos 1))

-- the new value, of the kind k, from the one before
pub record Changes (code : Code) (l : Local) (k : Kind) (op : Operator) (b : Operand) (before after : Value) : Type 0 where
  pub x : Word
  pub y : Word
  pub between : Value
  pub left : before ≡ Scalar x
  pub right : operand_value l b ≡ Scalar y
  pub gives : Gives op k x (operand_kind code b) y between
  pub back : Converts (kind_between op k (operand_kind code b)) k between after

-- what errno and sa_flags become by an assignment: of a pointer that an int holds any integer
abbrev pub IsErrno : Value → ℤ → Type 0
IsErrno (Scalar (Int i)) e = e ≡ i
IsErrno _ e = InRange int e

-- ---- declarations

abbrev pub WordOr : Values → Option ℕ → Word → Type 0
WordOr vals None w = w ≡ zero_word
WordOr vals (Some e) w = vals e ≡ Scalar w

abbrev pub SetOr : Values → Option ℕ → Mask → Type 0
SetOr vals None m = Unit {0}
SetOr vals (Some e) m = vals e ≡ Signals m

abbrev pub IsFlags : Code → Values → Option ℕ → ℤ → Type 0
IsFlags code vals None g = g ≡ pos 0
IsFlags code vals (Some e) g = (v : Value) × Converts (code.kind e) (Number int) (vals e) v × IsErrno v g

abbrev pub list_items : Values → List ℕ → List Item
list_items vals [] = []
list_items vals (e ∷ es) = list_items vals es ++ items_of (vals e)

-- an initialiser stores into an object that holds nothing yet: a list begins empty
abbrev pub emptied : Content → Content
emptied (OfItems xs) = OfItems []
emptied x = x

-- what the object of a declared name becomes. A missing part of a list is 0, and a missing set any set
pub data Declares (code : Code) (l : Local) (k : Kind) : Init → Content → Content → Type 0 where
  free : {x y : Content} → Fresh k y → Declares code l k NoInit x y
  from_value : {e : ℕ} {x y : Content} {v : Value} → Converts (code.kind e) k (l.vals e) v → Stores (emptied x) Whole k v y → Declares code l k (FromValue e) x y
  parts : {h m g : Option ℕ} {x : Content} {w : Word} {s : Mask} {i : ℤ} → WordOr l.vals h w → SetOr l.vals m s → IsFlags code l.vals g i → Declares code l k (FromParts h m g) x (OfAction w s i)
  list : {es : List ℕ} {x : Content} → Declares code l k (FromList es) x (OfItems (list_items l.vals es))

-- a declaration without initialiser writes nothing
abbrev pub declared : Init → Local → ℕ → Object → Content → Local
declared NoInit l o x y = record l { shared = record l.shared { objects = (wrote l.shared o x y).objects } }
declared _ l o x y = writes l o x y

-- ---- returns

-- the value of a function's node as it leaves: without a return that has a value, main gives 0 (5.1.2.2.3), another function any value
pub data Closes (code : Code) (f : ℕ) : Value → Value → Type 0 where
  returned : {v : Value} → v ≢ NoValue → Closes code f v v
  main : f ≡ code.main → Closes code f NoValue (Scalar (Int (pos 0)))
  other : {v : Value} → f ≢ code.main → AnyOf (function code f).result v → Closes code f NoValue v

-- errno is an int (7.5p2)
pub data Does (code : Code) (env : Env) : Action → Local → Local → Type 0 where
  passes : {l : Local} → Does code env Pass l l
  takes_value : {n : ℕ} {op : Operation} {l : Local} {v : Value} → Evaluates code l (code.kind n) op v → Does code env (Take n op) l (takes l n v)
  designates : {n : ℕ} {l : Local} {v : Value} → designated code env l n ≡ Some v → Does code env (Designate n) l (takes l n (stands_as (code.kind n) v))
  reads : {n o : ℕ} {part : Part} {l : Local} {x : Object} {v : Value} → designated code env l n ≡ Some (At o part) → l.shared.objects o ≡ Some x → Reads x.content part (code.kind n) v → Does code env (Read n) l (takes l n v)
  reads_errno : {n : ℕ} {l : Local} → designated code env l n ≡ Some AtErrno → Does code env (Read n) l (takes l n (read_as (code.kind n) (Int l.errno)))
  assigns : {n t b o : ℕ} {part : Part} {l : Local} {x : Object} {v : Value} {y : Content} → l.vals t ≡ At o part → IsThere l.shared o x → is_value (l.vals b) ≡ true → Converts (code.kind b) (code.kind n) (l.vals b) v → Stores x.content part (code.kind n) v y → Does code env (Assign n t b) l (takes (writes l o x y) n v)
  assigns_errno : (v : Value) {n t b : ℕ} {l : Local} {e : ℤ} → l.vals t ≡ AtErrno → is_value (l.vals b) ≡ true → Converts (code.kind b) (Number int) (l.vals b) v → IsErrno v e → Does code env (Assign n t b) l (takes (record l { errno = e }) n (read_as (code.kind n) (Int e)))
  changes : (v w : Value) {n t o : ℕ} {op : Operator} {b : Operand} {old : Bool} {part : Part} {l : Local} {x : Object} {y : Content} → l.vals t ≡ At o part → IsThere l.shared o x → Reads x.content part (code.kind n) v → Changes code l (code.kind n) op b v w → Stores x.content part (code.kind n) w y → Does code env (Change n t op b old) l (takes (writes l o x y) n (cond old v w))
  changes_errno : (w : Value) {n t : ℕ} {op : Operator} {b : Operand} {old : Bool} {l : Local} {e : ℤ} → l.vals t ≡ AtErrno → Changes code l (Number int) op b (Scalar (Int l.errno)) w → IsErrno w e → Does code env (Change n t op b old) l (takes (record l { errno = e }) n (read_as (code.kind n) (Int (cond old l.errno e))))
  declares : {v o : ℕ} {init : Init} {l : Local} {x : Object} {y : Content} → env.locals v ≡ Some o → l.shared.objects o ≡ Some x → Declares code l x.kind init x.content y → Does code env (Declare v init) l (declared init l o x y)
  returns : (v : Value) {f e : ℕ} {l : Local} → is_value (l.vals e) ≡ true → Converts (code.kind e) (function code f).result (l.vals e) v → Does code env (Return f e) l (takes l (function code f).node v)
  closes : {f : ℕ} {l : Local} {v : Value} → Closes code f (l.vals (function code f).node) v → Does code env (Close f) l (takes l (function code f).node v)
