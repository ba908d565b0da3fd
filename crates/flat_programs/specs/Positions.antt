-- Where control stands in a function of a flat program, and where it goes from there.
use Rattle.std.specs.Prelude.{ℕ, suc, List, [], Option, Some, None, map, slice_get}
use Rattle.base_core.specs.declared.id.Phase.{Phase}
use Rattle.base_core.specs.declared.id.Phase.TheVariants.{Enter, In0, Leave, Finish}
use Rattle.flat_programs.specs.declared.flat.LibraryFunction.TheVariants.{Abort}
use Rattle.flat_programs.specs.declared.flat.Statement.{Statement}
use Rattle.flat_programs.specs.declared.flat.Statement.TheVariants.{Call, Install}
use Rattle.flat_programs.specs.FlatTree.{HandlerTree, FlatTree}

-- a function with a body: main, or the handler at that place of the text, from 0
pub data Function : Type 0 where
  Main : Function
  Handler : (place : ℕ) → Function

-- the calls of a handler, if there is one, as statements
abbrev pub calls_of : Option HandlerTree → List Statement
calls_of None = []
calls_of (Some h) = map Call h.calls

-- the statements of a function's body, in order of the text; main's `return 0;` isn't among them
abbrev pub body : FlatTree → Function → List Statement
body t Main = t.statements
body t (Handler place) = calls_of (slice_get t.handlers place)

abbrev pub statement : FlatTree → Function → ℕ → Option Statement
statement t f place = slice_get (body t f) place

-- a part of a function that is executed or evaluated: the function itself, its block, the statement at a place, the call
-- that it consists of, the two arguments of a call of signal, and main's `return 0;` with its operand
pub data Node : Type 0 where
  Whole : Node
  Block : Node
  StatementAt : (place : ℕ) → Node
  CallAt : (place : ℕ) → Node
  SignalAt : (place : ℕ) → Node
  HandlerAt : (place : ℕ) → Node
  Return : Node
  Zero : Node

-- how far the execution of a node has come: a call alone is also In0 (in the called function), main alone also Finish (in
-- the exit processing behind its return)
pub record Position : Type 0 where
  pub node : Node
  pub phase : Phase

abbrev pub at : Node → Phase → Position
at node phase = record { node = node; phase = phase }

-- the statements are executed in order of the text (C11 6.8); behind the last, main returns 0 and a handler's block ends
abbrev pub statement_or_end : Function → Option Statement → ℕ → Position
statement_or_end f (Some s) place = at (StatementAt place) Enter
statement_or_end Main None place = at Return Enter
statement_or_end (Handler h) None place = at Block Leave

-- the arguments of a call are evaluated before it, here from left to right (C11 6.5.2.2)
abbrev pub argument_or_call : Option Statement → ℕ → Option Position
argument_or_call None place = None
argument_or_call (Some (Call f)) place = Some (at (CallAt place) In0)
argument_or_call (Some (Install signal handler)) place = Some (at (SignalAt place) Enter)

-- a library function returns, but abort never does (C11 7.22.4.1)
abbrev pub return_of_call : Option Statement → ℕ → Option Position
return_of_call None place = None
return_of_call (Some (Call Abort)) place = None
return_of_call (Some s) place = Some (at (CallAt place) Leave)

abbrev pub next_of : FlatTree → Function → Node → Phase → Option Position
next_of t f Whole Enter = Some (at Block Enter)
next_of t f Block Enter = Some (statement_or_end f (statement t f 0) 0)
next_of t f (StatementAt place) Enter = Some (at (CallAt place) Enter)
next_of t f (CallAt place) Enter = argument_or_call (statement t f place) place
next_of t f (SignalAt place) Enter = Some (at (SignalAt place) Leave)
next_of t f (SignalAt place) Leave = Some (at (HandlerAt place) Enter)
next_of t f (HandlerAt place) Enter = Some (at (HandlerAt place) Leave)
next_of t f (HandlerAt place) Leave = Some (at (CallAt place) In0)
next_of t f (CallAt place) In0 = return_of_call (statement t f place) place
next_of t f (CallAt place) Leave = Some (at (StatementAt place) Leave)
next_of t f (StatementAt place) Leave = Some (statement_or_end f (statement t f (suc place)) (suc place))
next_of t f Return Enter = Some (at Zero Enter)
next_of t f Zero Enter = Some (at Zero Leave)
next_of t f Zero Leave = Some (at Return Leave)
-- a return ends the function (C11 6.8.6.4)
next_of t f Return Leave = Some (at Whole Leave)
next_of t f Block Leave = Some (at Whole Leave)
-- main's return calls exit (C11 5.1.2.2.3)
next_of t Main Whole Leave = Some (at Whole Finish)
next_of t f node phase = None

-- where control goes from a position of a function, if it goes on there
abbrev pub next : FlatTree → Function → Position → Option Position
next t f p = next_of t f p.node p.phase
