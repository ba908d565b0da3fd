-- How a function goes on: past no call of abort, and without a change of errno where it calls nothing.
use Rattle.std.proofs.Common.{◌≡◌, ℕ, ℤ, zero, suc, ◌≤◌, List, [], ◌∷◌, length, refl, subst, arith, Option, Some, None}
use Rattle.std.specs.Prelude.{slice_get}
use Rattle.std.proofs.lemmas.Option.{none-some, same_Some}
use Rattle.base_core.specs.declared.id.Phase.{Phase}
use Rattle.base_core.specs.declared.id.Phase.TheVariants.{Enter, In0, In1, Leave, Finish}
use Rattle.flat_programs.specs.declared.flat.LibraryFunction.TheVariants.{Abort}
use Rattle.flat_programs.specs.declared.flat.Statement.{Statement}
use Rattle.flat_programs.specs.declared.flat.Statement.TheVariants.{Call, Install}
use Rattle.flat_programs.specs.FlatTree.{FlatTree}
use Rattle.flat_programs.specs.Positions.{Function, Main, Handler, body, statement, Node, Whole, Block, StatementAt, CallAt, SignalAt, HandlerAt, Return, Zero, Position, at, statement_or_end, argument_or_call, return_of_call, next_of}
use Rattle.flat_programs.specs.Steps.{ErrnoAfter}
use Rattle.flat_programs.proofs.Reached.{Reaches, reaches_fewer, reaches_next}

-- how many statements a function has left behind at a position
abbrev pub passed : FlatTree → Function → Node → Phase → ℕ
passed t f Whole Enter = 0
passed t f Block Enter = 0
passed t f (StatementAt place) Leave = suc place
passed t f (CallAt place) Leave = suc place
passed t f (StatementAt place) phase = place
passed t f (CallAt place) phase = place
passed t f (SignalAt place) phase = place
passed t f (HandlerAt place) phase = place
passed t f node phase = length (body t f)

-- a function that stands there has passed no call of abort
abbrev pub Stands : FlatTree → Function → Position → Type 0
Stands t f p = Reaches (body t f) (passed t f p.node p.phase)

moved : (t : FlatTree) (f : Function) (p q : Position) → Some p ≡ Some q → Stands t f p → Stands t f q
moved t f p q is s = subst (Stands t f) (same_Some p q is) s

past_end : {A : Type 0} (xs : List A) (n : ℕ) → slice_get xs n ≡ None → length xs ≤ n
past_end [] n is = omega arith
past_end (x ∷ xs) zero is = cc
past_end (x ∷ xs) (suc n) is = let le = past_end xs n is in omega arith

-- at the next statement, or at the end
arrives_at : (t : FlatTree) (f : Function) (n : ℕ) (o : Option Statement) → statement t f n ≡ o → Reaches (body t f) n → Stands t f (statement_or_end f o n)
arrives_at t f n (Some s) is r = r
arrives_at t Main n None is r = reaches_fewer (body t Main) _ n (past_end (body t Main) n is) r
arrives_at t (Handler h) n None is r = reaches_fewer (body t (Handler h)) _ n (past_end (body t (Handler h)) n is) r

into_call : (t : FlatTree) (f : Function) (n : ℕ) (q : Position) (o : Option Statement) → argument_or_call o n ≡ Some q → Reaches (body t f) n → Stands t f q
into_call t f n q None is r = absurd (none-some q is)
into_call t f n q (Some (Call g)) is r = moved t f _ q is r
into_call t f n q (Some (Install signal name)) is r = moved t f _ q is r

out_of_call : (t : FlatTree) (f : Function) (n : ℕ) (q : Position) (o : Option Statement) → statement t f n ≡ o → return_of_call o n ≡ Some q → Reaches (body t f) n → Stands t f q
out_of_call t f n q None at' is r = absurd (none-some q is)
out_of_call t f n q (Some (Call Abort)) at' is r = absurd (none-some q is)
out_of_call t f n q (Some s) at' is r = moved t f (at (CallAt n) Leave) q is (reaches_next (body t f) n (λ e. cc) r)

-- a move passes no call of abort
pub stands : (t : FlatTree) (f : Function) (node : Node) (phase : Phase) (q : Position) → next_of t f node phase ≡ Some q → Stands t f (at node phase) → Stands t f q
stands t f Whole Enter q is s = moved t f _ q is s
stands t f Block Enter q is s = moved t f _ q is (arrives_at t f 0 _ refl s)
stands t f (StatementAt n) Enter q is s = moved t f _ q is s
stands t f (CallAt n) Enter q is s = into_call t f n q _ is s
stands t f (SignalAt n) Enter q is s = moved t f _ q is s
stands t f (SignalAt n) Leave q is s = moved t f _ q is s
stands t f (HandlerAt n) Enter q is s = moved t f _ q is s
stands t f (HandlerAt n) Leave q is s = moved t f _ q is s
stands t f (CallAt n) In0 q is s = out_of_call t f n q _ refl is s
stands t f (CallAt n) Leave q is s = moved t f _ q is s
stands t f (StatementAt n) Leave q is s = moved t f _ q is (arrives_at t f (suc n) _ refl s)
stands t f Return Enter q is s = moved t f _ q is s
stands t f Zero Enter q is s = moved t f _ q is s
stands t f Zero Leave q is s = moved t f _ q is s
stands t f Return Leave q is s = moved t f _ q is s
stands t f Block Leave q is s = moved t f _ q is s
stands t Main Whole Leave q is s = moved t Main _ q is s
stands t f node phase q is s = absurd (none-some q is)

none_returns : (ss : List Statement) (n : ℕ) (q : Position) → ss ≡ [] → return_of_call (slice_get ss n) n ≡ Some q → ⊥
none_returns [] n q empty is = none-some q is
none_returns (s ∷ ss) n q empty is = cc

-- where a function has no statement, a move keeps errno
pub same_errno : (t : FlatTree) (f : Function) (node : Node) (phase : Phase) (q : Position) (errno errno' : ℤ) → body t f ≡ [] → next_of t f node phase ≡ Some q → ErrnoAfter phase errno errno' → errno' ≡ errno
same_errno t f (CallAt n) In0 q errno errno' empty is after = absurd (none_returns (body t f) n q empty is)
same_errno t f node In0 q errno errno' empty is after = absurd (none-some q is)
same_errno t f node Enter q errno errno' empty is after = after
same_errno t f node In1 q errno errno' empty is after = after
same_errno t f node Leave q errno errno' empty is after = after
same_errno t f node Finish q errno errno' empty is after = after
