-- What holds of the stack and the dispositions of an accepted program at any time of a run, and why no step breaks a rule.
use Rattle.std.proofs.Common.{◌≡◌, ℕ, ℤ, List, [], ◌∷◌, length, refl, sym, ap, ◌∙◌, subst, Bool, true, false, Some, map, inl, inr, nat_eq}
use Rattle.std.specs.Prelude.{Contains, slice_get, ◌⊎◌, if◌then◌else◌}
use Rattle.std.proofs.lemmas.Option.{slice_get_within, get_or_from_slice_get}
use Rattle.base_core.specs.declared.id.Phase.TheVariants.{In0, Leave}
use Rattle.base_core.specs.Signal.{CanBeCaught}
use Rattle.flat_programs.specs.declared.flat.LibraryFunction.TheVariants.{Rand}
use Rattle.flat_programs.specs.declared.flat.Statement.{Statement}
use Rattle.flat_programs.specs.declared.flat.Statement.TheVariants.{Call, Install}
use Rattle.flat_programs.specs.FlatTree.{HandlerTree, FlatTree}
use Rattle.flat_programs.specs.FlatCondition.{IsInstalled, IsSafeHandler, IsAccepted}
use Rattle.flat_programs.specs.Positions.{Function, Main, Handler, calls_of, body, statement, Whole, CallAt, Position, at, next}
use Rattle.flat_programs.specs.World.{Mask, Beginning, Base, Arrived, Frame, Thread, Disposition, Default, Caught, Dispositions}
use Rattle.flat_programs.specs.Steps.{ErrnoAfter, with_disposition, IsNamed, DispositionsAfter, Kind, ThreadStep}
use Rattle.flat_programs.specs.Breaches.{IsInUnsafe, HasInterrupted, Breaks}
use Rattle.flat_programs.proofs.Reached.{Reaches, reaches_first, reached_statement, reached_call, no_install, no_abort}
use Rattle.flat_programs.proofs.Moves.{Stands, stands, same_errno}

-- the function is a handler of the program, and one that keeps the rules
pub record IsSafe (t : FlatTree) (f : Function) : Type 0 where
  pub place : ℕ
  pub handler : HandlerTree
  pub is : f ≡ Handler place
  pub found : slice_get t.handlers place ≡ Some handler
  pub safe : IsSafeHandler handler.calls

-- what holds of a frame of this function that began so, with this errno, and of those below it: main alone is a base, a
-- handler is safe, and while a handler that calls nothing is on top errno is that of its arrival. Below it errno counts
-- as it was at the arrival
abbrev pub Rests : FlatTree → Function → Beginning → ℤ → List Frame → Type 0
Rests t f Base errno [] = f ≡ Main
Rests t f Base errno (g ∷ gs) = ⊥
Rests t f (Arrived signal mask earlier) errno [] = ⊥
Rests t f (Arrived signal mask earlier) errno (g ∷ gs) =
    IsSafe t f × (body t f ≡ [] → errno ≡ earlier) × Stands t g.function g.position × Rests t g.function g.began earlier gs

abbrev pub StackOk : FlatTree → ℤ → List Frame → Type 0
StackOk t errno [] = Unit {0}
StackOk t errno (f ∷ fs) = Stands t f.function f.position × Rests t f.function f.began errno fs

-- each handler that is installed is safe
abbrev pub DispositionsOk : FlatTree → Dispositions → Type 0
DispositionsOk t a = (signal : ℕ) (f : Function) (blocked : Mask) → a signal ≡ Caught f blocked → IsSafe t f

contains_at : {A : Type 0} (xs : List A) (n : ℕ) (x : A) → slice_get xs n ≡ Some x → Contains xs x
contains_at xs n x is = (n, slice_get_within xs n x is, get_or_from_slice_get xs n x x is)

body_is : (t : FlatTree) (f : Function) (s : IsSafe t f) → body t f ≡ map Call s.handler.calls
body_is t f s = ap (body t) s.is ∙ ap calls_of s.found

-- a handler's end is reached only where the handler calls nothing
at_end : (t : FlatTree) (f : Function) → IsSafe t f → Reaches (body t f) (length (body t f)) → body t f ≡ []
at_end t f s r =
    let is = body_is t f s in
    let none = no_abort s.handler.calls (subst (λ (ss : List Statement). Reaches ss (length ss)) is r) in
    is ∙ ap (map Call) (s.safe.no_call none)

-- a handler is never in rand
no_rand : (t : FlatTree) (f : Function) (n : ℕ) → IsSafe t f → Reaches (body t f) n → statement t f n ≡ Some (Call Rand) → ⊥
no_rand t f n s r is =
    let eq = body_is t f s in
    s.safe.no_rand (reached_call s.handler.calls n Rand (subst (λ (ss : List Statement). Reaches ss n) eq r) (subst (λ (ss : List Statement). slice_get ss n ≡ Some (Call Rand)) eq is))

-- a disposition is replaced
replaced : (t : FlatTree) (a : Dispositions) (signal : ℕ) (d : Disposition) → DispositionsOk t a → ((f : Function) (blocked : Mask) → d ≡ Caught f blocked → IsSafe t f) → DispositionsOk t (with_disposition a signal d)
replaced t a signal d ok new s f blocked = by_test (nat_eq s signal)
  where
    by_test : (b : Bool) → (if b then d else a s) ≡ Caught f blocked → IsSafe t f
    by_test true = new f blocked
    by_test false = ok s f blocked

reset : (t : FlatTree) (a : Dispositions) (signal : ℕ) (b : Bool) → DispositionsOk t a → DispositionsOk t (if b then with_disposition a signal Default else a)
reset t a signal true ok = replaced t a signal Default ok (λ f blocked is. absurd cc)
reset t a signal false ok = ok

main_or_safe : (t : FlatTree) (f : Function) (began : Beginning) (errno : ℤ) (rest : List Frame) → Rests t f began errno rest → (f ≡ Main) ⊎ IsSafe t f
main_or_safe t f Base errno [] r = inl r
main_or_safe t f Base errno (g ∷ gs) r = absurd r
main_or_safe t f (Arrived signal mask earlier) errno [] r = absurd r
main_or_safe t f (Arrived signal mask earlier) errno (g ∷ gs) r = inr r.0

module _ (t : FlatTree) (accepted : IsAccepted t) where
  -- what a reached call of signal installs is safe
  installed : (f : Function) (n signal name handler : ℕ) → (f ≡ Main) ⊎ IsSafe t f → Reaches (body t f) n → statement t f n ≡ Some (Install signal name) → CanBeCaught signal → IsNamed t handler name → IsSafe t (Handler handler)
  installed f n signal name handler (inl main) r is caught named =
      let reach = subst (λ (g : Function). Reaches (body t g) n) main r in
      let at' = subst (λ (g : Function). statement t g n ≡ Some (Install signal name)) main is in
      let by_main : IsInstalled t name = record { signal = signal; caught = caught; reached = reached_statement t.statements n (Install signal name) reach at' } in
      record {
        place = handler;
        handler = named.handler;
        is = refl;
        found = named.found;
        safe = accepted named.handler (contains_at t.handlers handler named.handler named.found) (subst (IsInstalled t) (sym named.name_is) by_main);
      }
  installed f n signal name handler (inr s) r is caught named =
      absurd (no_install s.handler.calls n signal name (subst (λ (ss : List Statement). slice_get ss n ≡ Some (Install signal name)) (body_is t f s) is))

  dispositions_kept : (f : Function) (to : Position) (a b : Dispositions) → DispositionsAfter t f to a b → (f ≡ Main) ⊎ IsSafe t f → Stands t f to → DispositionsOk t a → DispositionsOk t b
  dispositions_kept f to a b DispositionsAfter.keeps who s ok = ok
  dispositions_kept f to a b (DispositionsAfter.installs {place = n} {signal = signal} {name = name} {handler = handler} is caught named) who s ok =
      replaced t a signal _ ok (λ g blocked e. let same : Handler handler ≡ g = cc in subst (IsSafe t) same (installed f n signal name handler who s is caught named))

  rests_kept : (f : Function) (from to : Position) (began : Beginning) (errno errno' : ℤ) (rest : List Frame) → next t f from ≡ Some to → ErrnoAfter from.phase errno errno' → Rests t f began errno rest → Rests t f began errno' rest
  rests_kept f from to Base errno errno' [] goes after r = r
  rests_kept f from to Base errno errno' (g ∷ gs) goes after r = r
  rests_kept f from to (Arrived signal mask earlier) errno errno' [] goes after r = r
  rests_kept f from to (Arrived signal mask earlier) errno errno' (g ∷ gs) goes after r =
      (r.0, λ empty. same_errno t f from.node from.phase to errno errno' empty goes after ∙ r.1 empty, r.2, r.3)

  -- errno is what it was at the arrival, when a handler returns
  errno_back : (f : Function) (signal : ℕ) (mask : Mask) (errno earlier : ℤ) (below : Frame) (rest : List Frame) → Stands t f (at Whole Leave) → Rests t f (Arrived signal mask earlier) errno (below ∷ rest) → errno ≡ earlier
  errno_back f signal mask errno earlier below rest s r = r.1 (at_end t f r.0 s)

  pub thread_kept : (a : Dispositions) (before : Thread) (k : Kind) (b : Dispositions) (after : Thread) → ThreadStep t a before k b after → DispositionsOk t a → StackOk t before.errno before.stack → DispositionsOk t b × StackOk t after.errno after.stack
  thread_kept a before k b after (ThreadStep.moves {errno = errno} {errno' = errno'} {f = f} {from = from} {to = to} {began = began} {rest = rest} goes sets disp) ok d =
      let s = stands t f from.node from.phase to goes d.0 in
      (dispositions_kept f to a b disp (main_or_safe t f began errno rest d.1) s ok, (s, rests_kept f from to began errno errno' rest goes sets d.1))
  thread_kept a before k b after (ThreadStep.arrives blocks resets {signal = signal} {handler = handler} free is) ok d =
      (reset t a signal resets ok, (reaches_first (body t handler), (ok signal handler _ is, λ empty. refl, d.0, d.1)))
  thread_kept a before k b after (ThreadStep.returns {before = mask} {errno = errno} {earlier = earlier} {signal = signal} {f = f} {below = below} {rest = rest}) ok d =
      let same = errno_back f signal mask errno earlier below rest d.0 d.1 in
      (ok, (d.1.2, subst (λ (e : ℤ). Rests t below.function below.began e rest) (sym same) d.1.3))

  -- main is interrupted by nothing below it, and a handler never enters rand
  no_unsafe : (f : Function) (n : ℕ) (began : Beginning) (errno : ℤ) (rest : List Frame) → Reaches (body t f) n → Rests t f began errno rest → statement t f n ≡ Some (Call Rand)
      → HasInterrupted t (record { function = f; position = at (CallAt n) In0; began = began } ∷ rest) → ⊥
  no_unsafe f n Base errno [] s r is (HasInterrupted.further_down over) = elim over [ ]
  no_unsafe f n Base errno (g ∷ gs) s r is over = absurd r
  no_unsafe f n (Arrived signal mask earlier) errno [] s r is over = absurd r
  no_unsafe f n (Arrived signal mask earlier) errno (g ∷ gs) s r is over = no_rand t f n r.0 s is

  pub none_breaks : (a : Dispositions) (before : Thread) (k : Kind) (b : Dispositions) (after : Thread) → ThreadStep t a before k b after → StackOk t before.errno before.stack → StackOk t after.errno after.stack → ¬ Breaks t (record { kind = k; before = before; after = after })
  none_breaks a before k b after (ThreadStep.moves {errno' = errno'} {rest = rest} goes sets disp) d e (Breaks.UnsafeInHandler (IsInUnsafe.in_rand {f = f} {place = n} {began = began} is) over) =
      no_unsafe f n began errno' rest e.0 e.1 is over
  none_breaks a before k b after (ThreadStep.arrives blocks resets free is) d e breaks = elim breaks [ ]
  none_breaks a before k b after (ThreadStep.returns {before = mask} {errno = errno} {earlier = earlier} {signal = signal} {f = f} {below = below} {rest = rest}) d e (Breaks.ErrnoChanged differs) =
      differs (errno_back f signal mask errno earlier below rest d.0 d.1)
