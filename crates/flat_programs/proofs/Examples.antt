-- The runs of the examples.
use Rattle.std.proofs.Common.{◌≡◌, zero, suc, pos, List, [], ◌∷◌, refl, sym, ap, ◌∙◌, subst, arith, true, false, Some}
use Rattle.std.specs.Prelude.{Contains}
use Rattle.std.proofs.Math.Facts.{sfits_lit}
use Rattle.base_core.specs.declared.id.Phase.TheVariants.{Enter, In0, Leave, Finish}
use Rattle.base_core.specs.Signal.{CanBeCaught}
use Rattle.flat_programs.specs.declared.flat.LibraryFunction.{LibraryFunction}
use Rattle.flat_programs.specs.declared.flat.LibraryFunction.TheVariants.{Getpid, Rand}
use Rattle.flat_programs.specs.FlatTree.{HandlerTree, FlatTree}
use Rattle.flat_programs.specs.FlatCondition.{IsSafeHandler, IsAccepted}
use Rattle.flat_programs.specs.Positions.{Main, Handler, Whole, CallAt, HandlerAt, Position, at, next}
use Rattle.flat_programs.specs.World.{IsInt, Mask, none_blocked, union, with_signal, Beginning, Base, Arrived, Frame, frame, thread, Default, Caught, Dispositions, World, IsStart}
use Rattle.flat_programs.specs.Steps.{with_disposition, DispositionsAfter, Moves, Returns, ThreadStep, Label, label, Step, GoesOn}
use Rattle.flat_programs.specs.Breaches.{IsInUnsafe, HasInterrupted, Breaks}
use Rattle.flat_programs.specs.Laws.{last_world}
use Rattle.flat_programs.specs.Examples.{sigint, sigterm, letter_h, letter_k, one_handler, two_handlers, HasRun, BreaksOverItself, BreaksInExit, BreaksAboveHandler, RandOverRand, RandInExit, RandAboveHandler, GetpidChangesErrno, running, NestsAndReturns}
use Rattle.flat_programs.proofs.Walks.{Leads, stay, goes_further, further, world, along, walk}

abbrev no_handlers : Dispositions
no_handlers = λ s. Default

abbrev with_h : Dispositions
with_h = with_disposition no_handlers sigint (Caught (Handler 0) none_blocked)

abbrev with_both : Dispositions
with_both = with_disposition with_h sigterm (Caught (Handler 1) none_blocked)

zero_int : IsInt (pos 0)
zero_int = sfits_lit tt

one_int : IsInt (pos 1)
one_int = sfits_lit tt

abbrev main_at : Position → Frame
main_at p = frame Main p Base

-- at the arrival of SIGINT, and of SIGTERM, errno is 0 and nothing is blocked
abbrev h_at : Position → Frame
h_at p = frame (Handler 0) p (Arrived sigint none_blocked (pos 0))

abbrev k_at : Position → Frame
k_at p = frame (Handler 1) p (Arrived sigterm none_blocked (pos 0))

abbrev start : World
start = world no_handlers none_blocked (pos 0) (main_at (at Whole Enter) ∷ [])

is_start : IsStart start
is_start = record { mask = none_blocked; errno = pos 0; int = zero_int; is = refl }

sigint_caught : CanBeCaught sigint
sigint_caught = record { not_kill = λ e. omega arith; not_stop = λ e. omega arith }

sigterm_caught : CanBeCaught sigterm
sigterm_caught = record { not_kill = λ e. omega arith; not_stop = λ e. omega arith }

-- h comes to its call of rand and enters it
rand_run : (t : FlatTree) (a : Dispositions) (mask : Mask) (began : Beginning) (rest : List Frame) (IsLast : Label → Type 0)
    → along t (Handler 0) 3 (at Whole Enter) ≡ Some (at (CallAt 0) Enter) → next t (Handler 0) (at (CallAt 0) Enter) ≡ Some (at (CallAt 0) In0)
    → Leads t start (world a mask (pos 0) (frame (Handler 0) (at Whole Enter) began ∷ rest))
    → IsLast (label Moves (thread mask (pos 0) (frame (Handler 0) (at (CallAt 0) Enter) began ∷ rest)) (thread mask (pos 0) (frame (Handler 0) (at (CallAt 0) In0) began ∷ rest)))
    → HasRun t IsLast
rand_run t a mask began rest IsLast comes enters r is =
    let b = walk t 3 start a mask (pos 0) (Handler 0) began rest (at Whole Enter) (at (CallAt 0) Enter) zero_int comes r in
    let last = world a mask (pos 0) (frame (Handler 0) (at (CallAt 0) In0) began ∷ rest) in
    record {
      first = start;
      start = is_start;
      run = b.run;
      label = _;
      last = last;
      goes = goes_further t start _ last _ b.run b.goes b.last (Step.steps (ThreadStep.moves {mask = mask} {errno = pos 0} {began = began} {rest = rest} enters refl DispositionsAfter.keeps));
      is = is;
    }

-- main comes into its call of signal, and h is installed
h_set : (calls : List LibraryFunction) → Leads (one_handler calls) start (world with_h none_blocked (pos 0) (main_at (at (CallAt 0) In0) ∷ []))
h_set calls =
    let t = one_handler calls in
    further t start _ _ _
    (walk t 7 start no_handlers none_blocked (pos 0) Main Base [] (at Whole Enter) (at (HandlerAt 0) Leave) zero_int refl (stay t start))
    (Step.steps (ThreadStep.moves refl refl (DispositionsAfter.installs {name = letter_h} refl sigint_caught (record { handler = _; found = refl; name_is = refl }))))

-- SIGINT arrives and isn't blocked in h
h_on : (calls : List LibraryFunction) (top : Frame) (rest : List Frame) → Leads (one_handler calls) start (world with_h none_blocked (pos 0) (top ∷ rest))
    → Leads (one_handler calls) start (world with_h none_blocked (pos 0) (h_at (at Whole Enter) ∷ top ∷ rest))
h_on calls top rest r = further (one_handler calls) start _ _ _ r (Step.steps (ThreadStep.arrives false false refl refl))

pub rand_over_rand : RandOverRand
rand_over_rand =
    let t = one_handler (Rand ∷ []) in
    let main = main_at (at (CallAt 0) In0) in
    let h = h_at (at (CallAt 0) In0) in
    let inside = walk t 4 start with_h none_blocked (pos 0) (Handler 0) (Arrived sigint none_blocked (pos 0)) (main ∷ []) (at Whole Enter) (at (CallAt 0) In0) zero_int refl
    (h_on (Rand ∷ []) main [] (h_set (Rand ∷ []))) in
    rand_run t with_h none_blocked (Arrived sigint none_blocked (pos 0)) (h ∷ main ∷ []) (BreaksOverItself t) refl refl (h_on (Rand ∷ []) h (main ∷ []) inside)
    (record {
      top = h;
      below = h;
      rest = _;
      stack = refl;
      itself = refl;
      interrupted = IsInUnsafe.in_rand refl;
      breaks = Breaks.UnsafeInHandler (IsInUnsafe.in_rand refl) (HasInterrupted.an_unsafe (IsInUnsafe.in_rand refl));
    })

pub rand_in_exit : RandInExit
rand_in_exit =
    let t = one_handler (Rand ∷ []) in
    let main = main_at (at Whole Finish) in
    let exit = walk t 13 start with_h none_blocked (pos 0) Main Base [] (at (CallAt 0) In0) (at Whole Finish) zero_int refl (h_set (Rand ∷ [])) in
    rand_run t with_h none_blocked (Arrived sigint none_blocked (pos 0)) (main ∷ []) (BreaksInExit t) refl refl (h_on (Rand ∷ []) main [] exit)
    (record { top = h_at (at (CallAt 0) In0); main = main; stack = refl; exit = refl; breaks = Breaks.UnsafeInHandler (IsInUnsafe.in_rand refl) HasInterrupted.an_exit })

pub getpid_changes_errno : GetpidChangesErrno
getpid_changes_errno =
    let t = one_handler (Getpid ∷ []) in
    let main = main_at (at (CallAt 0) In0) in
    let began = Arrived sigint none_blocked (pos 0) in
    let inside = walk t 4 start with_h none_blocked (pos 0) (Handler 0) began (main ∷ []) (at Whole Enter) (at (CallAt 0) In0) zero_int refl (h_on (Getpid ∷ []) main [] (h_set (Getpid ∷ []))) in
    let left : Leads t start (world with_h none_blocked (pos 1) (h_at (at (CallAt 0) Leave) ∷ main ∷ [])) =
    further t start _ _ _ inside (Step.steps (ThreadStep.moves refl one_int DispositionsAfter.keeps)) in
    let end = walk t 3 start with_h none_blocked (pos 1) (Handler 0) began (main ∷ []) (at (CallAt 0) Leave) (at Whole Leave) one_int refl left in
    let last = world with_h none_blocked (pos 1) (main ∷ []) in
    let l = label Returns (thread none_blocked (pos 1) (h_at (at Whole Leave) ∷ main ∷ [])) (thread none_blocked (pos 1) (main ∷ [])) in
    record {
      first = start;
      start = is_start;
      run = end.run;
      label = l;
      last = last;
      goes = goes_further t start _ last l end.run end.goes end.last (Step.steps ThreadStep.returns);
      is = record { kind = refl; errno = refl; breaks = Breaks.ErrnoChanged (λ e. cc) };
    }

-- main has installed h and k
both_set : (calls : List LibraryFunction) → Leads (two_handlers calls) start (world with_both none_blocked (pos 0) (main_at (at (CallAt 1) In0) ∷ []))
both_set calls =
    let t = two_handlers calls in
    let h_set : Leads t start (world with_h none_blocked (pos 0) (main_at (at (CallAt 0) In0) ∷ [])) =
    further t start _ _ _
    (walk t 7 start no_handlers none_blocked (pos 0) Main Base [] (at Whole Enter) (at (HandlerAt 0) Leave) zero_int refl (stay t start))
    (Step.steps (ThreadStep.moves refl refl (DispositionsAfter.installs {name = letter_h} refl sigint_caught (record { handler = _; found = refl; name_is = refl })))) in
    further t start _ _ _
    (walk t 8 start with_h none_blocked (pos 0) Main Base [] (at (CallAt 0) In0) (at (HandlerAt 1) Leave) zero_int refl h_set)
    (Step.steps (ThreadStep.moves refl refl (DispositionsAfter.installs {name = letter_k} refl sigterm_caught (record { handler = _; found = refl; name_is = refl }))))

-- the mask while k runs, in which its own signal is blocked
abbrev in_k : Mask
in_k = with_signal (union none_blocked none_blocked) sigterm

-- SIGINT arrives and isn't blocked in h; SIGTERM arrives and is blocked in k
h_comes : (calls : List LibraryFunction) (w : World) (mask : Mask) (top : Frame) (rest : List Frame) → mask sigint ≡ false → Leads (two_handlers calls) w (world with_both mask (pos 0) (top ∷ rest))
    → Leads (two_handlers calls) w (world with_both (union mask none_blocked) (pos 0) (frame (Handler 0) (at Whole Enter) (Arrived sigint mask (pos 0)) ∷ top ∷ rest))
h_comes calls w mask top rest free r = further (two_handlers calls) w _ _ _ r (Step.steps (ThreadStep.arrives false false free refl))

k_comes : (calls : List LibraryFunction) (w : World) (top : Frame) (rest : List Frame) → Leads (two_handlers calls) w (world with_both none_blocked (pos 0) (top ∷ rest))
    → Leads (two_handlers calls) w (world with_both in_k (pos 0) (k_at (at Whole Enter) ∷ top ∷ rest))
k_comes calls w top rest r = further (two_handlers calls) w _ _ _ r (Step.steps (ThreadStep.arrives true false refl refl))

pub rand_above_handler : RandAboveHandler
rand_above_handler =
    let calls = Rand ∷ [] in
    let t = two_handlers calls in
    let main = main_at (at Whole Finish) in
    let k = k_at (at Whole Enter) in
    let exit = walk t 13 start with_both none_blocked (pos 0) Main Base [] (at (CallAt 1) In0) (at Whole Finish) zero_int refl (both_set calls) in
    rand_run t with_both (union in_k none_blocked) (Arrived sigint in_k (pos 0)) (k ∷ main ∷ []) (BreaksAboveHandler t) refl refl
    (h_comes calls start in_k k (main ∷ []) refl (k_comes calls start main [] exit))
    (record {
      top = frame (Handler 0) (at (CallAt 0) In0) (Arrived sigint in_k (pos 0));
      between = k;
      main = main;
      stack = refl;
      exit = refl;
      breaks = Breaks.UnsafeInHandler (IsInUnsafe.in_rand refl) (HasInterrupted.further_down HasInterrupted.an_exit);
    })

-- a handler that calls nothing returns
h_goes : (w : World) (top : Frame) (rest : List Frame) → Leads (two_handlers []) w (world with_both none_blocked (pos 0) (h_at (at Whole Enter) ∷ top ∷ rest))
    → Leads (two_handlers []) w (world with_both none_blocked (pos 0) (top ∷ rest))
h_goes w top rest r =
    further (two_handlers []) w _ _ _
    (walk (two_handlers []) 3 w with_both none_blocked (pos 0) (Handler 0) (Arrived sigint none_blocked (pos 0)) (top ∷ rest) (at Whole Enter) (at Whole Leave) zero_int refl r)
    (Step.steps ThreadStep.returns)

k_goes : (w : World) (top : Frame) (rest : List Frame) → Leads (two_handlers []) w (world with_both in_k (pos 0) (k_at (at Whole Enter) ∷ top ∷ rest))
    → Leads (two_handlers []) w (world with_both none_blocked (pos 0) (top ∷ rest))
k_goes w top rest r =
    further (two_handlers []) w _ _ _
    (walk (two_handlers []) 3 w with_both in_k (pos 0) (Handler 1) (Arrived sigterm none_blocked (pos 0)) (top ∷ rest) (at Whole Enter) (at Whole Leave) zero_int refl r)
    (Step.steps ThreadStep.returns)

calls_nothing : (h : HandlerTree) → Contains (two_handlers []).handlers h → h.calls ≡ []
calls_nothing h (zero, less, is) = ap (λ (x : HandlerTree). x.calls) (sym is)
calls_nothing h (suc zero, less, is) = ap (λ (x : HandlerTree). x.calls) (sym is)
calls_nothing h (suc (suc n), less, is) = absurd (omega arith)

nothing_is_safe : IsSafeHandler []
nothing_is_safe = record { no_rand = λ c. let less = c.1 in omega arith; no_call = λ none. refl }

two_accepted : IsAccepted (two_handlers [])
two_accepted h c installed = subst IsSafeHandler (sym (calls_nothing h c)) nothing_is_safe

-- three runs, each from where the one before it ends
one_after_another : (b c d : World) → Leads (two_handlers []) start b → Leads (two_handlers []) b c → Leads (two_handlers []) c d
    → running b ≡ Handler 1 ∷ Handler 0 ∷ Handler 0 ∷ Main ∷ [] → running c ≡ Main ∷ [] → running d ≡ Handler 1 ∷ Main ∷ [] → NestsAndReturns
one_after_another b c d up down again at_b at_c at_d =
    let ends_at_c = ap (λ (w : World). last_world w down.run) up.last ∙ down.last in
    record {
      accepted = two_accepted;
      first = start;
      start = is_start;
      up = up.run;
      goes_up = up.goes;
      nested = ap running up.last ∙ at_b;
      down = down.run;
      goes_down = subst (λ (w : World). GoesOn (two_handlers []) w down.run) (sym up.last) down.goes;
      alone = ap running ends_at_c ∙ at_c;
      again = again.run;
      goes_again = subst (λ (w : World). GoesOn (two_handlers []) w again.run) (sym ends_at_c) again.goes;
      once_more = ap (λ (w : World). running (last_world w again.run)) ends_at_c ∙ ap running again.last ∙ at_d;
    }

pub nests_and_returns : NestsAndReturns
nests_and_returns =
    let main = main_at (at (CallAt 1) In0) in
    let h = h_at (at Whole Enter) in
    let top = world with_both in_k (pos 0) (k_at (at Whole Enter) ∷ h ∷ h ∷ main ∷ []) in
    let bottom = world with_both none_blocked (pos 0) (main ∷ []) in
    one_after_another top bottom (world with_both in_k (pos 0) (k_at (at Whole Enter) ∷ main ∷ []))
    (k_comes [] start h (h ∷ main ∷ []) (h_comes [] start none_blocked h (main ∷ []) refl (h_comes [] start none_blocked main [] refl (both_set []))))
    (h_goes top main [] (h_goes top h (main ∷ []) (k_goes top h (h ∷ main ∷ []) (stay (two_handlers []) top))))
    (k_comes [] bottom main [] (stay (two_handlers []) bottom)) refl refl refl
