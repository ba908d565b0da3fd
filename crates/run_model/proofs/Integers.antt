-- In each world of a run each integer that a node has as its value lies in the node's type, and errno is an int.
use Rattle.std.proofs.Common.{◌≡◌, ℕ, ◌<◌, refl, sym, ap, subst, ◌∙◌, arith, Bool, true, false, cond}
use Rattle.std.specs.Prelude.{ℤ, pos, Option, Some, None}
use Rattle.std.specs.List.{AllByRecursion}
use Rattle.base_core.specs.declared.id.Pos.{Pos}
use Rattle.base_core.specs.declared.id.Phase.TheVariants.{In1, Leave}
use Rattle.posix_table.specs.declared.kind.ResultKind.{ResultKind}
use Rattle.posix_table.specs.declared.kind.ResultKind.TheVariants as result
use Rattle.posix_table.specs.declared.kind.Effect.{Effect}
use Rattle.posix_table.specs.declared.kind.Effect.TheVariants as effect
use Rattle.c_arithmetic.specs.declared.types.IntType.{IntType}
use Rattle.c_arithmetic.specs.Types.{int, long}
use Rattle.run_model.specs.Kinds.{Kind, Number, Pointer, FnPointer, InRange, Part, Whole, Member, part_of}
use Rattle.run_model.specs.Values.{Word, Int, Ptr, Fn, Value, Scalar, Signals, Items, At, AtErrno, NoValue, Values, update}
use Rattle.run_model.specs.Values as values
use Rattle.run_model.specs.Code.{Code, Place, Variable, Text, ErrnoPlace, MemberOf, Behind, Action, Init, NoInit, FromValue, FromParts, FromList, LibraryCall, Library, OfVariable, OfText, static, function, at}
use Rattle.run_model.specs.World.{Frame, Thread, Shared, World}
use Rattle.run_model.specs.Objects.{Content, Object, Objects}
use Rattle.run_model.specs.Start.{IsStart}
use Rattle.run_model.specs.Places.{Env, Local, whole, variable_place, member_place, member_of, unless, if_alive, behind, stands_for, of_place}
use Rattle.run_model.specs.Acts.{IsErrno, declared, Closes, Does}
use Rattle.run_model.specs.Forks.{copies_process}
use Rattle.run_model.specs.LibrarySteps.{Enters, ErrnoAfter, Results, LibraryDoes}
use Rattle.run_model.specs.ThreadSteps.{Acts, StepKind, ThreadStep}
use Rattle.run_model.specs.Owed.{ResultType, IsCode}
use Rattle.run_model.specs.Laws.{ForEachThread, HasErrno, HasIntegers, IntegersFit, IntegersLieInTheirTypes}
use Rattle.run_model.proofs.Kept.{IsKept, run_keeps}
use Rattle.run_model.proofs.Ranges.{int_is_long}
use Rattle.run_model.proofs.Fits.{Fits, AllFit, IsWide, kept_fit, update_fits, in_type, any_fits, converts_fit, read_fits, reads_fit, evaluates_fit, IsPlaceValue, stands_fit}

-- ---- what a place stands for is no integer

whole_is_place : (o : Option ℕ) (v : Value) → whole o ≡ Some v → IsPlaceValue v
whole_is_place None v e = absurd cc
whole_is_place (Some o) v e = let p : At o Whole ≡ v = cc in subst IsPlaceValue p tt

variable_is_place : (o p : Option ℕ) (v : Value) → variable_place o p ≡ Some v → IsPlaceValue v
variable_is_place None p v e = whole_is_place p v e
variable_is_place (Some o) p v e = let q : At o Whole ≡ v = cc in subst IsPlaceValue q tt

member_is_place : (x : Option Object) (o : ℕ) (part : Part) (m : Member) (v : Value) → member_place x o part m ≡ Some v → IsPlaceValue v
member_is_place None o part m v e = absurd cc
member_is_place (Some x) o part m v e = let q : At o (part_of x.kind part m) ≡ v = cc in subst IsPlaceValue q tt

of_member : (objects : Objects) (a : Value) (m : Member) (v : Value) → member_of objects a m ≡ Some v → IsPlaceValue v
of_member objects (At o part) m v e = member_is_place (objects o) o part m v e
of_member objects (Scalar w) m v e = absurd cc
of_member objects (Signals s) m v e = absurd cc
of_member objects (values.Action h s g) m v e = absurd cc
of_member objects (Items xs) m v e = absurd cc
of_member objects AtErrno m v e = absurd cc
of_member objects NoValue m v e = absurd cc

unless_is_place : (b : Bool) (u v : Value) → IsPlaceValue u → unless b u ≡ Some v → IsPlaceValue v
unless_is_place true u v h e = absurd cc
unless_is_place false u v h e = let q : u ≡ v = cc in subst IsPlaceValue q h

alive_is_place : (x : Option Object) (o : ℕ) (m : Member) (v : Value) → if_alive x o m ≡ Some v → IsPlaceValue v
alive_is_place None o m v e = absurd cc
alive_is_place (Some x) o m v e = unless_is_place x.gone _ v tt e

behind_is_place : (objects : Objects) (a : Value) (m : Member) (v : Value) → behind objects a m ≡ Some v → IsPlaceValue v
behind_is_place objects (Scalar (Ptr o)) m v e = alive_is_place (objects o) o m v e
behind_is_place objects (Scalar (Int i)) m v e = absurd cc
behind_is_place objects (Scalar (Fn f)) m v e = absurd cc
behind_is_place objects (Signals s) m v e = absurd cc
behind_is_place objects (values.Action h s g) m v e = absurd cc
behind_is_place objects (Items xs) m v e = absurd cc
behind_is_place objects (At o part) m v e = absurd cc
behind_is_place objects AtErrno m v e = absurd cc
behind_is_place objects NoValue m v e = absurd cc

place_is_place : (code : Code) (env : Env) (l : Local) (p : Place) (v : Value) → stands_for code env l p ≡ Some v → IsPlaceValue v
place_is_place code env l (Variable w) v e = variable_is_place (env.locals w) (static code (OfVariable w)) v e
place_is_place code env l (Text n) v e = whole_is_place (static code (OfText n)) v e
place_is_place code env l ErrnoPlace v e = let q : AtErrno ≡ v = cc in subst IsPlaceValue q tt
place_is_place code env l (MemberOf a m) v e = of_member l.shared.objects (l.vals a) m v e
place_is_place code env l (Behind a m) v e = behind_is_place l.shared.objects (l.vals a) m v e

of_is_place : (code : Code) (env : Env) (l : Local) (p : Option Place) (v : Value) → of_place code env l p ≡ Some v → IsPlaceValue v
of_is_place code env l None v e = absurd cc
of_is_place code env l (Some p) v e = place_is_place code env l p v e

-- ---- steps within a frame

pub record LocalFits (code : Code) (l : Local) : Type 0 where
  pub errno : InRange int l.errno
  pub vals : AllFit code l.vals

-- an integer that becomes errno
becomes_errno : (v : Value) (e : ℤ) → Fits (Number int) v → IsErrno v e → InRange int e
becomes_errno (Scalar (Int i)) e h q = subst (InRange int) (sym q) (h int i refl refl)
becomes_errno (Scalar (Ptr o)) e h q = q
becomes_errno (Scalar (Fn f)) e h q = q
becomes_errno (Signals m) e h q = q
becomes_errno (values.Action w m g) e h q = q
becomes_errno (Items xs) e h q = q
becomes_errno (At o part) e h q = q
becomes_errno AtErrno e h q = q
becomes_errno NoValue e h q = q

int_is_wide : IsWide (Number int)
int_is_wide t e = let q : int ≡ t = cc in subst (λ (u : IntType). 0 < u.width) q (omega arith)

chosen : (b : Bool) (k : Kind) (v w : Value) → Fits k v → Fits k w → Fits k (cond b v w)
chosen true k v w f g = f
chosen false k v w f g = g

declared_fits : (code : Code) (init : Init) (l : Local) (o : ℕ) (x : Object) (y : Content) → LocalFits code l → LocalFits code (declared init l o x y)
declared_fits code NoInit l o x y h = record { errno = h.errno; vals = h.vals }
declared_fits code (FromValue e) l o x y h = record { errno = h.errno; vals = h.vals }
declared_fits code (FromParts a b c) l o x y h = record { errno = h.errno; vals = h.vals }
declared_fits code (FromList es) l o x y h = record { errno = h.errno; vals = h.vals }

module _ (code : Code) (is : IsCode code) where
  wide : (n : ℕ) → IsWide (code.kind n)
  wide n t e = is.widths n t e

  result_kind : (f : ℕ) (v : Value) → Fits (function code f).result v → Fits (code.kind (function code f).node) v
  result_kind f v h = subst (λ (k : Kind). Fits k v) (sym (is.functions f)) h

  wide_result : (f : ℕ) → IsWide (function code f).result
  wide_result f = subst IsWide (is.functions f) (wide (function code f).node)

  closes_fit : (f : ℕ) {u v : Value} → Closes code f u v → Fits (code.kind (function code f).node) u → Fits (code.kind (function code f).node) v
  closes_fit f (Closes.returned e) h = h
  closes_fit f (Closes.main e) h = result_kind f _ (subst (λ (k : Kind). Fits k (Scalar (Int (pos 0)))) (sym (subst (λ (g : ℕ). (function code g).result ≡ Number int) (sym e) is.main_result)) (λ t i a b. in_type int t (pos 0) i refl a b))
  closes_fit f (Closes.other {v} e a) h = result_kind f v (any_fits (function code f).result v a)

  does_fit : {env : Env} {a : Action} {l m : Local} (p q : Pos) → code.action p q ≡ a → Does code env a l m → LocalFits code l → LocalFits code m
  does_fit p q e Does.passes h = h
  does_fit p q e (Does.takes_value {n = n} {op = op} {l = l} {v = v} ev) h =
      record { errno = h.errno; vals = update_fits code l.vals n v h.vals (evaluates_fit code l n h.vals (wide n) (is.takes p q n op e) ev) }
  does_fit {env} p q e (Does.designates {n = n} {l = l} {v = v} d) h =
      record { errno = h.errno; vals = update_fits code l.vals n _ h.vals (stands_fit (code.kind n) v (of_is_place code env l (code.place n) v d)) }
  does_fit p q e (Does.reads {n = n} {l = l} {v = v} d found r) h = record { errno = h.errno; vals = update_fits code l.vals n v h.vals (reads_fit (wide n) r) }
  does_fit p q e (Does.reads_errno {n = n} {l = l} d) h = record { errno = h.errno; vals = update_fits code l.vals n _ h.vals (read_fits (code.kind n) (Int l.errno) (wide n)) }
  does_fit p q e (Does.assigns {n = n} {b = b} {l = l} {v = v} at there value converts stores) h =
      record { errno = h.errno; vals = update_fits code l.vals n v h.vals (converts_fit (code.kind b) (code.kind n) (l.vals b) v (wide n) converts) }
  does_fit p q e (Does.assigns_errno v {n = n} {b = b} {l = l} {e = i} at value converts errno) h =
      record {
        errno = becomes_errno v i (converts_fit (code.kind b) (Number int) (l.vals b) v int_is_wide converts) errno;
        vals = update_fits code l.vals n _ h.vals (read_fits (code.kind n) (Int i) (wide n));
      }
  does_fit p q e (Does.changes v w {n = n} {op = op} {b = b} {old = old} {l = l} at there reads changes stores) h =
      record { errno = h.errno; vals = update_fits code l.vals n _ h.vals (chosen old (code.kind n) v w (reads_fit (wide n) reads) (converts_fit _ (code.kind n) changes.between w (wide n) changes.back)) }
  does_fit p q e (Does.changes_errno w {n = n} {old = old} {l = l} {e = i} at changes errno) h =
      record {
        errno = becomes_errno w i (converts_fit _ (Number int) changes.between w int_is_wide changes.back) errno;
        vals = update_fits code l.vals n _ h.vals (read_fits (code.kind n) (Int (cond old l.errno i)) (wide n));
      }
  does_fit p q e (Does.declares {o = o} {init = init} {l = l} {x = x} {y = y} at found declares) h = declared_fits code init l o x y h
  does_fit p q e (Does.returns v {f = f} {e = n} {l = l} value converts) h =
      record { errno = h.errno; vals = update_fits code l.vals (function code f).node v h.vals (result_kind f v (converts_fit (code.kind n) (function code f).result (l.vals n) v (wide_result f) converts)) }
  does_fit p q e (Does.closes {f = f} {l = l} {v = v} c) h =
      record { errno = h.errno; vals = update_fits code l.vals (function code f).node v h.vals (closes_fit f c (h.vals (function code f).node)) }

  -- ---- calls of library functions

  no_number : {k : Kind} {v : Value} (m : Kind) → k ≡ m → ((t : IntType) → m ≡ Number t → ⊥) → Fits k v
  no_number m e never = λ t i f g. absurd (never t (sym e ∙ f))

  results_fit : {env : Env} {n : ℕ} {call : LibraryCall} {l : Local} {s s' : Shared} {r : ResultKind} {v : Value} {k : Kind} → k ≡ ResultType r → Results code env n call l s r s' v → Fits k v
  results_fit e (Results.integer {i} h) = λ t j f g. in_type long t i j h (sym e ∙ f) g
  results_fit e Results.nothing = λ t i f g. absurd cc
  results_fit e Results.no_first = no_number Pointer e (λ t q. absurd cc)
  results_fit e Results.first = no_number Pointer e (λ t q. absurd cc)
  results_fit e Results.no_fresh = no_number Pointer e (λ t q. absurd cc)
  results_fit e (Results.fresh o free) = λ t i f g. absurd cc
  results_fit e Results.no_own = no_number Pointer e (λ t q. absurd cc)
  results_fit e (Results.own found) = λ t i f g. absurd cc
  results_fit e Results.failed = no_number FnPointer e (λ t q. absurd cc)
  results_fit e Results.old = no_number FnPointer e (λ t q. absurd cc)

  errno_after : (e : Effect) (i j : ℤ) → InRange int i → ErrnoAfter e i j → InRange int j
  errno_after effect.Pure i j h e = subst (InRange int) (sym e) h
  errno_after effect.Plain i j h e = e
  errno_after effect.Fork i j h e = e
  errno_after effect.Split i j h e = e
  errno_after effect.Wait i j h e = e
  errno_after effect.Fill i j h e = e
  errno_after effect.Exec i j h e = e
  errno_after effect.Empty i j h e = e
  errno_after effect.Full i j h e = e
  errno_after effect.Any i j h e = e
  errno_after effect.Add i j h e = e
  errno_after effect.Del i j h e = e
  errno_after effect.Mask i j h e = e
  errno_after effect.Install i j h e = e
  errno_after effect.Endp i j h e = e
  errno_after effect.Thread i j h e = e
  errno_after effect.Atfork i j h e = e

  enters_fit : {n : ℕ} {call : LibraryCall} {l m : Local} {e : Effect} → Enters n call l e m → LocalFits code l → LocalFits code m
  enters_fit (Enters.installs i) h = record { errno = h.errno; vals = h.vals }
  enters_fit {n} {l = l} (Enters.waits s) h = record { errno = h.errno; vals = update_fits code l.vals n (Signals l.mask) h.vals (λ t i f g. absurd cc) }
  enters_fit Enters.forks h = record { errno = h.errno; vals = h.vals }
  enters_fit (Enters.other a b c) h = h

  library_fits : {env : Env} {a : Action} {l m : Local} → LibraryDoes code env a l m → LocalFits code l → LocalFits code m
  library_fits (LibraryDoes.enters call there enters) h = enters_fit enters h
  library_fits (LibraryDoes.leaves {n} {call = c} {l} call copies there r) h = subst (LocalFits code) (sym r.is) (record {
    errno = errno_after c.row.effect l.errno r.errno h.errno r.errors;
    vals = update_fits code l.vals n r.v h.vals (results_fit (is.results n c call) r.results);
  })
  library_fits (LibraryDoes.forked run range) h = record { errno = range; vals = h.vals }

  acts_fit : {env : Env} {a : Action} {l m : Local} (p q : Pos) → code.action p q ≡ a → Acts code env a l m → LocalFits code l → LocalFits code m
  acts_fit p q e (Acts.program d) h = does_fit p q e d h
  acts_fit p q e (Acts.library d) h = library_fits d h

  -- ---- steps

  frame_fits : (f : Frame) → AllFit code f.vals → HasErrno f.how → HasIntegers code f
  frame_fits f h e = record { values = λ n t i k v. h n t i k v; saved = e }

  no_values : AllFit code (λ n. NoValue)
  no_values n = λ t i e f. absurd cc

  frames_of : {t : Thread} → IntegersFit code t → AllByRecursion (HasIntegers code) t.stack
  frames_of h = h.frames

  step_fits : {a b : Shared} {t u : Thread} {k : StepKind} → ThreadStep code a t k b u → IntegersFit code t → IntegersFit code u
  step_fits (ThreadStep.moves {a = a} {mask = mask} {errno = errno} {to = to} {m = m} {top = top} {rest = rest} g acts) h =
      let f = frames_of h in
      let l = acts_fit top.pos to refl acts (record { errno = h.errno; vals = λ n t i k v. f.0.values n t i k v }) in
      record { errno = l.errno; frames = (frame_fits _ (kept_fit code to m.vals l.vals) f.0.saved, f.1) }
  step_fits (ThreadStep.calls phase call calls made passes) h = record { errno = h.errno; frames = (frame_fits _ no_values tt, h.frames) }
  step_fits (ThreadStep.returns v {top = top} {caller = caller} how leaves converts) h =
      let f = (frames_of h).1 in
      let n : ℕ = caller.pos.node.0 in
      record {
        errno = h.errno;
        frames = (
          frame_fits _ (kept_fit code (at n Leave) _ (update_fits code caller.vals n v (λ m t i k w. f.0.values m t i k w)
              (converts_fit (function code top.fn).result (code.kind n) _ v (wide n) converts))) f.0.saved,
          f.1,
        );
      }
  step_fits (ThreadStep.arrives o p unblocked handler takes defers free free' made) h = record { errno = h.errno; frames = (frame_fits _ no_values h.errno, h.frames) }
  step_fits (ThreadStep.resumes how leaves) h = record { errno = h.errno; frames = (frames_of h).1 }
  step_fits (ThreadStep.handles {top = top} fork runs next fits made) h =
      let f = frames_of h in record { errno = h.errno; frames = (frame_fits _ no_values tt, (frame_fits _ (λ n t i k v. f.0.values n t i k v) f.0.saved, f.1)) }
  step_fits (ThreadStep.handled how leaves) h = record { errno = h.errno; frames = (frames_of h).1 }

  fork_kind : (n : ℕ) (call : LibraryCall) (i : ℤ) → code.call n ≡ Library call → call.row.result ≡ result.Int → InRange int i → Fits (code.kind n) (Scalar (Int i))
  fork_kind n call i e r h = λ t j f g. in_type long t i j (int_is_long i h) (sym (is.results n call e ∙ ap ResultType r) ∙ f) g

  integers_are_kept : IsKept code (IntegersFit code)
  integers_are_kept = record {
    steps = λ s h. step_fits s h;
    comes = λ to g h. let f = frames_of h in record { errno = h.errno; frames = (frame_fits _ (kept_fit code to _ (λ n t i k v. f.0.values n t i k v)) f.0.saved, f.1) };
    starts = λ mask errno f locals fits range. record { errno = range; frames = (frame_fits _ no_values tt, tt) };
    copies = λ {mask} {errno} {top} {rest} {e} i ws c p range h.
        let f = frames_of h in
        let n : ℕ = top.pos.node.0 in
        record {
          errno = h.errno;
          frames = (
            frame_fits _ (kept_fit code (at n In1) _ (update_fits code top.vals n (Scalar (Int i)) (λ m t j k v. f.0.values m t j k v)
                (fork_kind n c.call i c.is (is.ids n c.call c.is (subst (λ (k : Effect). copies_process k ≡ true) (sym c.effect) c.copies)) range))) f.0.saved,
            f.1,
          );
        };
  }

  start_fits : (w : World) → IsStart code w → ForEachThread (IntegersFit code) w
  start_fits w s = subst (ForEachThread (IntegersFit code)) (sym s.is) ((record { errno = s.errno_range; frames = (frame_fits _ no_values tt, tt) }, tt), tt)

pub integers_lie_in_their_types : IntegersLieInTheirTypes
integers_lie_in_their_types code w run is r = run_keeps code (IntegersFit code) (integers_are_kept code is) w run r.goes (start_fits code is w r.start)
