-- Every program has a world that its runs start from.
use Rattle.std.proofs.Common.{◌≡◌, ℕ, ◌≤◌, List, [], ◌∷◌, refl, arith, Bool, true, false, length, cond, nat_eq}
use Rattle.std.specs.Prelude.{◌≢◌, pos, Option, Some, None, slice_get, zero, suc, nat_lt, if◌then◌else◌}
use Rattle.std.proofs.lemmas.Bool.{lt-ltb, eqb-true}
use Rattle.std.proofs.lemmas.Nat.{pow_pos}
use Rattle.c_arithmetic.specs.declared.types.IntType.{IntType}
use Rattle.std.specs.List.{AllByRecursion}
use Rattle.c_arithmetic.specs.Conversion.{half, modulus, holds}
use Rattle.run_model.specs.Signals.{no_signal}
use Rattle.run_model.specs.Kinds.{Kind, Void, Number, Pointer, FnPointer, SetKind, ActionKind, ArrayKind, PartsKind}
use Rattle.run_model.specs.Values.{zero_word, update}
use Rattle.run_model.specs.Objects.{Content, OfWord, OfSet, OfAction, OfItems, Object, Objects, Fresh}
use Rattle.run_model.specs.Code.{Code, Static, function}
use Rattle.run_model.specs.Frames.{Makes, no_locals, variable_object}
use Rattle.run_model.specs.Start.{BeginsAs, AllBegin, static_object, static_objects, start_process}
use Rattle.run_model.specs.Owed.{IsCode}
use Rattle.run_model.specs.Laws.{HasStart}

-- ---- what a variable of a kind may hold at first

zero_in : (t : IntType) → holds t (pos 0) ≡ true
zero_in t = by_sign t.signed
  where
    by_sign : (b : Bool) → nat_lt 0 (if b then half t else modulus t) ≡ true
    by_sign true = lt-ltb 0 (half t) (pow_pos _)
    by_sign false = lt-ltb 0 (modulus t) (pow_pos _)

first_content : (k : Kind) → k ≢ Void → (x : Content) × Fresh k x
first_content Void h = absurd (h refl)
first_content (Number t) h = (OfWord zero_word, Fresh.word refl (pos 0, zero_in t, refl))
first_content Pointer h = (OfWord zero_word, Fresh.word refl (pos 0, refl, refl))
first_content FnPointer h = (OfWord zero_word, Fresh.word refl (pos 0, refl, refl))
first_content SetKind h = (OfSet no_signal, Fresh.set)
first_content ActionKind h = (OfAction zero_word no_signal (pos 0), Fresh.action refl refl)
first_content ArrayKind h = (OfItems [], Fresh.array)
first_content PartsKind h = (OfItems [], Fresh.parts)

-- ---- the static objects

record Contents (code : Code) (ss : List Static) : Type 0 where
  xs : List Content
  begin : AllBegin code ss xs

contents : (code : Code) (ss : List Static) → AllByRecursion (λ (s : Static). (x : Content) × BeginsAs code s x) ss → Contents code ss
contents code [] h = record { xs = []; begin = AllBegin.none }
contents code (s ∷ ss) h = let c = contents code ss h.1 in record { xs = h.0.0 ∷ c.xs; begin = AllBegin.one h.0.1 c.begin }

-- ---- the objects of main's frame, from a number on from which there is none

abbrev IsFree : ℕ → Objects → Type 0
IsFree n objects = (o : ℕ) → n ≤ o → objects o ≡ None

no_less : (n : ℕ) → suc n ≤ 0 → ⊥
no_less n h = omega (arith, h)

beyond : {A : Type 0} (xs : List A) (o : ℕ) → length xs ≤ o → slice_get xs o ≡ None
beyond [] o h = refl
beyond (x ∷ xs) zero h = absurd (no_less (length xs) h)
beyond (x ∷ xs) (suc o) h = beyond xs o (omega (arith, h))

static_none : (s : Option Static) (x : Option Content) → s ≡ None → static_object s x ≡ None
static_none None x e = refl
static_none (Some s) x e = absurd cc

static_free : (code : Code) (xs : List Content) → IsFree (length code.statics) (static_objects code xs)
static_free code xs o h = static_none (slice_get code.statics o) (slice_get xs o) (beyond code.statics o h)

record Made (code : Code) (vs : List ℕ) (before : Objects) : Type 0 where
  locals : ℕ → Option ℕ
  objects : Objects
  next : ℕ
  made : Makes code false vs before locals objects
  free : IsFree next objects

not_more : (n o : ℕ) → suc n ≤ o → o ≡ n → ⊥
not_more n o p q = omega (arith, p, q)

another : (n o : ℕ) (x : Object) (objects : Objects) → IsFree n objects → suc n ≤ o → (b : Bool) → nat_eq o n ≡ b → cond b (Some x) (objects o) ≡ None
another n o x objects h p true e = let q : o ≡ n = eqb-true o n e in absurd (not_more n o p q)
another n o x objects h p false e = h o (omega (arith, p))

made : (code : Code) → IsCode code → (vs : List ℕ) (n : ℕ) (before : Objects) → IsFree n before → Made code vs before
made code is [] n before h = record { locals = no_locals; objects = before; next = n; made = Makes.none; free = h }
made code is (v ∷ vs) n before h =
    let m = made code is vs n before h in
    let c = first_content (code.variable v).kind (is.variables v) in
    record {
      locals = update m.locals v (Some m.next);
      objects = update m.objects m.next (Some (variable_object code false v c.0));
      next = suc m.next;
      made = Makes.one m.next m.made (m.free m.next (omega arith)) c.1;
      free = λ o p. another m.next o _ m.objects m.free p (nat_eq o m.next) refl;
    }

pub has_start : HasStart
has_start code is =
    let c = contents code code.statics is.statics in
    let m = made code is (function code code.main).locals (length code.statics) (static_objects code c.xs) (static_free code c.xs) in (
      start_process code no_signal (pos 0) (pos 1) m.locals m.objects ∷ [],
      record {
        mask = no_signal;
        errno = pos 0;
        argc = pos 1;
        contents = c.xs;
        locals = m.locals;
        objects = m.objects;
        errno_range = refl;
        argc_range = refl;
        begins = c.begin;
        fresh = m.made;
        is = refl;
      },
    )
