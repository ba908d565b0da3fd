-- An integer that a step gives lies in its type.
use Rattle.std.proofs.Common.{◌≡◌, ℕ, ◌<◌, refl, sym, subst, ◌∙◌, arith, Bool, true, false, cond}
use Rattle.std.specs.Prelude.{ℤ, ◌≤ℤ◌, pos, negsuc, not, nat_eq}
use Rattle.std.proofs.lemmas.Bool.{lt-ltb, ltb-true, eqb-true}
use Rattle.base_core.specs.declared.id.Pos.{Pos}
use Rattle.c_arithmetic.specs.declared.types.IntType.{IntType}
use Rattle.c_arithmetic.specs.Types.{int, long, unsigned_long, promoted}
use Rattle.c_arithmetic.specs.Conversion.{converted}
use Rattle.run_model.specs.Kinds.{Kind, Void, Number, Pointer, FnPointer, SetKind, ActionKind, ArrayKind, PartsKind, InRange, Part, is_address, is_array}
use Rattle.run_model.specs.Values.{Word, Int, Ptr, Fn, Value, Scalar, Signals, Items, At, AtErrno, NoValue, Values, AnyOf, update, truth, is_zero}
use Rattle.run_model.specs.Values as values
use Rattle.run_model.specs.Arithmetic.{Operator, Equals, Orders, Adds, Subtracts, Computes, equality, result_type}
use Rattle.run_model.specs.Conversions.{wrapped, ToNumber, Converts}
use Rattle.run_model.specs.Code.{Code, Operation}
use Rattle.run_model.specs.World.{keep}
use Rattle.run_model.specs.Objects.{Content, read_as, Reads}
use Rattle.run_model.specs.Places.{Local, stands_as, as_pointer}
use Rattle.run_model.specs.Expressions.{same_word, kind_between, Gives, Evaluates}
use Rattle.run_model.specs.Owed.{HasType, InKind}
use Rattle.run_model.proofs.Ranges.{converted_in_range, two_in_range, one_in_range}

-- an integer of this kind lies in its type
abbrev pub Fits : Kind → Value → Type 0
Fits k v = (t : IntType) (i : ℤ) → k ≡ Number t → v ≡ Scalar (Int i) → InRange t i

abbrev pub AllFit : Code → Values → Type 0
AllFit code vals = (n : ℕ) → Fits (code.kind n) (vals n)

abbrev pub IsWide : Kind → Type 0
IsWide k = (t : IntType) → k ≡ Number t → 0 < t.width

by_pending : (b : Bool) (k : Kind) (v : Value) → Fits k v → Fits k (cond b v NoValue)
by_pending true k v h = h
by_pending false k v h = λ t i e f. absurd cc

pub kept_fit : (code : Code) (p : Pos) (vals : Values) → AllFit code vals → AllFit code (keep code p vals)
kept_fit code p vals h = λ n. by_pending (code.pending n p) (code.kind n) (vals n) (h n)

updated : (code : Code) (n j : ℕ) (v w : Value) (b : Bool) → nat_eq j n ≡ b → Fits (code.kind n) v → Fits (code.kind j) w → Fits (code.kind j) (cond b v w)
updated code n j v w true e f g = subst (λ (m : ℕ). Fits (code.kind m) v) (sym (eqb-true j n e)) f
updated code n j v w false e f g = g

pub update_fits : (code : Code) (vals : Values) (n : ℕ) (v : Value) → AllFit code vals → Fits (code.kind n) v → AllFit code (update vals n v)
update_fits code vals n v h f = λ j. updated code n j v (vals j) (nat_eq j n) refl f (h j)

pub in_type : (s t : IntType) (i j : ℤ) → InRange s i → Number s ≡ Number t → Scalar (Int i) ≡ Scalar (Int j) → InRange t j
in_type s t i j h e f = let p : s ≡ t = cc in let q : i ≡ j = cc in subst (λ (u : IntType). InRange u j) p (subst (InRange s) q h)

pub any_fits : (k : Kind) (v : Value) → AnyOf k v → Fits k v
any_fits Void v h = λ t i e f. absurd cc
any_fits (Number s) v h = λ t i e f. in_type s t h.0 i h.1 e (sym h.2 ∙ f)
any_fits Pointer v h = λ t i e f. absurd cc
any_fits FnPointer v h = λ t i e f. absurd cc
any_fits SetKind v h = λ t i e f. absurd cc
any_fits ActionKind v h = λ t i e f. absurd cc
any_fits ArrayKind v h = λ t i e f. absurd cc
any_fits PartsKind v h = λ t i e f. absurd cc

wrapped_fits : (s : IntType) (v : Value) → 0 < s.width → Fits (Number s) (wrapped s v)
wrapped_fits s (Scalar (Int i)) wide = λ t j e f. in_type s t (converted s i) j (converted_in_range s i wide) e f
wrapped_fits s (Scalar (Ptr o)) wide = λ t j e f. absurd cc
wrapped_fits s (Scalar (Fn g)) wide = λ t j e f. absurd cc
wrapped_fits s (Signals m) wide = λ t j e f. absurd cc
wrapped_fits s (values.Action h m g) wide = λ t j e f. absurd cc
wrapped_fits s (Items xs) wide = λ t j e f. absurd cc
wrapped_fits s (At o part) wide = λ t j e f. absurd cc
wrapped_fits s AtErrno wide = λ t j e f. absurd cc
wrapped_fits s NoValue wide = λ t j e f. absurd cc

to_number_fits : (b : Bool) (s : IntType) (v w : Value) → 0 < s.width → ToNumber b s v w → Fits (Number s) w
to_number_fits true s v w wide h = any_fits (Number s) w h
to_number_fits false s v w wide h = subst (Fits (Number s)) (sym h) (wrapped_fits s v wide)

pub converts_fit : (from to : Kind) (v w : Value) → IsWide to → Converts from to v w → Fits to w
converts_fit from Void v w wide h = λ t i e f. absurd cc
converts_fit from (Number s) v w wide h = to_number_fits (is_address from) s v w (wide s refl) h
converts_fit from Pointer v w wide h = λ t i e f. absurd cc
converts_fit from FnPointer v w wide h = λ t i e f. absurd cc
converts_fit from SetKind v w wide h = λ t i e f. absurd cc
converts_fit from ActionKind v w wide h = λ t i e f. absurd cc
converts_fit from ArrayKind v w wide h = λ t i e f. absurd cc
converts_fit from PartsKind v w wide h = λ t i e f. absurd cc

pub read_fits : (k : Kind) (w : Word) → IsWide k → Fits k (read_as k w)
read_fits Void w wide = λ t i e f. absurd cc
read_fits (Number s) w wide = wrapped_fits s (Scalar w) (wide s refl)
read_fits Pointer w wide = λ t i e f. absurd cc
read_fits FnPointer w wide = λ t i e f. absurd cc
read_fits SetKind w wide = λ t i e f. absurd cc
read_fits ActionKind w wide = λ t i e f. absurd cc
read_fits ArrayKind w wide = λ t i e f. absurd cc
read_fits PartsKind w wide = λ t i e f. absurd cc

pub reads_fit : {x : Content} {part : Part} {k : Kind} {v : Value} → IsWide k → Reads x part k v → Fits k v
reads_fit wide (Reads.word {w = w} {k = k} e) = read_fits k w wide
reads_fit wide Reads.set = λ t i e f. absurd cc
reads_fit wide Reads.handler = λ t i e f. absurd cc
reads_fit wide Reads.mask = λ t i e f. absurd cc
reads_fit wide (Reads.flags {g = g} {t = s}) = wrapped_fits s (Scalar (Int g)) (wide s refl)
reads_fit wide Reads.action = λ t i e f. absurd cc
reads_fit wide (Reads.set_bytes {t = s} {v = v} h) = any_fits (Number s) v h
reads_fit wide (Reads.action_bytes {t = s} {v = v} h) = any_fits (Number s) v h
reads_fit wide (Reads.item {k = k} {w = w} e c) = read_fits k w wide
reads_fit wide (Reads.item_any {k = k} {v = v} e h) = any_fits k v h
reads_fit wide (Reads.item_set c) = λ t i e f. absurd cc
reads_fit wide Reads.item_any_set = λ t i e f. absurd cc
reads_fit wide (Reads.item_action c h) = λ t i e f. absurd cc
reads_fit wide Reads.items = λ t i e f. absurd cc
reads_fit wide Reads.void = λ t i e f. absurd cc

truth_fits : (b : Bool) → Fits (Number int) (truth b)
truth_fits true = λ t i e f. in_type int t (pos 1) i refl e f
truth_fits false = λ t i e f. in_type int t (pos 0) i refl e f

-- the type of the result on two integers
two_kind : (op : Operator) (s t : IntType) → kind_between op (Number s) (Number t) ≡ Number (result_type op s t)
two_kind (Equals n) s t = refl
two_kind (Orders o) s t = refl
two_kind Adds s t = refl
two_kind Subtracts s t = refl
two_kind (Computes c) s t = refl

gives_fit : {op : Operator} {k m : Kind} {x y : Word} {v : Value} → Gives op k x m y v → Fits (kind_between op k m) v
gives_fit (Gives.integers {op = op} {s = s} {t = t} {i = i} {j = j} {r = r} e) = λ u q f g. in_type (result_type op s t) u r q (two_in_range op s t i j r e) (sym (two_kind op s t) ∙ f) g
gives_fit (Gives.equal {negated = n} {x = x} {y = y} e f) = truth_fits (equality n (same_word x y))
gives_fit (Gives.equal_pointers b) = truth_fits b
gives_fit (Gives.orders b e) = truth_fits b
gives_fit Gives.adds = λ t i e f. absurd cc
gives_fit Gives.adds_other = λ t i e f. absurd cc
gives_fit (Gives.adds_integers {k = k} {m = m} {v = v} e h) = any_fits (kind_between Adds k m) v h
gives_fit Gives.subtracts = λ t i e f. absurd cc
gives_fit (Gives.subtracts_pointers {k = k} {m = m} {v = v} h) = any_fits (kind_between Subtracts k m) v h
gives_fit (Gives.subtracts_integers {k = k} {m = m} {v = v} e h) = any_fits (kind_between Subtracts k m) v h

of_kind : {k m : Kind} {v : Value} → k ≡ m → Fits m v → Fits k v
of_kind e h = λ t i f g. h t i (sym e ∙ f) g

in_kind : (k : Kind) (i : ℤ) → InKind k i → Fits k (Scalar (Int i))
in_kind (Number s) i h = λ t j e f. in_type s t i j h e f
in_kind Void i h = λ t j e f. absurd cc
in_kind Pointer i h = λ t j e f. absurd cc
in_kind FnPointer i h = λ t j e f. absurd cc
in_kind SetKind i h = λ t j e f. absurd cc
in_kind ActionKind i h = λ t j e f. absurd cc
in_kind ArrayKind i h = λ t j e f. absurd cc
in_kind PartsKind i h = λ t j e f. absurd cc

size_fits : (i : ℤ) → InRange long i → pos 1 ≤ℤ i → InRange unsigned_long i
size_fits (pos n) h p = let q : n < 9223372036854775808 = ltb-true n 9223372036854775808 h in lt-ltb n 18446744073709551616 (omega (arith, q))
size_fits (negsuc n) h p = absurd p.le

pub evaluates_fit : (code : Code) (l : Local) (n : ℕ) {op : Operation} {v : Value} → AllFit code l.vals → IsWide (code.kind n) → HasType code n op → Evaluates code l (code.kind n) op v → Fits (code.kind n) v
evaluates_fit code l n all wide has (Evaluates.constant {i}) = in_kind (code.kind n) i has
evaluates_fit code l n all wide has (Evaluates.free {v} h) = any_fits (code.kind n) v h
evaluates_fit code l n all wide has (Evaluates.size {i} h p) = of_kind has (λ t j e f. in_type unsigned_long t i j (size_fits i h p) e f)
evaluates_fit code l n all wide has Evaluates.function = λ t i e f. absurd cc
evaluates_fit code l n all wide has (Evaluates.library s) = λ t i e f. absurd cc
evaluates_fit code l n all wide has (Evaluates.keep {a}) = of_kind has (all a)
evaluates_fit code l n all wide has (Evaluates.convert {a} {v} e h) = converts_fit (code.kind a) (code.kind n) (l.vals a) v wide h
evaluates_fit code l n all wide has (Evaluates.address e) = λ t i f g. absurd cc
evaluates_fit code l n all wide has (Evaluates.array_address e h) = λ t i f g. absurd cc
evaluates_fit code l n all wide has (Evaluates.negates {a}) = of_kind has (truth_fits (is_zero (l.vals a)))
evaluates_fit code l n all wide has (Evaluates.is_nonzero {a}) = of_kind has (truth_fits (not (is_zero (l.vals a))))
evaluates_fit code l n all wide has (Evaluates.one {s} {a} {t} {i} {r} k e h) = of_kind (has t k) (λ u j f g. in_type (promoted t) u r j (one_in_range s t i r h) f g)
evaluates_fit code l n all wide has (Evaluates.two e f g) = of_kind has (gives_fit g)

-- a place is no integer
abbrev pub IsPlaceValue : Value → Type 0
IsPlaceValue (At o part) = Unit {0}
IsPlaceValue AtErrno = Unit {0}
IsPlaceValue _ = ⊥

pointer_fits : (b : Bool) (k : Kind) (v : Value) → IsPlaceValue v → Fits k (as_pointer b v)
pointer_fits true k (At o part) h = λ t i e f. absurd cc
pointer_fits false k (At o part) h = λ t i e f. absurd cc
pointer_fits true k AtErrno h = λ t i e f. absurd cc
pointer_fits false k AtErrno h = λ t i e f. absurd cc
pointer_fits b k (Scalar w) h = absurd h
pointer_fits b k (Signals m) h = absurd h
pointer_fits b k (values.Action w m g) h = absurd h
pointer_fits b k (Items xs) h = absurd h
pointer_fits b k NoValue h = absurd h

pub stands_fit : (k : Kind) (v : Value) → IsPlaceValue v → Fits k (stands_as k v)
stands_fit k v h = pointer_fits (is_array k) k v h
