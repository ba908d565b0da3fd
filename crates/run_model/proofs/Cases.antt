-- What the definitions say of the cases.
use Rattle.std.proofs.Common.{◌≡◌, ℕ, List, [], ◌∷◌, refl, sym, ap, subst, ◌∙◌, Bool, true, false, not, ◌&&◌}
use Rattle.std.specs.Prelude.{ℤ, pos, negsuc, Some}
use Rattle.posix_table.specs.declared.kind.Param.TheVariants as letter
use Rattle.posix_table.specs.declared.kind.Effect.{Effect}
use Rattle.c_arithmetic.specs.Types.{int}
use Rattle.run_model.specs.Signals.{sigill, sigtrap}
use Rattle.run_model.specs.Kinds.{Kind, Number, ArrayKind, Whole}
use Rattle.run_model.specs.Values.{Word, Int, Ptr, Fn, Value, Scalar, Signals, Items, At, AtErrno, NoValue, Item, AWord, AnyOf, truth, zero_word}
use Rattle.run_model.specs.Values as values
use Rattle.run_model.specs.Arithmetic.{Operator, Equals, Subtracts, equality}
use Rattle.run_model.specs.Code.{Code, Keep, FromValue}
use Rattle.run_model.specs.Objects.{Content, OfItems, Reads, Stores}
use Rattle.run_model.specs.World.{Setter, Disposition}
use Rattle.run_model.specs.Places.{Local}
use Rattle.run_model.specs.Expressions.{same_word, Gives, Evaluates}
use Rattle.run_model.specs.Acts.{emptied, Declares, Closes}
use Rattle.run_model.specs.LibraryWrites.{is_written, Writes}
use Rattle.run_model.specs.Arguments.{write_of}
use Rattle.run_model.specs.References.{behind_argument}
use Rattle.run_model.specs.Installs.{has_flag, sa_nodefer, sa_resethand}
use Rattle.run_model.specs.Arrivals.{Defers}
use Rattle.run_model.specs.Start.{IsConstant}
use Rattle.run_model.specs.Cases.{with_flags, Cases}

by_other : {A : Type 0} → Setter.BySigaction ≡ Setter.BySignal → A
by_other e = absurd cc

false_true : {A : Type 0} → false ≡ true → A
false_true e = absurd cc

plain_flags : (sig : ℕ) (d : Disposition) (g : ℤ) {blocks resets : Bool} → has_flag g sa_resethand ≡ false → Defers sig (with_flags d g) blocks resets → (blocks ≡ not (has_flag g sa_nodefer)) × (resets ≡ false)
plain_flags sig d g n (Defers.signal e) = by_other e
plain_flags sig d g n (Defers.plain e f) = (refl, refl)
plain_flags sig d g n (Defers.resetting e f h) = false_true (sym n ∙ f)

reset_flags : (sig : ℕ) (d : Disposition) {blocks resets : Bool} → Rattle.run_model.specs.Signals.can_be_reset sig ≡ false → Defers sig (with_flags d (pos 4)) blocks resets → resets ≡ false
reset_flags sig d n (Defers.signal e) = by_other e
reset_flags sig d n (Defers.plain e f) = refl
reset_flags sig d n (Defers.resetting e f h) = n

unequal : {op : Operator} {k m : Kind} {x y : Word} {v : Value} (o : ℕ) → Gives op k x m y v → op ≡ Equals true → x ≡ Ptr o → y ≡ Int (pos 0) → v ≡ Scalar (Int (pos 1))
unequal o (Gives.integers e) p q r = absurd cc
unequal o (Gives.equal {negated = n} {x = x} {y = y} e f) p q r = let s : n ≡ true = cc in
    subst (λ (z : Word). truth (equality n (same_word x z)) ≡ Scalar (Int (pos 1))) (sym r)
    (subst (λ (z : Word). truth (equality n (same_word z (Int (pos 0)))) ≡ Scalar (Int (pos 1))) (sym q)
    (subst (λ (b : Bool). truth (equality b false) ≡ Scalar (Int (pos 1))) (sym s) refl))
unequal o (Gives.equal_pointers b) p q r = absurd cc
unequal o (Gives.orders b e) p q r = absurd cc
unequal o Gives.adds p q r = absurd cc
unequal o Gives.adds_other p q r = absurd cc
unequal o (Gives.adds_integers e h) p q r = absurd cc
unequal o Gives.subtracts p q r = absurd cc
unequal o (Gives.subtracts_pointers h) p q r = absurd cc
unequal o (Gives.subtracts_integers e h) p q r = absurd cc

the_value : (r : ℤ) → Some (pos 1) ≡ Some r → Scalar (Int r) ≡ Scalar (Int (pos 1))
the_value r e = cc

int_difference : {v : Value} → Gives Subtracts (Number int) (Int (pos 3)) (Number int) (Int (pos 2)) v → v ≡ Scalar (Int (pos 1))
int_difference (Gives.integers {r = r} e) = the_value r e
int_difference (Gives.subtracts_integers e h) = false_true (sym e)

kept_array : (code : Code) (l : Local) (k : Kind) (a o : ℕ) {v : Value} → l.vals a ≡ Scalar (Ptr o) → Evaluates code l k (Keep a) v → v ≡ Scalar (Ptr o)
kept_array code l k a o e Evaluates.keep = e

into_list : {k : Kind} {x y : Content} {v : Value} → Stores x Whole k v y → x ≡ OfItems [] → v ≡ Scalar zero_word → y ≡ OfItems (AWord zero_word ∷ [])
into_list (Stores.items {xs = xs}) e f = let p : xs ≡ [] = cc in rw (p, f) refl
into_list (Stores.word e) g h = absurd cc
into_list Stores.set g h = absurd cc
into_list Stores.action g h = absurd cc
into_list Stores.set_bytes g h = absurd cc
into_list (Stores.action_bytes a b) g h = absurd cc

begins_empty : (code : Code) (l : Local) (e : ℕ) {x y : Content} (xs : List Item) → l.vals e ≡ Scalar zero_word → x ≡ OfItems xs → Declares code l ArrayKind (FromValue e) x y → y ≡ OfItems (AWord zero_word ∷ [])
begins_empty code l e xs f g (Declares.from_value {x = x} c s) = into_list s (ap emptied g) (c ∙ f)

no_write : (b : Bool) → (b && false) ≡ false
no_write true = refl
no_write false = refl

no_reference : (e : Effect) (v : Value) → behind_argument e letter.Int v ≡ []
no_reference e (Scalar (Ptr o)) = refl
no_reference e (Scalar (Int i)) = refl
no_reference e (Scalar (Fn f)) = refl
no_reference e (Signals m) = refl
no_reference e (values.Action h m g) = refl
no_reference e (Items xs) = refl
no_reference e (At o part) = refl
no_reference e AtErrno = refl
no_reference e NoValue = refl

pub cases : Cases
cases = record {
  not_resethand = λ sig d blocks resets h. plain_flags sig d (negsuc 4) refl h;
  neither_flag = λ sig d blocks resets h. plain_flags sig d (negsuc 6) refl h;
  minus_eight = λ sig d blocks resets h. plain_flags sig d (negsuc 7) refl h;
  resethand = λ blocks d. Defers.resetting refl refl (λ e. false_true e);
  resethand_of_sigill = λ d blocks resets h. reset_flags sigill d refl h;
  resethand_of_sigtrap = λ d blocks resets h. reset_flags sigtrap d refl h;
  by_signal = λ sig d blocks resets e. Defers.signal e;
  pointer_in_int = λ o. Gives.equal refl refl;
  pointer_in_int_is_not_zero = λ o v h. unequal o h refl refl refl;
  difference = λ v h. int_difference h;
  function_as_buffer = λ call l s k f. Writes.skips (no_write (is_written (write_of call k letter.Write))) Writes.done;
  integer_argument = no_reference;
  integer_argument_written = λ call k. refl;
  array_result = λ code f n e. Closes.other n (subst (λ (k : Kind). AnyOf k (Scalar zero_word)) (sym e) (pos 0, refl, refl));
  read_of_void = λ x part. Reads.void;
  undefined_long = λ code. IsConstant.any (pos 9223372036854775807, refl, refl);
  result_of_another_width = λ v h. h;
  array = λ o. refl;
  array_in_brackets = λ code l k a o e v h. kept_array code l k a o e h;
  array_address = λ code l k a o e f. Evaluates.array_address e f;
  list_begins_empty = λ code l e x y xs f k h. begins_empty code l e xs f refl h;
  one_fork_handler = λ p. (refl, refl);
}
