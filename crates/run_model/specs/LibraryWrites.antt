-- What a library function writes into the objects behind its arguments: on the step from In0 to Leave.
use Rattle.std.specs.Prelude.{◌≡◌, ◌≢◌, ℕ, ℤ, pos, List, [], ◌∷◌, ◌++◌, Option, Some, None, Bool, true, false, ◌&&◌, Contains}
use Rattle.posix_table.specs.declared.kind.Effect.{Effect}
use Rattle.posix_table.specs.declared.kind.Effect.TheVariants as effect
use Rattle.c_arithmetic.specs.Types.{int, long}
use Rattle.run_model.specs.Signals.{Mask, no_signal, is_signal, with_signal, without_signal}
use Rattle.run_model.specs.Kinds.{Kind, Number, InRange}
use Rattle.run_model.specs.Values.{Word, Int, Ptr, Item, AWord, Value, Scalar, AnyOf, is_zero, zero_word}
use Rattle.run_model.specs.Objects.{Content, OfWord, OfSet, OfAction, OfItems, Object}
use Rattle.run_model.specs.Code.{LibraryCall}
use Rattle.run_model.specs.World.{Setter, Disposition, default, Shared}
use Rattle.run_model.specs.Places.{Local, wrote, IsThere}
use Rattle.run_model.specs.Arguments.{argument, signal_of, Given, copied_at, Write, NoWrite, Integers, ZeroFill, CopiesInto, EndPointer, ChangesSet, OldMask, OldAction, write_of, items_in, content_behind, SetOf}

abbrev pub kind_of_integers : Kind → Kind
kind_of_integers (Number t) = Number t
kind_of_integers _ = Number long

-- integers over the whole object; a list gets none, since any integer may be read from it
pub data Scrambled : Kind → Content → Content → Type 0 where
  word : {k : Kind} {w w' : Word} → AnyOf (kind_of_integers k) (Scalar w') → Scrambled k (OfWord w) (OfWord w')
  set : {k : Kind} {m m' : Mask} → Scrambled k (OfSet m) (OfSet m')
  action : {k : Kind} {h : Word} {m m' : Mask} {g i g' : ℤ} → InRange long i → InRange int g' → Scrambled k (OfAction h m g) (OfAction (Int i) m' g')
  items : {k : Kind} {xs : List Item} → Scrambled k (OfItems xs) (OfItems xs)

-- a set (sigemptyset and its kin, the old mask): into an object of another type integers
pub data PutsSet (s : Mask) : Kind → Content → Content → Type 0 where
  set : {k : Kind} {m : Mask} → PutsSet s k (OfSet m) (OfSet s)
  action : {k : Kind} {h : Word} {m : Mask} {g : ℤ} → PutsSet s k (OfAction h m g) (OfAction h s g)
  word : {k : Kind} {w : Word} {y : Content} → Scrambled k (OfWord w) y → PutsSet s k (OfWord w) y
  items : {k : Kind} {xs : List Item} → PutsSet s k (OfItems xs) (OfItems xs)

abbrev pub added : Option ℕ → Mask → Mask
added (Some n) m = with_signal m n
added None m = m

abbrev pub deleted : Option ℕ → Mask → Mask
deleted (Some n) m = without_signal m n
deleted None m = m

-- the set that sigemptyset, sigfillset, sigaddset, sigdelset and sigpending make of one (XSH); a number that is no signal leaves it
abbrev pub ChangedSet : Effect → Value → Mask → Mask → Type 0
ChangedSet effect.Empty v m s = s ≡ no_signal
ChangedSet effect.Full v m s = s ≡ is_signal
ChangedSet effect.Add v m s = s ≡ added (signal_of v) m
ChangedSet effect.Del v m s = s ≡ deleted (signal_of v) m
ChangedSet _ v m s = Unit {0}

-- what another object holds (memcpy and its kin): all of an object of its own type, else what was stored in it
pub data CopiesOver (from : Content) : Kind → Content → Content → Type 0 where
  set_same : {k : Kind} {m s : Mask} → from ≡ OfSet s → CopiesOver from k (OfSet m) (OfSet s)
  set_other : {k : Kind} {m s : Mask} → ((t : Mask) → from ≢ OfSet t) → CopiesOver from k (OfSet m) (OfSet s)
  action_same : {k : Kind} {h h' : Word} {m m' : Mask} {g g' : ℤ} → from ≡ OfAction h' m' g' → CopiesOver from k (OfAction h m g) (OfAction h' m' g')
  action_other : {k : Kind} {h h' : Word} {m m' : Mask} {g g' : ℤ} → ((w : Word) (t : Mask) (i : ℤ) → from ≢ OfAction w t i) → Contains (items_in from) (AWord h') → InRange int g' → CopiesOver from k (OfAction h m g) (OfAction h' m' g')
  action_any : {k : Kind} {h : Word} {m m' : Mask} {g i g' : ℤ} → ((w : Word) (t : Mask) (i : ℤ) → from ≢ OfAction w t i) → InRange long i → InRange int g' → CopiesOver from k (OfAction h m g) (OfAction (Int i) m' g')
  word : {k : Kind} {w w' : Word} → Contains (items_in from) (AWord w') → CopiesOver from k (OfWord w) (OfWord w')
  word_any : {k : Kind} {w : Word} {y : Content} → Scrambled k (OfWord w) y → CopiesOver from k (OfWord w) y
  items : {k : Kind} {xs : List Item} → CopiesOver from k (OfItems xs) (OfItems (items_in from ++ xs))

-- the first argument, as strtol stores where it stopped
pub data StoresFirst (v : Value) : Kind → Content → Content → Type 0 where
  word : {k : Kind} {w w' : Word} → v ≡ Scalar w' → StoresFirst v k (OfWord w) (OfWord w')
  items : {k : Kind} {xs : List Item} {w : Word} → v ≡ Scalar w → StoresFirst v k (OfItems xs) (OfItems (AWord w ∷ xs))
  set : {k : Kind} {m m' : Mask} → StoresFirst v k (OfSet m) (OfSet m')
  action : {k : Kind} {h : Word} {m : Mask} {g : ℤ} {y : Content} → Scrambled k (OfAction h m g) y → StoresFirst v k (OfAction h m g) y

-- the mask and the flags of a disposition that sigaction didn't set are any
abbrev pub IsOldRest : Setter → Disposition → Mask → ℤ → Type 0
IsOldRest Setter.BySigaction d m g = (m ≡ d.mask) × (g ≡ d.flags)
IsOldRest _ d m g = InRange int g

-- the old disposition (XSH sigaction)
pub data StoresOld (d : Disposition) : Content → Content → Type 0 where
  action : {h : Word} {m m' : Mask} {g g' : ℤ} → IsOldRest d.by d m' g' → StoresOld d (OfAction h m g) (OfAction d.handler m' g')
  set : {m m' : Mask} → StoresOld d (OfSet m) (OfSet m')
  word : {w : Word} → StoresOld d (OfWord w) (OfWord d.handler)
  word_any : {w : Word} {i : ℤ} → InRange long i → StoresOld d (OfWord w) (OfWord (Int i))
  items : {xs : List Item} → StoresOld d (OfItems xs) (OfItems (AWord d.handler ∷ xs))
  items_any : {xs : List Item} → StoresOld d (OfItems xs) (OfItems xs)

abbrev pub old_of : Option Disposition → Disposition
old_of None = default
old_of (Some d) = d

abbrev pub is_action : Content → Bool
is_action (OfAction h m g) = true
is_action _ = false

-- what a call makes of an object that it writes
pub data Becomes (call : LibraryCall) (l : Local) (k : Kind) : Write → Content → Content → Type 0 where
  integers : {x y : Content} → Scrambled k x y → Becomes call l k Integers x y
  -- memset with 0 on a struct sigaction
  zeros : {h : Word} {m m' : Mask} {g : ℤ} → is_zero (argument call l.vals 1) ≡ true → Becomes call l k ZeroFill (OfAction h m g) (OfAction zero_word m' (pos 0))
  fills : {x y : Content} → (is_action x && is_zero (argument call l.vals 1)) ≡ false → Scrambled k x y → Becomes call l k ZeroFill x y
  copies : {x y : Content} → CopiesOver (content_behind l.shared.objects (argument call l.vals (copied_at call.letters))) k x y → Becomes call l k CopiesInto x y
  ends : {x y : Content} → StoresFirst (argument call l.vals 0) k x y → Becomes call l k EndPointer x y
  changes_set : (m s : Mask) {x y : Content} → SetOf x m → ChangedSet call.row.effect (argument call l.vals 1) m s → PutsSet s k x y → Becomes call l k ChangesSet x y
  old_mask : {x y : Content} → PutsSet l.mask k x y → Becomes call l k OldMask x y
  old_action : {x y : Content} → StoresOld (old_of l.old) x y → Becomes call l k OldAction x y

abbrev pub is_written : Write → Bool
is_written NoWrite = false
is_written _ = true

abbrev pub is_pointer_value : Value → Bool
is_pointer_value (Scalar (Ptr o)) = true
is_pointer_value _ = false

-- all objects that are written, one argument after the other. An argument that is no pointer writes nothing
pub data Writes (call : LibraryCall) (l : Local) : List Given → Shared → Shared → Type 0 where
  done : {s : Shared} → Writes call l [] s s
  skips : {g : Given} {gs : List Given} {s t : Shared} → (is_written (write_of call g.place g.letter) && is_pointer_value g.value) ≡ false → Writes call l gs s t → Writes call l (g ∷ gs) s t
  writes : {g : Given} {gs : List Given} {s t : Shared} {o : ℕ} {x : Object} {y : Content} → g.value ≡ Scalar (Ptr o) → IsThere s o x → Becomes call l x.kind (write_of call g.place g.letter) x.content y → Writes call l gs (wrote s o x y) t → Writes call l (g ∷ gs) s t
