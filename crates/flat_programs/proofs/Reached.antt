-- Control reaches the statements of a body that stand before its first call of abort.
use Rattle.std.proofs.Common.{◌≡◌, ℕ, zero, suc, ◌<◌, ◌≤◌, List, [], ◌∷◌, length, refl, ap, subst, arith, Some, map, inl, inr}
use Rattle.std.specs.Prelude.{Contains, slice_get, ◌⊎◌}
use Rattle.std.proofs.lemmas.Bool.{cases_lt}
use Rattle.std.proofs.lemmas.Option.{none-some, same_Some}
use Rattle.flat_programs.specs.declared.flat.LibraryFunction.{LibraryFunction}
use Rattle.flat_programs.specs.declared.flat.LibraryFunction.TheVariants.{Abort, Getpid, Pause, Rand}
use Rattle.flat_programs.specs.declared.flat.Statement.{Statement}
use Rattle.flat_programs.specs.declared.flat.Statement.TheVariants.{Call, Install}
use Rattle.flat_programs.specs.FlatCondition.{reached_calls, reached_statements}

-- none of the first n statements is a call of abort
abbrev pub Reaches : List Statement → ℕ → Type 0
Reaches ss n = (k : ℕ) → k < n → slice_get ss k ≡ Some (Call Abort) → ⊥

pub reaches_first : (ss : List Statement) → Reaches ss 0
reaches_first ss k below is = absurd (omega arith)

pub reaches_fewer : (ss : List Statement) (m n : ℕ) → m ≤ n → Reaches ss n → Reaches ss m
reaches_fewer ss m n le r k below is = r k (omega arith) is

-- behind a statement that isn't a call of abort the next one is reached
pub reaches_next : (ss : List Statement) (n : ℕ) → (slice_get ss n ≡ Some (Call Abort) → ⊥) → Reaches ss n → Reaches ss (suc n)
reaches_next ss n other so_far k below is = by_case (cases_lt k n)
  where
    by_case : (k < n) ⊎ (n ≤ k) → ⊥
    by_case (inl less) = so_far k less is
    by_case (inr not_less) = let same : k ≡ n = omega arith in other (subst (λ (m : ℕ). slice_get ss m ≡ Some (Call Abort)) same is)

rest_reaches : (s : Statement) (ss : List Statement) (n : ℕ) → Reaches (s ∷ ss) (suc n) → Reaches ss n
rest_reaches s ss n r k below is = r (suc k) (omega arith) is

head_is : {A : Type 0} (x y : A) (xs : List A) → Some x ≡ Some y → Contains (x ∷ xs) y
head_is x y xs is = (0, omega arith, same_Some x y is)

there : {A : Type 0} (y : A) (xs : List A) (x : A) → Contains xs x → Contains (y ∷ xs) x
there y xs x c = let less = c.1 in (suc c.0, omega arith, c.2)

-- the statement at a place that is reached
pub reached_statement : (ss : List Statement) (n : ℕ) (s : Statement) → Reaches ss n → slice_get ss n ≡ Some s → Contains (reached_statements ss) s
reached_statement [] n s r is = absurd (none-some s is)
reached_statement (Call Abort ∷ ss) zero s r is = head_is _ s [] is
reached_statement (Call Abort ∷ ss) (suc n) s r is = absurd (r 0 (omega arith) refl)
reached_statement (Call Getpid ∷ ss) zero s r is = head_is _ s (reached_statements ss) is
reached_statement (Call Getpid ∷ ss) (suc n) s r is = there _ (reached_statements ss) s (reached_statement ss n s (rest_reaches _ ss n r) is)
reached_statement (Call Pause ∷ ss) zero s r is = head_is _ s (reached_statements ss) is
reached_statement (Call Pause ∷ ss) (suc n) s r is = there _ (reached_statements ss) s (reached_statement ss n s (rest_reaches _ ss n r) is)
reached_statement (Call Rand ∷ ss) zero s r is = head_is _ s (reached_statements ss) is
reached_statement (Call Rand ∷ ss) (suc n) s r is = there _ (reached_statements ss) s (reached_statement ss n s (rest_reaches _ ss n r) is)
reached_statement (Install signal name ∷ ss) zero s r is = head_is _ s (reached_statements ss) is
reached_statement (Install signal name ∷ ss) (suc n) s r is = there _ (reached_statements ss) s (reached_statement ss n s (rest_reaches _ ss n r) is)

same_call : (f g : LibraryFunction) → Some (Call f) ≡ Some (Call g) → Some f ≡ Some g
same_call f g is = cc

-- the call at a place of a handler that is reached
pub reached_call : (fs : List LibraryFunction) (n : ℕ) (f : LibraryFunction) → Reaches (map Call fs) n → slice_get (map Call fs) n ≡ Some (Call f) → Contains (reached_calls fs) f
reached_call [] n f r is = absurd (none-some (Call f) is)
reached_call (Abort ∷ fs) zero f r is = head_is _ f [] (same_call _ f is)
reached_call (Abort ∷ fs) (suc n) f r is = absurd (r 0 (omega arith) refl)
reached_call (Getpid ∷ fs) zero f r is = head_is _ f (reached_calls fs) (same_call _ f is)
reached_call (Getpid ∷ fs) (suc n) f r is = there _ (reached_calls fs) f (reached_call fs n f (rest_reaches _ (map Call fs) n r) is)
reached_call (Pause ∷ fs) zero f r is = head_is _ f (reached_calls fs) (same_call _ f is)
reached_call (Pause ∷ fs) (suc n) f r is = there _ (reached_calls fs) f (reached_call fs n f (rest_reaches _ (map Call fs) n r) is)
reached_call (Rand ∷ fs) zero f r is = head_is _ f (reached_calls fs) (same_call _ f is)
reached_call (Rand ∷ fs) (suc n) f r is = there _ (reached_calls fs) f (reached_call fs n f (rest_reaches _ (map Call fs) n r) is)

-- a handler has calls alone
pub no_install : (fs : List LibraryFunction) (n signal name : ℕ) → slice_get (map Call fs) n ≡ Some (Install signal name) → ⊥
no_install [] n signal name is = none-some (Install signal name) is
no_install (f ∷ fs) zero signal name is = cc
no_install (f ∷ fs) (suc n) signal name is = no_install fs n signal name is

-- where a handler's end is reached, no call of abort stands in it
pub no_abort : (fs : List LibraryFunction) → Reaches (map Call fs) (length (map Call fs)) → ¬ Contains fs Abort
no_abort [] r c = let less = c.1 in absurd (omega arith)
no_abort (f ∷ fs) r (zero, less, is) = r 0 (omega arith) (ap (λ (g : LibraryFunction). Some (Call g)) is)
no_abort (f ∷ fs) r (suc k, less, is) = no_abort fs (rest_reaches (Call f) (map Call fs) (length (map Call fs)) r) (k, omega arith, is)
