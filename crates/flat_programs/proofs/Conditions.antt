-- The tests of the condition on handlers say what the condition says.
use Rattle.std.proofs.Common.{◌≡◌, ℕ, zero, suc, ◌<◌, List, [], ◌∷◌, Bool, true, false, not, ◌&&◌, ◌||◌, ◌==◌, length, get_or, refl, sym, ◌∙◌, ap, subst, ◌⊎◌, inl, inr, eqb-true, eq-eqb, arith}
use Rattle.std.proofs.lemmas.Bool.{and_parts, and_from, or_cases}
use Rattle.std.specs.List.{Contains}
use Rattle.base_core.specs.Signal.{sigkill, sigstop, CanBeCaught}
use Rattle.flat_programs.specs.declared.flat.LibraryFunction.{LibraryFunction}
use Rattle.flat_programs.specs.declared.flat.LibraryFunction.TheVariants.{Abort, Getpid, Pause, Rand}
use Rattle.flat_programs.specs.declared.flat.Statement.{Statement}
use Rattle.flat_programs.specs.declared.flat.Statement.TheVariants.{Call, Install}
use Rattle.flat_programs.specs.FlatTree.{HandlerTree, FlatTree}
use Rattle.flat_programs.specs.FlatCondition.{reached_calls, reached_statements, IsSafeHandler, IsAccepted}
use Rattle.flat_programs.specs.Condition.{aborts_first, is_safe, is_installed, are_safe}

-- elements of a list
here : {X : Type 0} (x : X) (xs : List X) → Contains (x ∷ xs) x
here x xs = (0, omega arith, refl)

there : {X : Type 0} (y x : X) (xs : List X) → Contains xs x → Contains (y ∷ xs) x
there y x xs at = let below = at.1 in (suc at.0, omega arith, at.2)

first_or_later : {X : Type 0} (y x : X) (xs : List X) (k : ℕ) → k < length (y ∷ xs) → get_or (y ∷ xs) k x ≡ x → (y ≡ x) ⊎ Contains xs x
first_or_later y x xs zero below is = inl is
first_or_later y x xs (suc k) below is = inr (k, omega arith, is)

cases_of : {X : Type 0} (y x : X) (xs : List X) → Contains (y ∷ xs) x → (y ≡ x) ⊎ Contains xs x
cases_of y x xs at = first_or_later y x xs at.0 at.1 at.2

none_in : {X : Type 0} (x : X) → Contains [] x → ⊥
none_in x at = let below = at.1 in omega arith

-- handlers
aborts_safely : (calls : List LibraryFunction) → aborts_first calls ≡ true → Contains calls Abort × ¬ Contains (reached_calls calls) Rand
aborts_safely [] is = absurd cc
aborts_safely (Abort ∷ fs) is = (here Abort fs, λ at. only (cases_of Abort Rand [] at))
  where
    only : (Abort ≡ Rand) ⊎ Contains [] Rand → ⊥
    only (inl same) = cc
    only (inr at) = none_in Rand at
aborts_safely (Rand ∷ fs) is = absurd cc
aborts_safely (Getpid ∷ fs) is = let rest = aborts_safely fs is in (there Getpid Abort fs rest.0, λ at. later rest.1 (cases_of Getpid Rand (reached_calls fs) at))
  where
    later : ¬ Contains (reached_calls fs) Rand → (Getpid ≡ Rand) ⊎ Contains (reached_calls fs) Rand → ⊥
    later none (inl same) = cc
    later none (inr at) = none at
aborts_safely (Pause ∷ fs) is = let rest = aborts_safely fs is in (there Pause Abort fs rest.0, λ at. later rest.1 (cases_of Pause Rand (reached_calls fs) at))
  where
    later : ¬ Contains (reached_calls fs) Rand → (Pause ≡ Rand) ⊎ Contains (reached_calls fs) Rand → ⊥
    later none (inl same) = cc
    later none (inr at) = none at

not_first : (f : LibraryFunction) (fs : List LibraryFunction) → (f ≡ Abort → ⊥) → ¬ Contains fs Abort → ¬ Contains (f ∷ fs) Abort
not_first f fs other none at = by_place (cases_of f Abort fs at)
  where
    by_place : (f ≡ Abort) ⊎ Contains fs Abort → ⊥
    by_place (inl same) = other same
    by_place (inr later) = none later

goes_wrong : (calls : List LibraryFunction) → aborts_first calls ≡ false → Contains (reached_calls calls) Rand ⊎ ¬ Contains calls Abort
goes_wrong [] is = inr (none_in Abort)
goes_wrong (Abort ∷ fs) is = absurd cc
goes_wrong (Rand ∷ fs) is = inl (here Rand (reached_calls fs))
goes_wrong (Getpid ∷ fs) is = step (goes_wrong fs is)
  where
    step : Contains (reached_calls fs) Rand ⊎ ¬ Contains fs Abort → Contains (reached_calls (Getpid ∷ fs)) Rand ⊎ ¬ Contains (Getpid ∷ fs) Abort
    step (inl at) = inl (there Getpid Rand (reached_calls fs) at)
    step (inr none) = inr (not_first Getpid fs (λ same. cc) none)
goes_wrong (Pause ∷ fs) is = step (goes_wrong fs is)
  where
    step : Contains (reached_calls fs) Rand ⊎ ¬ Contains fs Abort → Contains (reached_calls (Pause ∷ fs)) Rand ⊎ ¬ Contains (Pause ∷ fs) Abort
    step (inl at) = inl (there Pause Rand (reached_calls fs) at)
    step (inr none) = inr (not_first Pause fs (λ same. cc) none)

some_test : (f : LibraryFunction) (fs : List LibraryFunction) → (length (f ∷ fs) == 0) ≡ true → ⊥
some_test f fs is = let e = eqb-true (length (f ∷ fs)) 0 is in omega arith

safe_handler : (calls : List LibraryFunction) → is_safe calls ≡ true → IsSafeHandler calls
safe_handler [] is = record { no_rand = none_in Rand; no_call = λ none. refl }
safe_handler (f ∷ fs) is = by_test (or_cases (length (f ∷ fs) == 0) (aborts_first (f ∷ fs)) is)
  where
    by_test : ((length (f ∷ fs) == 0) ≡ true) ⊎ (aborts_first (f ∷ fs) ≡ true) → IsSafeHandler (f ∷ fs)
    by_test (inl empty) = absurd (some_test f fs empty)
    by_test (inr aborts) = let safely = aborts_safely (f ∷ fs) aborts in record { no_rand = safely.1; no_call = λ none. absurd (none safely.0) }

or_true : (b : Bool) → (b || true) ≡ true
or_true true = refl
or_true false = refl

handler_safe_by : (calls : List LibraryFunction) (b : Bool) → aborts_first calls ≡ b → IsSafeHandler calls → is_safe calls ≡ true
handler_safe_by calls true is safe = ap (λ b. (length calls == 0) || b) is ∙ or_true (length calls == 0)
handler_safe_by calls false is safe = by_fault (goes_wrong calls is)
  where
    by_fault : Contains (reached_calls calls) Rand ⊎ ¬ Contains calls Abort → is_safe calls ≡ true
    by_fault (inl at) = absurd (safe.no_rand at)
    by_fault (inr none) = ap is_safe (safe.no_call none)

handler_safe : (calls : List LibraryFunction) → IsSafeHandler calls → is_safe calls ≡ true
handler_safe calls safe = handler_safe_by calls (aborts_first calls) refl safe

-- installs
pub caught_test : (signal : ℕ) → (not (signal == sigkill) && not (signal == sigstop)) ≡ true → CanBeCaught signal
caught_test signal is = record {
  not_kill = λ same. let parts = and_parts (not (signal == sigkill)) (not (signal == sigstop)) is in let e : not (signal == sigkill) ≡ false = ap not (eq-eqb signal sigkill same) in let clash : true ≡ false = sym parts.0 ∙ e in cc;
  not_stop = λ same. let parts = and_parts (not (signal == sigkill)) (not (signal == sigstop)) is in let e : not (signal == sigstop) ≡ false = ap not (eq-eqb signal sigstop same) in let clash : true ≡ false = sym parts.1 ∙ e in cc;
}

unequal : (a b : ℕ) (t : Bool) → (a == b) ≡ t → (a ≡ b → ⊥) → not t ≡ true
unequal a b true is other = absurd (other (eqb-true a b is))
unequal a b false is other = refl

pub test_caught : (signal : ℕ) → CanBeCaught signal → (not (signal == sigkill) && not (signal == sigstop)) ≡ true
test_caught signal caught =
    and_from (not (signal == sigkill)) (not (signal == sigstop)) (unequal signal sigkill (signal == sigkill) refl caught.not_kill) (unequal signal sigstop (signal == sigstop) refl caught.not_stop)

abbrev installs : List Statement → ℕ → Type 0
installs ss name = (signal : ℕ) × CanBeCaught signal × Contains (reached_statements ss) (Install signal name)

finds_install : (ss : List Statement) (name : ℕ) → is_installed ss name ≡ true → installs ss name
finds_install [] name is = absurd cc
finds_install (Call Abort ∷ ss) name is = absurd cc
finds_install (Call Getpid ∷ ss) name is = let at = finds_install ss name is in (at.0, at.1, there (Call Getpid) (Install at.0 name) (reached_statements ss) at.2)
finds_install (Call Pause ∷ ss) name is = let at = finds_install ss name is in (at.0, at.1, there (Call Pause) (Install at.0 name) (reached_statements ss) at.2)
finds_install (Call Rand ∷ ss) name is = let at = finds_install ss name is in (at.0, at.1, there (Call Rand) (Install at.0 name) (reached_statements ss) at.2)
finds_install (Install s h ∷ ss) name is = by_test (or_cases ((h == name) && (not (s == sigkill) && not (s == sigstop))) (is_installed ss name) is) (finds_install ss name)
  where
    by_test : (((h == name) && (not (s == sigkill) && not (s == sigstop))) ≡ true) ⊎ (is_installed ss name ≡ true) → (is_installed ss name ≡ true → installs ss name) → installs (Install s h ∷ ss) name
    by_test (inl found) later =
        let parts = and_parts (h == name) (not (s == sigkill) && not (s == sigstop)) found in
        let same = eqb-true h name parts.0 in
        (s, caught_test s parts.1, subst (λ (n : ℕ). Contains (Install s h ∷ reached_statements ss) (Install s n)) same (here (Install s h) (reached_statements ss)))
    by_test (inr further) later = let at = later further in (at.0, at.1, there (Install s h) (Install at.0 name) (reached_statements ss) at.2)

later_install : (s : Statement) (ss : List Statement) (signal name : ℕ) → (s ≡ Install signal name → ⊥) → Contains (s ∷ ss) (Install signal name) → Contains ss (Install signal name)
later_install s ss signal name other at = by_place (cases_of s (Install signal name) ss at)
  where
    by_place : (s ≡ Install signal name) ⊎ Contains ss (Install signal name) → Contains ss (Install signal name)
    by_place (inl same) = absurd (other same)
    by_place (inr later) = later

same_install : (s h signal name : ℕ) → Install s h ≡ Install signal name → (s ≡ signal) × (h ≡ name)
same_install s h signal name same = (cc, cc)

install_found : (ss : List Statement) (signal name : ℕ) → CanBeCaught signal → Contains (reached_statements ss) (Install signal name) → is_installed ss name ≡ true
install_found [] signal name caught at = absurd (none_in (Install signal name) at)
install_found (Call Abort ∷ ss) signal name caught at = absurd (none_in (Install signal name) (later_install (Call Abort) [] signal name (λ same. cc) at))
install_found (Call Getpid ∷ ss) signal name caught at = install_found ss signal name caught (later_install (Call Getpid) (reached_statements ss) signal name (λ same. cc) at)
install_found (Call Pause ∷ ss) signal name caught at = install_found ss signal name caught (later_install (Call Pause) (reached_statements ss) signal name (λ same. cc) at)
install_found (Call Rand ∷ ss) signal name caught at = install_found ss signal name caught (later_install (Call Rand) (reached_statements ss) signal name (λ same. cc) at)
install_found (Install s h ∷ ss) signal name caught at = by_place (cases_of (Install s h) (Install signal name) (reached_statements ss) at) (install_found ss signal name caught)
  where
    by_place : (Install s h ≡ Install signal name) ⊎ Contains (reached_statements ss) (Install signal name) → (Contains (reached_statements ss) (Install signal name) → is_installed ss name ≡ true)
        → is_installed (Install s h ∷ ss) name ≡ true
    by_place (inl same) later =
        let parts = same_install s h signal name same in
        let test = and_from (h == name) (not (s == sigkill) && not (s == sigstop)) (eq-eqb h name parts.1) (test_caught s (subst CanBeCaught (sym parts.0) caught)) in
        ap (λ b. b || is_installed ss name) test
    by_place (inr further) later = ap (λ b. ((h == name) && (not (s == sigkill) && not (s == sigstop))) || b) (later further) ∙ or_true ((h == name) && (not (s == sigkill) && not (s == sigstop)))

-- all handlers
safe_each : (ss : List Statement) (hs : List HandlerTree) → are_safe ss hs ≡ true → (h : HandlerTree) → Contains hs h → installs ss h.name → IsSafeHandler h.calls
safe_each ss [] is h at on = absurd (none_in h at)
safe_each ss (g ∷ hs) is h at on = by_place (cases_of g h hs at) (λ later. safe_each ss hs (and_parts (not (is_installed ss g.name && not (is_safe g.calls))) (are_safe ss hs) is).1 h later on)
  where
    by_safe : (b : Bool) → is_safe g.calls ≡ b → g ≡ h → IsSafeHandler g.calls
    by_safe true safe same = safe_handler g.calls safe
    by_safe false unsafe same =
        let found = install_found ss on.0 g.name on.1 (subst (λ (x : HandlerTree). Contains (reached_statements ss) (Install on.0 x.name)) (sym same) on.2) in
        let wrong : (is_installed ss g.name && not (is_safe g.calls)) ≡ true = and_from (is_installed ss g.name) (not (is_safe g.calls)) found (ap not unsafe) in
        let clash : true ≡ false = sym (and_parts (not (is_installed ss g.name && not (is_safe g.calls))) (are_safe ss hs) is).0 ∙ ap not wrong in
        absurd cc

    by_place : (g ≡ h) ⊎ Contains hs h → (Contains hs h → IsSafeHandler h.calls) → IsSafeHandler h.calls
    by_place (inl same) later = subst (λ (x : HandlerTree). IsSafeHandler x.calls) same (by_safe (is_safe g.calls) refl same)
    by_place (inr further) later = later further

each_safe_by : (ss : List Statement) (g : HandlerTree) (b : Bool) → is_installed ss g.name ≡ b → (installs ss g.name → IsSafeHandler g.calls) → not (is_installed ss g.name && not (is_safe g.calls)) ≡ true
each_safe_by ss g true is safe =
    let sure = handler_safe g.calls (safe (finds_install ss g.name is)) in
    ap (λ b. not (b && not (is_safe g.calls))) is ∙ ap (λ b. not (true && not b)) sure
each_safe_by ss g false is safe = ap (λ b. not (b && not (is_safe g.calls))) is

each_safe : (ss : List Statement) (hs : List HandlerTree) → ((h : HandlerTree) → Contains hs h → installs ss h.name → IsSafeHandler h.calls) → are_safe ss hs ≡ true
each_safe ss [] safe = refl
each_safe ss (g ∷ hs) safe =
    and_from (not (is_installed ss g.name && not (is_safe g.calls))) (are_safe ss hs)
    (each_safe_by ss g (is_installed ss g.name) refl (λ on. safe g (here g hs) on))
    (each_safe ss hs (λ h at on. safe h (there g h hs at) on))

-- the test says what the condition says
pub accepted : (t : FlatTree) → are_safe t.statements t.handlers ≡ true → IsAccepted t
accepted t is h at installed = safe_each t.statements t.handlers is h at (installed.signal, installed.caught, installed.reached)

pub not_accepted : (t : FlatTree) → are_safe t.statements t.handlers ≡ false → ¬ IsAccepted t
not_accepted t is all =
    let sure = each_safe t.statements t.handlers (λ h at on. all h at (record { signal = on.0; caught = on.1; reached = on.2 })) in
    let clash : true ≡ false = sym sure ∙ is in
    cc
