-- What readers read stands at the head of the tokens.
use Rattle.std.proofs.Common.{◌≡◌, ℕ, ◌-◌, ◌≤◌, List, [], ◌∷◌, ◌++◌, Option, Some, None, refl, sym, ◌∙◌, ap, append_assoc, bytes_eq, codes, slice_get, unwrap_or}
use Rattle.base_core.specs.declared.token.Class.{Class}
use Rattle.base_core.specs.declared.token.Class.TheVariants.{Keyword, Name, Integer, Punctuator}
use Rattle.base_core.specs.declared.token.Token.{Token}
use Rattle.base_core.specs.Signal.{signal_names, signal_named}
use Rattle.base_core.proofs.SignalNames.{signal_named_sound}
use Rattle.flat_programs.specs.declared.flat.LibraryFunction.{LibraryFunction}
use Rattle.flat_programs.specs.declared.flat.LibraryFunction.TheVariants.{Abort, Getpid, Pause, Rand}
use Rattle.flat_programs.specs.declared.flat.Statement.{Statement}
use Rattle.flat_programs.specs.FlatSpelling.{keyword, name, mark, integer, function_name, signal_name, spell_call, spell_statement}
use Rattle.flat_programs.specs.FlatShape.{IsLetter}
use Rattle.flat_programs.specs.Expect.{expect, letter, letter_of, first_as}
use Rattle.flat_programs.specs.Call.{function_named, function_of, call_end, call}
use Rattle.flat_programs.specs.Statement.{signal_of, signal, installed, install, or_install, statement}
use Rattle.flat_programs.specs.Head.{parameters, handler_head, main_head, main_tail}
use Rattle.flat_programs.specs.Body.{IsReadable}
use Rattle.flat_programs.proofs.Holding.{Holds, then_holds, map_holds, weaken, choose}
use Rattle.flat_programs.proofs.Single.{bytes_are, expect_sound, first_sound, name_sound, letter_of_sound}

longer : (whole front ts : List Token) (t : Token) (rest : List Token) → whole ≡ front ++ ts → ts ≡ t ∷ rest → whole ≡ (front ++ (t ∷ [])) ++ rest
longer whole front ts t rest so_far is = so_far ∙ ap (λ l. front ++ l) is ∙ sym (append_assoc front (t ∷ []) rest)

-- what is expected stands behind what was read so far
pub expected : (class : Class) (bytes : List ℕ) (whole front ts : List Token) → whole ≡ front ++ ts
    → Holds (λ (rest : List Token). whole ≡ (front ++ (record { class = class; lexeme = bytes } ∷ [])) ++ rest) (expect class bytes ts)
expected class bytes whole front ts so_far =
    weaken (λ (rest : List Token). ts ≡ record { class = class; lexeme = bytes } ∷ rest) (λ (rest : List Token). whole ≡ (front ++ (record { class = class; lexeme = bytes } ∷ [])) ++ rest)
    (expect class bytes ts) (expect_sound class bytes ts) (λ rest is. longer whole front ts (record { class = class; lexeme = bytes }) rest so_far is)

-- a name that is read stands behind what was read so far
named : {A : Type 0} (f : Token → Option A) (text : A → List ℕ) (P : A → Type 0) → ((t : Token) → Holds (λ x. (t.class ≡ Name) × (P x × (t.lexeme ≡ text x))) (f t))
    → (whole front ts : List Token) → whole ≡ front ++ ts
    → Holds (λ (p : A × List Token). P p.0 × (whole ≡ (front ++ (name (text p.0) ∷ [])) ++ p.1)) (first_as f ts)
named {A} f text P each whole front ts so_far =
    weaken (λ (p : A × List Token). (t : Token) × ((t.class ≡ Name) × (P p.0 × (t.lexeme ≡ text p.0))) × (ts ≡ t ∷ p.1))
    (λ (p : A × List Token). P p.0 × (whole ≡ (front ++ (name (text p.0) ∷ [])) ++ p.1))
    (first_as f ts) (first_sound f (λ x t. (t.class ≡ Name) × (P x × (t.lexeme ≡ text x))) each ts)
    (λ p held.
    let same : held.0 ≡ name (text p.0) = λ i. record { class = held.1.0 i; lexeme = held.1.1.1 i } in
    (held.1.1.0, longer whole front ts (name (text p.0)) p.1 so_far (held.2 ∙ ap (λ (t : Token). t ∷ p.1) same)))

pub lettered : (whole front ts : List Token) → whole ≡ front ++ ts → Holds (λ (p : ℕ × List Token). IsLetter p.0 × (whole ≡ (front ++ (name (p.0 ∷ []) ∷ [])) ++ p.1)) (letter ts)
lettered whole front ts so_far = named letter_of (λ x. x ∷ []) IsLetter letter_of_sound whole front ts so_far

-- calls
function_named_sound : (l : List ℕ) → Holds (λ f. Unit {0} × (l ≡ function_name f)) (function_named l)
function_named_sound l =
    choose (λ f. Unit {0} × (l ≡ function_name f)) (bytes_eq l (codes "abort")) Abort _ (λ is. (tt, bytes_are l (codes "abort") is))
    (choose (λ f. Unit {0} × (l ≡ function_name f)) (bytes_eq l (codes "getpid")) Getpid _ (λ is. (tt, bytes_are l (codes "getpid") is))
    (choose (λ f. Unit {0} × (l ≡ function_name f)) (bytes_eq l (codes "pause")) Pause _ (λ is. (tt, bytes_are l (codes "pause") is))
    (choose (λ f. Unit {0} × (l ≡ function_name f)) (bytes_eq l (codes "rand")) Rand None (λ is. (tt, bytes_are l (codes "rand") is)) tt)))

call_end_sound : (whole front ts : List Token) → whole ≡ front ++ ts
    → Holds (λ (rest : List Token). whole ≡ (((front ++ (mark (codes "(") ∷ [])) ++ (mark (codes ")") ∷ [])) ++ (mark (codes ";") ∷ [])) ++ rest) (call_end ts)
call_end_sound whole front ts so_far =
    let P : List Token → Type 0 = λ rest. whole ≡ (((front ++ (mark (codes "(") ∷ [])) ++ (mark (codes ")") ∷ [])) ++ (mark (codes ";") ∷ [])) ++ rest in
    then_holds _ P _ (expect Punctuator (codes "(") ts) (expected Punctuator (codes "(") whole front ts so_far) (λ a at_a.
    then_holds _ P _ (expect Punctuator (codes ")") a) (expected Punctuator (codes ")") whole _ a at_a) (λ b at_b.
    expected Punctuator (codes ";") whole _ b at_b))

pub call_sound : (ts : List Token) → Holds (λ (p : LibraryFunction × List Token). ts ≡ spell_call p.0 ++ p.1) (call ts)
call_sound ts =
    let P : LibraryFunction × List Token → Type 0 = λ p. ts ≡ spell_call p.0 ++ p.1 in
    then_holds _ P _ (first_as function_of ts) (named function_of function_name (λ f. Unit {0}) (λ t. name_sound function_named (λ f l. Unit {0} × (l ≡ function_name f)) function_named_sound t) ts [] ts refl) (λ p at_p.
    map_holds _ P _ (call_end p.1) (call_end_sound ts (name (function_name p.0) ∷ []) p.1 at_p.1) (λ rest at_end. at_end))

-- installs
signal_text : (number : ℕ) (l : List ℕ) → slice_get signal_names (number - 1) ≡ Some l → l ≡ signal_name number
signal_text number l is = sym (ap (λ o. unwrap_or o []) is)

signal_text_sound : (l : List ℕ) (o : Option ℕ) → signal_named l ≡ o → Holds (λ s. ((1 ≤ s) × (s ≤ 28)) × (l ≡ signal_name s)) o
signal_text_sound l None is = tt
signal_text_sound l (Some s) is = let at = signal_named_sound l s is in ((at.0, at.1), signal_text s l at.2)

signal_sound : (whole front ts : List Token) → whole ≡ front ++ ts
    → Holds (λ (p : ℕ × List Token). ((1 ≤ p.0) × (p.0 ≤ 28)) × (whole ≡ (front ++ (name (signal_name p.0) ∷ [])) ++ p.1)) (signal ts)
signal_sound whole front ts so_far =
    named signal_of signal_name (λ s. (1 ≤ s) × (s ≤ 28))
    (λ t. name_sound signal_named (λ s l. ((1 ≤ s) × (s ≤ 28)) × (l ≡ signal_name s)) (λ l. signal_text_sound l (signal_named l) refl) t) whole front ts so_far

installed_sound : (whole front ts : List Token) → whole ≡ front ++ ts
    → Holds (λ (p : ℕ × List Token). IsLetter p.0 × (whole ≡ ((((front ++ (mark (codes ",") ∷ [])) ++ (name (p.0 ∷ []) ∷ [])) ++ (mark (codes ")") ∷ [])) ++ (mark (codes ";") ∷ [])) ++ p.1)) (installed ts)
installed_sound whole front ts so_far =
    let P : ℕ × List Token → Type 0 = λ p. IsLetter p.0 × (whole ≡ ((((front ++ (mark (codes ",") ∷ [])) ++ (name (p.0 ∷ []) ∷ [])) ++ (mark (codes ")") ∷ [])) ++ (mark (codes ";") ∷ [])) ++ p.1) in
    then_holds _ P _ (expect Punctuator (codes ",") ts) (expected Punctuator (codes ",") whole front ts so_far) (λ a at_a.
    then_holds _ P _ (letter a) (lettered whole (front ++ (mark (codes ",") ∷ [])) a at_a) (λ h at_h.
    then_holds _ P _ (expect Punctuator (codes ")") h.1) (expected Punctuator (codes ")") whole ((front ++ (mark (codes ",") ∷ [])) ++ (name (h.0 ∷ []) ∷ [])) h.1 at_h.1) (λ b at_b.
    map_holds _ P _ (expect Punctuator (codes ";") b) (expected Punctuator (codes ";") whole (((front ++ (mark (codes ",") ∷ [])) ++ (name (h.0 ∷ []) ∷ [])) ++ (mark (codes ")") ∷ [])) b at_b) (λ rest at_rest. (at_h.0, at_rest)))))

-- a statement that is read is spelled there, and names a signal and a letter where it is an install
install_sound : (ts : List Token) → Holds (λ (p : Statement × List Token). IsReadable p.0 × (ts ≡ spell_statement p.0 ++ p.1)) (install ts)
install_sound ts =
    let P : Statement × List Token → Type 0 = λ p. IsReadable p.0 × (ts ≡ spell_statement p.0 ++ p.1) in
    then_holds _ P _ (expect Name (codes "signal") ts) (expected Name (codes "signal") ts [] ts refl) (λ a at_a.
    then_holds _ P _ (expect Punctuator (codes "(") a) (expected Punctuator (codes "(") ts (name (codes "signal") ∷ []) a at_a) (λ b at_b.
    then_holds _ P _ (signal b) (signal_sound ts (name (codes "signal") ∷ mark (codes "(") ∷ []) b at_b) (λ s at_s.
    map_holds _ P _ (installed s.1) (installed_sound ts (name (codes "signal") ∷ mark (codes "(") ∷ name (signal_name s.0) ∷ []) s.1 at_s.1) (λ h at_h. ((at_s.0, at_h.0), at_h.1)))))

or_install_sound : (ts : List Token) (o : Option (LibraryFunction × List Token)) → Holds (λ (p : LibraryFunction × List Token). ts ≡ spell_call p.0 ++ p.1) o
    → Holds (λ (p : Statement × List Token). IsReadable p.0 × (ts ≡ spell_statement p.0 ++ p.1)) (or_install ts o)
or_install_sound ts None held = install_sound ts
or_install_sound ts (Some p) held = (tt, held)

pub statement_sound : (ts : List Token) → Holds (λ (p : Statement × List Token). IsReadable p.0 × (ts ≡ spell_statement p.0 ++ p.1)) (statement ts)
statement_sound ts = or_install_sound ts (call ts) (call_sound ts)

-- the head of a handler
abbrev pub handler_front : ℕ × ℕ → List Token
handler_front p = keyword (codes "void") ∷ name (p.0 ∷ []) ∷ mark (codes "(") ∷ keyword (codes "int") ∷ name (p.1 ∷ []) ∷ mark (codes ")") ∷ mark (codes "{") ∷ []

parameters_sound : (whole front ts : List Token) → whole ≡ front ++ ts
    → Holds (λ (p : ℕ × List Token). IsLetter p.0 × (whole ≡ (((((front ++ (mark (codes "(") ∷ [])) ++ (keyword (codes "int") ∷ [])) ++ (name (p.0 ∷ []) ∷ [])) ++ (mark (codes ")") ∷ [])) ++ (mark (codes "{") ∷ [])) ++ p.1)) (parameters ts)
parameters_sound whole front ts so_far =
    let P : ℕ × List Token → Type 0 = λ p. IsLetter p.0 × (whole ≡ (((((front ++ (mark (codes "(") ∷ [])) ++ (keyword (codes "int") ∷ [])) ++ (name (p.0 ∷ []) ∷ [])) ++ (mark (codes ")") ∷ [])) ++ (mark (codes "{") ∷ [])) ++ p.1) in
    then_holds _ P _ (expect Punctuator (codes "(") ts) (expected Punctuator (codes "(") whole front ts so_far) (λ a at_a.
    then_holds _ P _ (expect Keyword (codes "int") a) (expected Keyword (codes "int") whole (front ++ (mark (codes "(") ∷ [])) a at_a) (λ b at_b.
    then_holds _ P _ (letter b) (lettered whole ((front ++ (mark (codes "(") ∷ [])) ++ (keyword (codes "int") ∷ [])) b at_b) (λ p at_p.
    then_holds _ P _ (expect Punctuator (codes ")") p.1) (expected Punctuator (codes ")") whole (((front ++ (mark (codes "(") ∷ [])) ++ (keyword (codes "int") ∷ [])) ++ (name (p.0 ∷ []) ∷ [])) p.1 at_p.1) (λ c at_c.
    map_holds _ P _ (expect Punctuator (codes "{") c) (expected Punctuator (codes "{") whole ((((front ++ (mark (codes "(") ∷ [])) ++ (keyword (codes "int") ∷ [])) ++ (name (p.0 ∷ []) ∷ [])) ++ (mark (codes ")") ∷ [])) c at_c) (λ rest at_rest. (at_p.0, at_rest))))))

pub handler_head_sound : (ts : List Token) → Holds (λ (p : (ℕ × ℕ) × List Token). (IsLetter p.0.0 × IsLetter p.0.1) × (ts ≡ handler_front p.0 ++ p.1)) (handler_head ts)
handler_head_sound ts =
    let P : (ℕ × ℕ) × List Token → Type 0 = λ p. (IsLetter p.0.0 × IsLetter p.0.1) × (ts ≡ handler_front p.0 ++ p.1) in
    then_holds _ P _ (expect Keyword (codes "void") ts) (expected Keyword (codes "void") ts [] ts refl) (λ a at_a.
    then_holds _ P _ (letter a) (lettered ts (keyword (codes "void") ∷ []) a at_a) (λ n at_n.
    map_holds _ P _ (parameters n.1) (parameters_sound ts (keyword (codes "void") ∷ name (n.0 ∷ []) ∷ []) n.1 at_n.1) (λ p at_p. ((at_n.0, at_p.0), at_p.1))))

-- the head and the tail of main
abbrev pub main_front : List Token
main_front = keyword (codes "int") ∷ name (codes "main") ∷ mark (codes "(") ∷ keyword (codes "void") ∷ mark (codes ")") ∷ mark (codes "{") ∷ []

pub main_head_sound : (ts : List Token) → Holds (λ (rest : List Token). ts ≡ main_front ++ rest) (main_head ts)
main_head_sound ts =
    let P : List Token → Type 0 = λ rest. ts ≡ main_front ++ rest in
    then_holds _ P _ (expect Keyword (codes "int") ts) (expected Keyword (codes "int") ts [] ts refl) (λ a at_a.
    then_holds _ P _ (expect Name (codes "main") a) (expected Name (codes "main") ts (keyword (codes "int") ∷ []) a at_a) (λ b at_b.
    then_holds _ P _ (expect Punctuator (codes "(") b) (expected Punctuator (codes "(") ts (keyword (codes "int") ∷ name (codes "main") ∷ []) b at_b) (λ c at_c.
    then_holds _ P _ (expect Keyword (codes "void") c) (expected Keyword (codes "void") ts (keyword (codes "int") ∷ name (codes "main") ∷ mark (codes "(") ∷ []) c at_c) (λ d at_d.
    then_holds _ P _ (expect Punctuator (codes ")") d) (expected Punctuator (codes ")") ts (keyword (codes "int") ∷ name (codes "main") ∷ mark (codes "(") ∷ keyword (codes "void") ∷ []) d at_d) (λ e at_e.
    expected Punctuator (codes "{") ts (keyword (codes "int") ∷ name (codes "main") ∷ mark (codes "(") ∷ keyword (codes "void") ∷ mark (codes ")") ∷ []) e at_e)))))

abbrev pub main_back : List Token
main_back = keyword (codes "return") ∷ integer (codes "0") ∷ mark (codes ";") ∷ mark (codes "}") ∷ []

pub main_tail_sound : (ts : List Token) → Holds (λ (rest : List Token). ts ≡ main_back ++ rest) (main_tail ts)
main_tail_sound ts =
    let P : List Token → Type 0 = λ rest. ts ≡ main_back ++ rest in
    then_holds _ P _ (expect Keyword (codes "return") ts) (expected Keyword (codes "return") ts [] ts refl) (λ a at_a.
    then_holds _ P _ (expect Integer (codes "0") a) (expected Integer (codes "0") ts (keyword (codes "return") ∷ []) a at_a) (λ b at_b.
    then_holds _ P _ (expect Punctuator (codes ";") b) (expected Punctuator (codes ";") ts (keyword (codes "return") ∷ integer (codes "0") ∷ []) b at_b) (λ c at_c.
    expected Punctuator (codes "}") ts (keyword (codes "return") ∷ integer (codes "0") ∷ mark (codes ";") ∷ []) c at_c)))
