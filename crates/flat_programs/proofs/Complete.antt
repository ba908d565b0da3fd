-- Each reader reads what is spelled at the head of the tokens.
use Rattle.std.proofs.Common.{◌≡◌, ℕ, ◌≤◌, List, [], ◌∷◌, ◌++◌, true, cond, ◌&&◌, nat_le, Some, None, refl, ◌∙◌, ap, codes, arith}
use Rattle.std.proofs.lemmas.Bool.Decides.{nat_tests}
use Rattle.std.specs.Option.{option_map, option_and_then}
use Rattle.base_core.specs.declared.token.Class.TheVariants.{Punctuator}
use Rattle.base_core.specs.declared.token.Token.{Token}
use Rattle.base_core.proofs.SignalNames.{signal_named-name}
use Rattle.flat_programs.specs.declared.flat.LibraryFunction.{LibraryFunction}
use Rattle.flat_programs.specs.declared.flat.LibraryFunction.TheVariants.{Abort, Getpid, Pause, Rand}
use Rattle.flat_programs.specs.declared.flat.Statement.{Statement}
use Rattle.flat_programs.specs.declared.flat.Statement.TheVariants.{Call, Install}
use Rattle.flat_programs.specs.FlatSpelling.{keyword, name, mark, signal_name, spell_call, spell_statement}
use Rattle.flat_programs.specs.FlatShape.{IsLetter}
use Rattle.flat_programs.specs.Expect.{expect, letter}
use Rattle.flat_programs.specs.Call.{call}
use Rattle.flat_programs.specs.Statement.{signal, installed, install, or_install, statement}
use Rattle.flat_programs.specs.Head.{parameters, handler_head, main_head, main_tail}
use Rattle.flat_programs.specs.Body.{IsReadable}
use Rattle.flat_programs.proofs.Sound.{handler_front, main_front, main_back}

letter-name : (b : ℕ) (rest : List Token) → IsLetter b → letter (name (b ∷ []) ∷ rest) ≡ Some (b, rest)
letter-name b rest is =
    let low = is.least in
    let high = is.greatest in
    let inside : (nat_le 97 b && nat_le b 122) ≡ true = grind (arith, nat_tests) in
    ap (λ t. option_map (λ x. (x, rest)) (cond t (Some b) None)) inside

signal-name : (s : ℕ) (rest : List Token) → 1 ≤ s → s ≤ 28 → signal (name (signal_name s) ∷ rest) ≡ Some (s, rest)
signal-name s rest least greatest = ap (λ o. option_map (λ x. (x, rest)) o) (signal_named-name s least greatest)

pub call-spell : (f : LibraryFunction) (rest : List Token) → call (spell_call f ++ rest) ≡ Some (f, rest)
call-spell Abort rest = refl
call-spell Getpid rest = refl
call-spell Pause rest = refl
call-spell Rand rest = refl

installed-spell : (h : ℕ) (rest : List Token) → IsLetter h → installed (mark (codes ",") ∷ name (h ∷ []) ∷ mark (codes ")") ∷ mark (codes ";") ∷ rest) ≡ Some (h, rest)
installed-spell h rest is =
    ap (λ o. option_and_then (λ (p : ℕ × List Token). option_and_then (λ b. option_map (λ r. (p.0, r)) (expect Punctuator (codes ";") b)) (expect Punctuator (codes ")") p.1)) o)
    (letter-name h (mark (codes ")") ∷ mark (codes ";") ∷ rest) is)

install-spell : (s h : ℕ) (rest : List Token) → 1 ≤ s → s ≤ 28 → IsLetter h → install (spell_statement (Install s h) ++ rest) ≡ Some (Install s h, rest)
install-spell s h rest least greatest is =
    ap (λ o. option_and_then (λ (p : ℕ × List Token). option_map (λ (q : ℕ × List Token). (Install p.0 q.0, q.1)) (installed p.1)) o)
    (signal-name s (mark (codes ",") ∷ name (h ∷ []) ∷ mark (codes ")") ∷ mark (codes ";") ∷ rest) least greatest)
    ∙ ap (λ o. option_map (λ (q : ℕ × List Token). (Install s q.0, q.1)) o) (installed-spell h rest is)

pub statement-spell : (s : Statement) (rest : List Token) → IsReadable s → statement (spell_statement s ++ rest) ≡ Some (s, rest)
statement-spell (Call f) rest is = ap (λ o. or_install (spell_call f ++ rest) o) (call-spell f rest)
statement-spell (Install s h) rest is = install-spell s h rest is.0.0 is.0.1 is.1

parameters-spell : (p : ℕ) (rest : List Token) → IsLetter p → parameters (mark (codes "(") ∷ keyword (codes "int") ∷ name (p ∷ []) ∷ mark (codes ")") ∷ mark (codes "{") ∷ rest) ≡ Some (p, rest)
parameters-spell p rest is =
    ap (λ o. option_and_then (λ (q : ℕ × List Token). option_and_then (λ c. option_map (λ r. (q.0, r)) (expect Punctuator (codes "{") c)) (expect Punctuator (codes ")") q.1)) o)
    (letter-name p (mark (codes ")") ∷ mark (codes "{") ∷ rest) is)

pub handler_head-spell : (n p : ℕ) (rest : List Token) → IsLetter n → IsLetter p → handler_head (handler_front (n, p) ++ rest) ≡ Some ((n, p), rest)
handler_head-spell n p rest is_n is_p =
    ap (λ o. option_and_then (λ (q : ℕ × List Token). option_map (λ (r : ℕ × List Token). ((q.0, r.0), r.1)) (parameters q.1)) o)
    (letter-name n (mark (codes "(") ∷ keyword (codes "int") ∷ name (p ∷ []) ∷ mark (codes ")") ∷ mark (codes "{") ∷ rest) is_n)
    ∙ ap (λ o. option_map (λ (r : ℕ × List Token). ((n, r.0), r.1)) o) (parameters-spell p rest is_p)

pub main_head-spell : (rest : List Token) → main_head (main_front ++ rest) ≡ Some rest
main_head-spell rest = refl

pub main_tail-spell : (rest : List Token) → main_tail (main_back ++ rest) ≡ Some rest
main_tail-spell rest = refl

-- what stands behind the calls of a body and behind the statements of main is neither
pub call-brace : (rest : List Token) → call (mark (codes "}") ∷ rest) ≡ None
call-brace rest = refl

pub statement-return : (rest : List Token) → statement (main_back ++ rest) ≡ None
statement-return rest = refl

pub handler_head-main : (rest : List Token) → handler_head (main_front ++ rest) ≡ None
handler_head-main rest = refl
