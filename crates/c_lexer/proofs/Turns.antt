-- The lexis of a text, item by item.
use Rattle.std.proofs.Common.{◌≡◌, ℕ, zero, suc, ◌-◌, ◌≤◌, [], ◌∷◌, Result, Ok, Err, length, drop, refl, sym, ap, ◌∙◌, arith}
use Rattle.c_lexer.specs.Bytes.{Text}
use Rattle.c_lexer.specs.Lexis.{Lexis, Progress, step, rest_from, rest, start, lexis, Gives}
use Rattle.c_lexer.specs.Progress.{Steps}
use Rattle.c_lexer.specs.declared.fault.LexFault.TheVariants as fault
use Rattle.c_lexer.specs.declared.fault.LexFault.{LexFault}

rest_from-drop : (n : ℕ) (p : Progress) (z : Text) → rest_from n p z ≡ rest_from 0 p (drop n z)
rest_from-drop zero p z = refl
rest_from-drop (suc n) p [] = refl
rest_from-drop (suc n) p (b ∷ z) = rest_from-drop n p z

drop-front : (n b : ℕ) (z : Text) → 1 ≤ n → drop (n - 1) z ≡ drop n (b ∷ z)
drop-front zero b z h = absurd (omega arith)
drop-front (suc n) b z h = let e : suc n - 1 ≡ n = omega arith in ap (λ k. drop k z) e

-- after an item the lexis is that of what follows
pub rest_goes : (p q : Progress) (n : ℕ) (z : Text) → step p z ≡ Ok (q, n) → 1 ≤ n → 1 ≤ length z → rest p z ≡ rest q (drop n z)
unfolding rest
rest_goes p q n [] goes moves nonempty = absurd (omega arith)
rest_goes p q n (b ∷ z) goes moves nonempty = rw goes (rest_from-drop (n - 1) q z ∙ ap (rest_from 0 q) (drop-front n b z moves))

-- the first fault is that of the text
pub rest_stops : (p : Progress) (e : LexFault) (z : Text) → step p z ≡ Err e → 1 ≤ length z → rest p z ≡ Err e
unfolding rest
rest_stops p e [] stops nonempty = absurd (omega arith)
rest_stops p e (b ∷ z) stops nonempty = rw stops refl

-- at the end, what was read is the lexis
pub rest_ends : (p : Progress) (z : Text) → length z ≡ 0 → rest p z ≡ Ok (record { tokens = p.tokens; places = p.places; end = p.place; files = p.files })
unfolding rest
rest_ends p [] empty = refl
rest_ends p (b ∷ z) empty = absurd (omega arith)

-- nothing is read before a text
pub lexis_starts : (z : Text) → rest start z ≡ lexis z
unfolding lexis
lexis_starts z = refl

-- a fault of a step is that of the text, unless memory ran out
pub fault_given : (e : LexFault) (p q : Progress) (z : Text) (read : Result Lexis LexFault) → Steps (Err e) q (step p z) → 1 ≤ length z → rest p z ≡ read → Gives (Err e) read
fault_given (fault.BadByte place) p q z read steps nonempty same = sym same ∙ rest_stops p _ z steps nonempty
fault_given (fault.OpenComment place) p q z read steps nonempty same = sym same ∙ rest_stops p _ z steps nonempty
fault_given (fault.OpenLiteral place) p q z read steps nonempty same = sym same ∙ rest_stops p _ z steps nonempty
fault_given (fault.NumberTooLarge place) p q z read steps nonempty same = sym same ∙ rest_stops p _ z steps nonempty
fault_given (fault.Directive place) p q z read steps nonempty same = sym same ∙ rest_stops p _ z steps nonempty
fault_given fault.NoMemory p q z read steps nonempty same = tt
