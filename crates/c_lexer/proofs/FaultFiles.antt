-- The file of the first fault, item by item.
use Rattle.std.proofs.Common.{◌≡◌, ℕ, zero, suc, ◌-◌, ◌≤◌, [], ◌∷◌, Ok, Err, None, length, take, drop, refl, sym, ap, ◌∙◌, arith}
use Rattle.c_lexer.specs.Bytes.{Text}
use Rattle.c_lexer.specs.First.{first}
use Rattle.c_lexer.specs.Lexis.{Progress, step, start, refused, moved, after}
use Rattle.c_lexer.specs.FaultFile.{file_named, fault_file_from, fault_file_behind, fault_file}
use Rattle.c_lexer.specs.declared.item.Item.TheVariants as item
use Rattle.c_lexer.specs.declared.item.Refusal.{Refusal}
use Rattle.c_lexer.specs.declared.fault.LexFault.{LexFault}

from-drop : (n : ℕ) (p : Progress) (z : Text) → fault_file_from n p z ≡ fault_file_from 0 p (drop n z)
from-drop zero p z = refl
from-drop (suc n) p [] = refl
from-drop (suc n) p (b ∷ z) = from-drop n p z

drop-front : (n b : ℕ) (z : Text) → 1 ≤ n → drop (n - 1) z ≡ drop n (b ∷ z)
drop-front zero b z h = absurd (omega arith)
drop-front (suc n) b z h = let e : suc n - 1 ≡ n = omega arith in ap (λ k. drop k z) e

-- after an item it is the file of the first fault in what follows
pub behind_goes : (p q : Progress) (n : ℕ) (z : Text) → step p z ≡ Ok (q, n) → 1 ≤ n → 1 ≤ length z → fault_file_behind p z ≡ fault_file_behind q (drop n z)
unfolding fault_file_behind
behind_goes p q n [] goes moves nonempty = absurd (omega arith)
behind_goes p q n (b ∷ z) goes moves nonempty = rw goes (from-drop (n - 1) q z ∙ ap (fault_file_from 0 q) (drop-front n b z moves))

stops : (p : Progress) (e : LexFault) (z : Text) → step p z ≡ Err e → 1 ≤ length z → fault_file_behind p z ≡ file_named p.files p.place.file
unfolding fault_file_behind
stops p e [] fault nonempty = absurd (omega arith)
stops p e (b ∷ z) fault nonempty = rw fault refl

step_fault : (p : Progress) (refusal : Refusal) (n : ℕ) (z : Text) → item.Fault refusal n ≡ first p.fresh z → step p z ≡ Err (refused refusal (moved p.place (take n z)))
unfolding step
step_fault p refusal n z is = ap (after p z) (sym is)

-- where a fault stands at the front, it is the file of this place
pub behind_stops : (p : Progress) (refusal : Refusal) (n : ℕ) (z : Text) → item.Fault refusal n ≡ first p.fresh z → 1 ≤ length z → fault_file_behind p z ≡ file_named p.files p.place.file
behind_stops p refusal n z is nonempty = stops p (refused refusal (moved p.place (take n z))) z (step_fault p refusal n z is) nonempty

pub behind_ends : (p : Progress) (z : Text) → length z ≡ 0 → fault_file_behind p z ≡ None
unfolding fault_file_behind
behind_ends p [] empty = refl
behind_ends p (b ∷ z) empty = absurd (omega arith)

pub behind_starts : (z : Text) → fault_file_behind start z ≡ fault_file z
unfolding fault_file
behind_starts z = refl
