-- What the scanner keeps from step to step.
use Rattle.std.proofs.Common.{◌≡◌, ℕ, ◌+◌, ◌-◌, ◌≤◌, length, take, drop, length-take-le, length-drop, refl, sym, ◌∙◌, subst, ap, arith}
use Rattle.base_core.specs.Limits.{most_bytes}
use Rattle.c_lexer.specs.Bytes.{Text}
use Rattle.c_lexer.specs.Lexis.{Progress, start}
use Rattle.c_lexer.specs.Progress.{IsReady}

-- the front of a text and what follows it are as long as the text
pub ready_split : (p : Progress) (z text : Text) (n : ℕ) → text ≡ take n z → n ≤ length z → IsReady p (length z) → IsReady p (length text + (length z - n))
ready_split p z text n is within ready =
    let front = ap length is in
    let taken = length-take-le n z within in
    let whole : length z ≡ length text + (length z - n) = omega arith in
    subst (IsReady p) whole ready

pub ready_front : (p : Progress) (z text : Text) (n : ℕ) → text ≡ take n z → n ≤ length z → IsReady p (length z) → IsReady p (length text)
ready_front p z text n is within ready =
    let front = ap length is in
    let taken = length-take-le n z within in
    record { line = omega (arith, ready.line); column = omega (arith, ready.column); files = omega (arith, ready.files); paired = ready.paired }

pub ready_start : (n : ℕ) → n ≤ most_bytes → IsReady start n
ready_start n within = record { line = omega arith; column = omega arith; files = omega arith; paired = refl }

pub ready_rest : (p : Progress) (z text : Text) (n : ℕ) → text ≡ drop n z → IsReady p (length z - n) → IsReady p (length text)
ready_rest p z text n is ready = subst (IsReady p) (sym (length-drop n z) ∙ ap length (sym is)) ready
