-- Values of digits.
use Rattle.std.proofs.Common.{length, get_or, leb, false, ◌<◌, ◌≡◌, ℕ, ◌+◌, ◌*◌, ◌≤◌, List, [], ◌∷◌, arith}
use Rattle.std.proofs.Math.Nat.{mul-le-mul_left}
use Rattle.std.proofs.lemmas.Bool.{lt-leb}
use Rattle.c_arithmetic.specs.Literals.{digit, value_from}

-- no digit makes a number smaller
pub value_from-grows : (base number : ℕ) (z : List ℕ) → 1 ≤ base → number ≤ value_from base number z
value_from-grows base number [] one = omega arith
value_from-grows base number (b ∷ z) one =
    let step = value_from-grows base (number * base + digit b) z one in
    let product = mul-le-mul_left number one in
    omega (arith, step, product)

-- a number above the limit stays above it
pub value_from-above : (base number limit : ℕ) (z : List ℕ) → 1 ≤ base → 1 ≤ length z → limit < number * base + digit (get_or z 0 0) → leb (value_from base number z) limit ≡ false
value_from-above base number limit [] one nonempty above = absurd (omega arith)
value_from-above base number limit (b ∷ z) one nonempty above =
    let grows = value_from-grows base (number * base + digit b) z one in lt-leb _ _ (omega (arith, grows, above))
