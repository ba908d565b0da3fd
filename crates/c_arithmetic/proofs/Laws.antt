-- Laws of the definitions: a conversion gives a value of the type and keeps what is one already, and the result of an operator is a
-- value of its type.
use Rattle.std.proofs.Common.{ℕ, zero, suc, List, ◌≡◌, ◌<◌, ◌≤◌, ◌+◌, ◌-◌, ◌%◌, ◌^◌, Bool, true, false, not, ◌&&◌, ◌||◌, cond, ltb, leb, ℤ, pos, negsuc, ◌-ℤ◌, unsigned_abs, refl, ap, ◌∙◌, arith, IsTrue, IfSome, Option, Some, None, inl, inr, lit<, ◌/◌, ◌+ℤ◌, ◌*ℤ◌, neg_ℤ, bit_and, bit_or, bit_xor}
use Rattle.std.specs.Prelude.{int_lt, int_div, int_rem}
use Rattle.std.proofs.Math.Nat.{two-pow-succ, mod-eq_of_lt, mod-le, div-le_self}
use Rattle.std.proofs.lemmas.Nat.{pow_pos, mod_below, and_le_l, or_lt, xor_lt}
use Rattle.std.proofs.lemmas.Int.{ints}
use Rattle.std.proofs.lemmas.Bool.{lt-ltb, le-leb, lt-leb, ltb-true, ltb-false, cases_lt, and_parts, false≢true, true≢false}
use Rattle.std.specs.Int.{int_rem_euclid, int_shr}
use Rattle.c_arithmetic.specs.declared.types.IntType.{IntType}
use Rattle.c_arithmetic.specs.declared.value.Value.{Value}
use Rattle.c_arithmetic.specs.Types.{int, unsigned_int, long, unsigned_long, char, promoted, of_greater_rank, of_mixed, usual, common}
use Rattle.c_arithmetic.specs.Operations.{settled, operand, plus, negated, complement, sum, difference, product, is_zero, quotient, remainder, places, moved_left, moved_right, shifted_left, shifted_right, both_bits, either_bits, unequal_bits}
use Rattle.c_arithmetic.specs.Comparison.{truth}
use Rattle.std.specs.List.{list_any}
use Rattle.c_arithmetic.specs.Literals.{is_unsigned_letter, is_long_letter, is_decimal, magnitude, first_type, integer_type, integer_number, character, character_number}
use Rattle.c_arithmetic.specs.Conversion.{bits, half, modulus, holds, residue, represented, converted, kept}

-- `holds` and `represented` by the sign, 2^(w - 1) and 2^w
abbrev pub within : Bool → ℕ → ℕ → ℤ → Bool
within s h m (pos n) = ltb n (cond s h m)
within s h m (negsuc n) = s && ltb n h

abbrev pub number_of : Bool → ℕ → ℕ → ℕ → ℤ
number_of s h m n = cond (s && leb h n) (pos n -ℤ pos m) (pos n)

-- a number from half on stands for a negative one
number_of-upper : (h m n : ℕ) → h ≤ n → number_of true h m n ≡ pos n -ℤ pos m
number_of-upper h m n q = ap (λ (b : Bool). cond b (pos n -ℤ pos m) (pos n)) (le-leb h n q)

number_of-lower : (h m n : ℕ) → n < h → number_of true h m n ≡ pos n
number_of-lower h m n q = ap (λ (b : Bool). cond b (pos n -ℤ pos m) (pos n)) (lt-leb h n q)

negative : (n m k : ℕ) → n + suc k ≡ m → pos n -ℤ pos m ≡ negsuc k
negative n m k e = omega (arith, ints)

number_of-within : (s : Bool) (h m n : ℕ) → m ≡ h + h → n < m → within s h m (number_of s h m n) ≡ true
number_of-within true h m n e p =
    elim (cases_lt n h) [
      | inl q ↦ ap (within true h m) (number_of-lower h m n q) ∙ lt-ltb n h q
      | inr q ↦ ap (within true h m) (number_of-upper h m n q ∙ negative n m (m - suc n) (omega arith)) ∙ lt-ltb (m - suc n) h (omega arith)
    ]
number_of-within false h m n e p = lt-ltb n m p

doubled : (t : IntType) → 0 < t.width → modulus t ≡ half t + half t
doubled t p =
    let one : bits t ≡ suc (bits t - 1) = omega arith in
    ap (λ (k : ℕ). 2 ^ k) one ∙ two-pow-succ (bits t - 1)

residue-below : (t : IntType) (z : ℤ) → residue t z < modulus t
residue-below t (pos n) = mod_below n (modulus t) (pow_pos (bits t))
residue-below t (negsuc n) = let some = pow_pos (bits t) in omega arith

-- ---- conversion (C11 6.3.1.3)

-- it gives a value of the type
pub holds-converted : (t : IntType) (z : ℤ) → 0 < t.width → IsTrue (holds t (converted t z))
holds-converted t z p = number_of-within t.signed (half t) (modulus t) (residue t z) (doubled t p) (residue-below t z)

half-below : (t : IntType) → 0 < t.width → half t < modulus t
half-below t p = let some = pow_pos (bits t - 1) in omega (arith, doubled t p)

-- a test that fails in one case holds in the other
same_number : (s : Bool) (h m : ℕ) (z : ℤ) (r : ℕ) → m ≡ h + h → within s h m z ≡ true → r ≡ unsigned_abs (int_rem_euclid z (pos m)) → number_of s h m r ≡ z
same_number true h m (pos n) r e p q =
    let low : n < h = ltb-true n h p in
    let same : r ≡ n = q ∙ mod-eq_of_lt (omega arith) in
    ap (number_of true h m) same ∙ number_of-lower h m n low
same_number false h m (pos n) r e p q = ap pos (q ∙ mod-eq_of_lt (ltb-true n m p))
same_number true h m (negsuc n) r e p q =
    let low : n < h = ltb-true n h p in
    let same : n % m ≡ n = mod-eq_of_lt (omega arith) in
    let whole : r + suc n ≡ m = omega (arith, same, q) in
    number_of-upper h m r (omega arith) ∙ negative r m n whole
same_number false h m (negsuc n) r e p q = absurd (false≢true p)

-- it keeps what is a value of the type
pub converted-held : (t : IntType) (z : ℤ) → 0 < t.width → IsTrue (holds t z) → converted t z ≡ z
converted-held t z p h = same_number t.signed (half t) (modulus t) z (residue t z) (doubled t p) h refl

-- ---- results (6.5p5)

some_kept : (b : Bool) (z : ℤ) (P : ℤ → Type 0) → P z → IfSome (cond b (Some z) None) P
some_kept true z P p = p
some_kept false z P p = tt

kept_gives : (z : ℤ) (P : ℤ → Type 0) → P z → IfSome (kept z) P
kept_gives z P p = some_kept (holds long z) z P p

settled_gives : (s b : Bool) (z n : ℤ) (P : ℤ → Type 0) → (b ≡ true → P z) → (s ≡ false → P n) → IfSome (cond s (cond b (kept z) None) (kept n)) P
settled_gives true true z n P p q = kept_gives z P (p refl)
settled_gives true false z n P p q = tt
settled_gives false b z n P p q = kept_gives n P (q refl)

unsigned_within : (s : Bool) (h m n : ℕ) → s ≡ false → n < m → within s h m (pos n) ≡ true
unsigned_within true h m n e p = absurd (true≢false e)
unsigned_within false h m n e p = lt-ltb n m p

pub holds-settled : (t : IntType) (z : ℤ) → IfSome (settled t z) (λ n. IsTrue (holds t n))
holds-settled t z =
    settled_gives t.signed (holds t z) z (pos (residue t z)) (λ n. IsTrue (holds t n)) (λ e. e)
    (λ e. unsigned_within t.signed (half t) (modulus t) (residue t z) e (residue-below t z))

holds-kept_represented : (t : IntType) (n : ℕ) → 0 < t.width → n < modulus t → IfSome (kept (represented t n)) (λ z. IsTrue (holds t z))
holds-kept_represented t n p q =
    kept_gives (represented t n) (λ z. IsTrue (holds t z)) (number_of-within t.signed (half t) (modulus t) n (doubled t p) q)

-- ---- the types of results are wide enough for a sign

one_of : (b : Bool) (s t : IntType) → 0 < s.width → 0 < t.width → 0 < (cond b s t).width
one_of true s t p q = p
one_of false s t p q = q

promoted_by : (b : Bool) (t : IntType) → (b ≡ false → 0 < t.width) → 0 < (cond b int t).width
promoted_by true t p = lit< tt
promoted_by false t p = p refl

pub promoted-wide : (t : IntType) → 0 < (promoted t).width
promoted-wide t = promoted_by (ltb t.width 32) t (λ e. omega (arith, ltb-false t.width 32 e))

greater-wide : (s t : IntType) → 0 < s.width → 0 < t.width → 0 < (of_greater_rank s t).width
greater-wide s t p q = one_of (ltb s.width t.width) t s q p

mixed-wide : (u s : IntType) → 0 < u.width → 0 < s.width → 0 < (of_mixed u s).width
mixed-wide u s p q = one_of (leb s.width u.width) u s p q

usual-wide : (s t : IntType) → 0 < s.width → 0 < t.width → 0 < (usual s t).width
usual-wide s t p q =
    one_of s.signed (cond t.signed (of_greater_rank s t) (of_mixed t s)) (cond t.signed (of_mixed s t) (of_greater_rank s t))
    (one_of t.signed (of_greater_rank s t) (of_mixed t s) (greater-wide s t p q) (mixed-wide t s q p))
    (one_of t.signed (of_mixed s t) (of_greater_rank s t) (mixed-wide s t p q) (greater-wide s t p q))

pub common-wide : (s t : IntType) → 0 < (common s t).width
common-wide s t = usual-wide (promoted s) (promoted t) (promoted-wide s) (promoted-wide t)

-- a number that is nearer to 0, with the same sign
nearer_pos : (s : Bool) (h m n k : ℕ) → k ≤ n → within s h m (pos n) ≡ true → within s h m (pos k) ≡ true
nearer_pos true h m n k q p = lt-ltb k h (omega (arith, ltb-true n h p))
nearer_pos false h m n k q p = lt-ltb k m (omega (arith, ltb-true n m p))

nearer_neg : (s : Bool) (h m n k : ℕ) → k ≤ n → within s h m (negsuc n) ≡ true → within s h m (negsuc k) ≡ true
nearer_neg true h m n k q p = lt-ltb k h (omega (arith, ltb-true n h p))
nearer_neg false h m n k q p = absurd (false≢true p)

zero_within : (s : Bool) (h m : ℕ) → 0 < h → 0 < m → within s h m (pos 0) ≡ true
zero_within true h m p q = lt-ltb 0 h p
zero_within false h m p q = lt-ltb 0 m q

-- ---- each operator's result is a value of its type

-- z is a value of the type, if there is one
abbrev pub IsHeld : IntType → Option ℤ → Type 0
IsHeld t o = IfSome o (λ z. IsTrue (holds t z))

not_if : (b : Bool) (t : IntType) (o : Option ℤ) → IsHeld t o → IsHeld t (cond b None o)
not_if true t o p = tt
not_if false t o p = p

if_kept : (b : Bool) (t : IntType) (z : ℤ) → IsTrue (holds t z) → IsHeld t (cond b (kept z) None)
if_kept true t z p = kept_gives z (λ n. IsTrue (holds t n)) p
if_kept false t z p = tt

held_operand : (t : IntType) (x : Value) → 0 < t.width → IsTrue (holds t (operand t x))
held_operand t x p = holds-converted t x.number p

pub held-converted : (t : IntType) (x : Value) → 0 < t.width → IsHeld t (kept (operand t x))
held-converted t x p = kept_gives (operand t x) (λ n. IsTrue (holds t n)) (held_operand t x p)

pub held-plus : (x : Value) → IsHeld (promoted x.of) (plus x)
held-plus x = held-converted (promoted x.of) x (promoted-wide x.of)

pub held-negated : (x : Value) → IsHeld (promoted x.of) (negated x)
held-negated x = holds-settled (promoted x.of) (neg_ℤ (operand (promoted x.of) x))

pub held-complement : (x : Value) → IsHeld (promoted x.of) (complement x)
held-complement x =
    let t = promoted x.of in
    let below = residue-below t x.number in
    holds-kept_represented t (modulus t - 1 - residue t x.number) (promoted-wide x.of) (omega (arith, below))

pub held-sum : (x y : Value) → IsHeld (common x.of y.of) (sum x y)
held-sum x y = let t = common x.of y.of in holds-settled t (operand t x +ℤ operand t y)

pub held-difference : (x y : Value) → IsHeld (common x.of y.of) (difference x y)
held-difference x y = let t = common x.of y.of in holds-settled t (operand t x -ℤ operand t y)

pub held-product : (x y : Value) → IsHeld (common x.of y.of) (product x y)
held-product x y = let t = common x.of y.of in holds-settled t (operand t x *ℤ operand t y)

pub held-quotient : (x y : Value) → IsHeld (common x.of y.of) (quotient x y)
held-quotient x y =
    let t = common x.of y.of in
    let q = int_div (operand t x) (operand t y) in
    not_if (is_zero (operand t y)) t (settled t q) (holds-settled t q)

rest_within : (t : IntType) (n r : ℕ) → 0 < t.width → r ≤ suc n → IsTrue (holds t (negsuc n)) → IsTrue (holds t (neg_ℤ (pos r)))
rest_within t n zero w p h = zero_within t.signed (half t) (modulus t) (pow_pos (bits t - 1)) (pow_pos (bits t))
rest_within t n (suc k) w p h = nearer_neg t.signed (half t) (modulus t) n k (omega arith) h

rem_within : (t : IntType) (z d : ℤ) → 0 < t.width → IsTrue (holds t z) → IsTrue (holds t (int_rem z d))
rem_within t (pos n) d w h = nearer_pos t.signed (half t) (modulus t) n (n % unsigned_abs d) (mod-le n (unsigned_abs d)) h
rem_within t (negsuc n) d w h = rest_within t n (suc n % unsigned_abs d) w (mod-le (suc n) (unsigned_abs d)) h

pub held-remainder : (x y : Value) → IsHeld (common x.of y.of) (remainder x y)
held-remainder x y =
    let t = common x.of y.of in
    let z = operand t x in
    let d = operand t y in
    let w = common-wide x.of y.of in
    not_if (is_zero d) t (cond (holds t (int_div z d)) (kept (int_rem z d)) None)
    (if_kept (holds t (int_div z d)) t (int_rem z d) (rem_within t z d w (held_operand t x w)))

held_moved_left : (t : IntType) (z : ℤ) (o : Option ℕ) → IsHeld t (moved_left t z o)
held_moved_left t z None = tt
held_moved_left t z (Some n) = not_if (int_lt z (pos 0)) t (settled t (z *ℤ pos (2 ^ n))) (holds-settled t (z *ℤ pos (2 ^ n)))

pub held-shifted_left : (x y : Value) → IsHeld (promoted x.of) (shifted_left x y)
held-shifted_left x y = let t = promoted x.of in held_moved_left t (operand t x) (places t (operand (promoted y.of) y))

shr_within : (t : IntType) (z : ℤ) (n : ℕ) → IsTrue (holds t z) → IsTrue (holds t (int_shr z n))
shr_within t (pos a) n h = nearer_pos t.signed (half t) (modulus t) a (a / 2 ^ n) (div-le_self a (2 ^ n)) h
shr_within t (negsuc a) n h = nearer_neg t.signed (half t) (modulus t) a (a / 2 ^ n) (div-le_self a (2 ^ n)) h

held_moved_right : (t : IntType) (z : ℤ) (o : Option ℕ) → IsTrue (holds t z) → IsHeld t (moved_right z o)
held_moved_right t z None h = tt
held_moved_right t z (Some n) h = kept_gives (int_shr z n) (λ k. IsTrue (holds t k)) (shr_within t z n h)

pub held-shifted_right : (x y : Value) → IsHeld (promoted x.of) (shifted_right x y)
held-shifted_right x y =
    let t = promoted x.of in
    held_moved_right t (operand t x) (places t (operand (promoted y.of) y)) (held_operand t x (promoted-wide x.of))

pub held-both_bits : (x y : Value) → IsHeld (common x.of y.of) (both_bits x y)
held-both_bits x y =
    let t = common x.of y.of in
    let m = residue t x.number in
    let n = residue t y.number in
    holds-kept_represented t (bit_and m n) (common-wide x.of y.of) (omega (arith, and_le_l m n, residue-below t x.number))

pub held-either_bits : (x y : Value) → IsHeld (common x.of y.of) (either_bits x y)
held-either_bits x y =
    let t = common x.of y.of in
    let m = residue t x.number in
    let n = residue t y.number in
    holds-kept_represented t (bit_or m n) (common-wide x.of y.of) (or_lt (bits t) m n (residue-below t x.number) (residue-below t y.number))

pub held-unequal_bits : (x y : Value) → IsHeld (common x.of y.of) (unequal_bits x y)
held-unequal_bits x y =
    let t = common x.of y.of in
    let m = residue t x.number in
    let n = residue t y.number in
    holds-kept_represented t (bit_xor m n) (common-wide x.of y.of) (xor_lt (bits t) m n (residue-below t x.number) (residue-below t y.number))

pub held-truth : (b : Bool) → IsTrue (holds int (truth b))
held-truth true = refl
held-truth false = refl

-- ---- literals (C11 6.4.4)

kept_where : (b : Bool) (z : ℤ) (P : ℤ → Type 0) → (b ≡ true → P z) → IfSome (cond b (Some z) None) P
kept_where true z P p = p refl
kept_where false z P p = tt

typed_by : (b : Bool) (s t : IntType) (n : ℕ) → (b ≡ true → holds s (pos n) ≡ true) → IsHeld t (kept (pos n)) → IsHeld (cond b s t) (kept (pos n))
typed_by true s t n p q = kept_gives (pos n) (λ z. IsTrue (holds s z)) (p refl)
typed_by false s t n p q = q

past_long : (n : ℕ) → IsHeld unsigned_long (kept (pos n))
past_long n = kept_where (holds long (pos n)) (pos n) (λ z. IsTrue (holds unsigned_long z)) (λ e. lt-ltb n (2 ^ 64) (omega (arith, ltb-true n (2 ^ 63) e)))

held-first_type : (d u l : Bool) (n : ℕ) → IsHeld (first_type d u l n) (kept (pos n))
held-first_type d u l n =
    let past_unsigned =
    typed_by (not u && holds long (pos n)) long unsigned_long n (λ e. (and_parts (not u) (holds long (pos n)) e).1) (past_long n) in
    let past_int =
    typed_by (not l && (u || not d) && holds unsigned_int (pos n)) unsigned_int (cond (not u && holds long (pos n)) long unsigned_long) n
    (λ e. (and_parts (not l && (u || not d)) (holds unsigned_int (pos n)) e).1) past_unsigned in
    typed_by (not l && not u && holds int (pos n)) int
    (cond (not l && (u || not d) && holds unsigned_int (pos n)) unsigned_int (cond (not u && holds long (pos n)) long unsigned_long)) n
    (λ e. (and_parts (not l && not u) (holds int (pos n)) e).1) past_int

pub held-integer : (z : List ℕ) → IsHeld (integer_type z) (integer_number z)
held-integer z = held-first_type (is_decimal z) (list_any is_unsigned_letter z) (list_any is_long_letter z) (magnitude z)

char-int : (z : ℤ) → holds char z ≡ true → holds int z ≡ true
char-int (pos n) p = lt-ltb n (2 ^ 31) (omega (arith, ltb-true n 128 p))
char-int (negsuc n) p = lt-ltb n (2 ^ 31) (omega (arith, ltb-true n 128 p))

pub held-character : (z : List ℕ) → IsHeld int (character_number z)
held-character z =
    kept_where (leb (character z) 255) (converted char (pos (character z))) (λ n. IsTrue (holds int n))
    (λ e. char-int (converted char (pos (character z))) (holds-converted char (pos (character z)) (lit< tt)))
