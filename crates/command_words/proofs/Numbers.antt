-- What a parse of decimal digits says of the number of a generated program.
use Rattle.std.proofs.Common.{◌≡◌, ◌<◌, ◌≤◌, ◌^◌, ◌&&◌, ◌||◌, ℕ, Bool, true, false, refl, sym, ap, subst, arith, List, [], ◌∷◌, length, drop, Some, None, true≢false, nat_lt, cond, lt-ltb, le-ltb, ltb-true, ltb-false}
use Rattle.std.specs.Prelude.{◌==◌, if◌then◌else◌}
use Rattle.std.specs.List.{list_all}
use Rattle.std.specs.Char.{digit_value}
use Rattle.std.specs.Str.Parse.{AllDigits, digits_value, without_leading_plus}
use Rattle.command_words.specs.Values.{begins_badly, is_ill_formed, is_numeral, number_in}

both : (a b : Bool) → (a && b) ≡ true → (a ≡ true) × (b ≡ true)
both true b e = (refl, e)
both false b e = absurd (true≢false (sym e))

right_false : (a b : Bool) → (a || b) ≡ false → b ≡ false
right_false true b e = absurd (true≢false e)
right_false false b e = e

left_false : (a b : Bool) → (a || b) ≡ false → a ≡ false
left_false true b e = absurd (true≢false e)
left_false false b e = refl

digits_pass : (ds : List ℕ) → AllDigits 10 ds → list_all (λ d. nat_lt (digit_value d) 10) ds ≡ true
digits_pass [] h = refl
digits_pass (d ∷ ds) h = rw (lt-ltb (digit_value d) 10 h.0) (digits_pass ds h.1)

digits_from : (ds : List ℕ) → list_all (λ d. nat_lt (digit_value d) 10) ds ≡ true → AllDigits 10 ds
digits_from [] e = tt
digits_from (d ∷ ds) e =
    let parts = both _ _ e in
    (ltb-true _ _ parts.0, digits_from ds parts.1)

no_plus : (word : List ℕ) → begins_badly word ≡ false → without_leading_plus word ≡ word
no_plus [] e = refl
no_plus (x ∷ xs) e = ap (λ b. drop (cond b 1 0) (x ∷ xs)) (left_false (x == 43) _ e)

no_sign : (word : List ℕ) → is_ill_formed word ≡ false → without_leading_plus word ≡ word
no_sign word e = no_plus word (right_false (nat_lt 4 (length word)) (begins_badly word) e)

small : (n : ℕ) → n ≤ 2000 → n < 2 ^ 32
small n within = omega arith

-- the digits are those of a number that fits
abbrev pub Fits : List ℕ → Type 0
Fits ds = ((0 < length ds) × AllDigits 10 ds) × (digits_value 10 ds < 2 ^ 32)

pub number_read : (word : List ℕ) (n : ℕ) → is_ill_formed word ≡ false → Fits (without_leading_plus word) × (n ≡ digits_value 10 (without_leading_plus word)) → n ≤ 2000
    → Some n ≡ number_in word
number_read word n well parses few =
    let reads : Fits word × (n ≡ digits_value 10 word) = subst (λ ds. Fits ds × (n ≡ digits_value 10 ds)) (no_sign word well) parses in
    let value : n ≡ digits_value 10 word = reads.1 in
    let within : digits_value 10 word ≤ 2000 = omega (arith, value, few) in
    rw (lt-ltb 0 (length word) reads.0.0.0, digits_pass word reads.0.0.1, le-ltb 2000 (digits_value 10 word) within) (ap (λ (k : ℕ). Some k) value)

pub number_refused : (word : List ℕ) → is_ill_formed word ≡ false → (Fits (without_leading_plus word) → ⊥) → None ≡ number_in word
number_refused word well parses = go (is_numeral word) (nat_lt 2000 (digits_value 10 word)) refl refl
  where
    no : Fits word → ⊥
    no = subst (λ ds. Fits ds → ⊥) (no_sign word well) parses

    go : (b past : Bool) → is_numeral word ≡ b → nat_lt 2000 (digits_value 10 word) ≡ past
        → None ≡ (if b then (if past then None else Some (digits_value 10 word)) else None)
    go false past is over = refl
    go true true is over = refl
    go true false is over =
        let parts = both (nat_lt 0 (length word)) (list_all (λ d. nat_lt (digit_value d) 10) word) is in
        let below = small (digits_value 10 word) (ltb-false 2000 (digits_value 10 word) over) in
        absurd (no ((ltb-true 0 (length word) parts.0, digits_from word parts.1), below))
