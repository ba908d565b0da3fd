-- Lexemes are whole.
use Rattle.std.proofs.Common.{◌≡◌, ℕ, ◌<◌, ◌≤◌, true, false, [], ◌∷◌, length, take, drop, get_or, get_or-take, get_or-drop, length-take-le, sym, ap, ◌∙◌, ⊎_elim, eq-eqb, add-zero, arith}
use Rattle.std.specs.List.{prefix_len}
use Rattle.std.proofs.lemmas.List.{get_or_past}
use Rattle.std.proofs.lemmas.List.Sums.{prefix_len_is, prefix_len_passes}
use Rattle.std.proofs.str.Laws.{order}
use Rattle.c_lexer.specs.Bytes.{Text, is_letter, is_in, all_in, is_among}
use Rattle.c_lexer.specs.Punctuators.{of_one, of_two, of_three}
use Rattle.c_lexer.specs.Lexemes.{IsWholeWord, IsWholePunctuator}
use Rattle.c_lexer.specs.declared.bytes.ByteClass.{ByteClass}
use Rattle.c_lexer.specs.declared.bytes.ByteClass.TheVariants.{Word}

-- the byte behind the front of a text
pub behind : (z : Text) (n : ℕ) → get_or (drop n z) 0 0 ≡ get_or z n 0
behind z n = get_or-drop n z 0 0 ∙ ap (λ i. get_or z i 0) (add-zero n)

-- a run is all of its class
pub run_all : (c : ByteClass) (z : Text) (n : ℕ) → n ≡ prefix_len (is_in c) z → n ≤ length z → all_in c (take n z) ≡ true
run_all c z n is within =
    let len = length-take-le n z within in
    let each : (k : ℕ) → k < n → is_in c (get_or (take n z) k 0) ≡ true =
    λ k below. ap (is_in c) (get_or-take n z k 0 below) ∙ prefix_len_passes (is_in c) z k 0 (omega (arith, is)) in
    let all = prefix_len_is (is_in c) (take n z) n 0 (omega arith) each (λ below. absurd (omega arith)) in
    eq-eqb _ _ (all ∙ sym len)

-- a run of word bytes that begins with a letter is a whole word
pub word_whole : (z : Text) (n : ℕ) → n ≡ prefix_len (is_in Word) z → 1 ≤ n → n ≤ length z → is_letter (get_or z 0 0) ≡ true
    → (n < length z → is_in Word (get_or z n 0) ≡ false) → IsWholeWord (take n z) (drop n z)
word_whole z n is positive within letter stops = record {
  begins = ap is_letter (get_or-take n z 0 0 (omega arith)) ∙ letter;
  goes_on = run_all Word z n is within;
  ends = ⊎_elim
      (λ below. ap (is_in Word) (behind z n) ∙ stops below)
      (λ past. ap (is_in Word) (behind z n ∙ get_or_past z n 0 past))
      (order n (length z));
}

-- punctuators of one, two and three bytes
pub one_whole : (z : Text) → 1 ≤ length z → is_among of_three (get_or z 0 0 ∷ get_or z 1 0 ∷ get_or z 2 0 ∷ []) ≡ false
    → is_among of_two (get_or z 0 0 ∷ get_or z 1 0 ∷ []) ≡ false → is_among of_one (get_or z 0 0 ∷ []) ≡ true → IsWholePunctuator (take 1 z) (drop 1 z)
one_whole [] nonempty three two one = absurd (omega arith)
one_whole (a ∷ []) nonempty three two one = (one, two, three)
one_whole (a ∷ b ∷ []) nonempty three two one = (one, two, three)
one_whole (a ∷ b ∷ c ∷ z) nonempty three two one = (one, two, three)

pub two_whole : (z : Text) → 2 ≤ length z → is_among of_three (get_or z 0 0 ∷ get_or z 1 0 ∷ get_or z 2 0 ∷ []) ≡ false
    → is_among of_two (get_or z 0 0 ∷ get_or z 1 0 ∷ []) ≡ true → IsWholePunctuator (take 2 z) (drop 2 z)
two_whole [] long three two = absurd (omega arith)
two_whole (a ∷ []) long three two = absurd (omega arith)
two_whole (a ∷ b ∷ []) long three two = (two, three)
two_whole (a ∷ b ∷ c ∷ z) long three two = (two, three)

pub three_whole : (z : Text) → 3 ≤ length z → is_among of_three (get_or z 0 0 ∷ get_or z 1 0 ∷ get_or z 2 0 ∷ []) ≡ true → IsWholePunctuator (take 3 z) (drop 3 z)
three_whole [] long three = absurd (omega arith)
three_whole (a ∷ []) long three = absurd (omega arith)
three_whole (a ∷ b ∷ []) long three = absurd (omega arith)
three_whole (a ∷ b ∷ c ∷ z) long three = three
