-- The tokens that the scanner reads stand in the text.
use Rattle.std.proofs.Common.{◌≡◌, ℕ, suc, ◌+◌, ◌<◌, ◌≤◌, ◌||◌, ◌==◌, slice_index, Bool, true, false, cond, eqb, List, [], ◌∷◌, ◌++◌, Result, Ok, Err, length, take, drop, get_or, refl, sym, subst, ap, ◌∙◌, append_assoc, append-nil, take-append-drop, length-take-le, arith}
use Rattle.std.proofs.Math.Seq.{drop-cons}
use Rattle.std.proofs.lemmas.Bool.Decides.{nat_tests}
use Rattle.base_core.specs.declared.token.Token.{Token}
use Rattle.base_core.specs.declared.token.Class.{Class}
use Rattle.c_lexer.specs.Bytes.{Text, is_blank}
use Rattle.c_lexer.specs.Directives.{body, file_name}
use Rattle.c_lexer.specs.First.{first}
use Rattle.c_lexer.specs.Item.{IsWithin}
use Rattle.c_lexer.specs.Lexemes.{IsWhole}
use Rattle.c_lexer.specs.Lexis.{Progress, after, step, moved, with_file, with_marker}
use Rattle.c_lexer.specs.Grammar.{IsPassed, AreTokensFrom, AreTokensOf, end, blank, passed, token}
use Rattle.c_lexer.specs.declared.fault.LexFault.{LexFault}
use Rattle.c_lexer.specs.declared.item.Item.{Item}
use Rattle.c_lexer.specs.declared.item.Item.TheVariants as item

-- Where the tokens of what is left stand in it, all tokens stand in the text.
abbrev pub Keeps : Text → List Token → Bool → Text → Type 0
Keeps text read fresh z = (ts : List Token) → AreTokensFrom fresh ts z → AreTokensOf (read ++ ts) text

-- a blank
keeps_blank : (text : Text) (read : List Token) (fresh : Bool) (z : Text) → is_blank (slice_index z 0) ≡ true → 1 ≤ length z
    → Keeps text read fresh z → Keeps text read (fresh || slice_index z 0 == 10) (drop 1 z)
keeps_blank text read fresh [] is nonempty keeps = absurd (omega arith)
keeps_blank text read fresh (b ∷ z) is nonempty keeps = λ ts stands. keeps ts (blank fresh ts b z is stands)

-- a comment or a directive
keeps_passed : (text : Text) (read : List Token) (fresh : Bool) (z : Text) (i : Item) (n : ℕ) → first fresh z ≡ i → IsPassed i n → n ≤ length z
    → Keeps text read fresh z → Keeps text read false (drop n z)
keeps_passed text read fresh z i n is by within keeps ts stands =
    let whole = take-append-drop n z in
    let P : Text → Type 0 = λ l. IsPassed (first fresh l) (length (take n z)) in
    let Q : Item → Type 0 = λ j. IsPassed j (length (take n z)) in
    let R : ℕ → Type 0 = λ k. IsPassed i k in
    let here = subst P (sym whole) (subst Q (sym is) (subst R (sym (length-take-le n z within)) by)) in
    keeps ts (subst (AreTokensFrom fresh ts) whole (passed fresh ts (take n z) (drop n z) here stands))

-- a line marker and its newline
keeps_marker : (text : Text) (read : List Token) (fresh : Bool) (z : Text) (n : ℕ) → first fresh z ≡ item.Marker n → n < length z → get_or z n 0 ≡ 10
    → Keeps text read fresh z → Keeps text read true (drop (n + 1) z)
keeps_marker text read fresh z n is within newline keeps ts stands =
    let next : suc n ≡ n + 1 = omega arith in
    let front = drop-cons z n 0 within ∙ ap (λ b. b ∷ drop (suc n) z) newline ∙ ap (λ k. 10 ∷ drop k z) next in
    keeps_passed text read fresh z (item.Marker n) n is refl (omega arith) keeps ts
    (subst (AreTokensFrom false ts) (sym front) (blank false ts 10 (drop (n + 1) z) refl stands))

-- a token
keeps_token : (text : Text) (read : List Token) (fresh : Bool) (z : Text) (class : Class) (n : ℕ) → first fresh z ≡ item.Token class n → n ≤ length z → IsWhole class (take n z) (drop n z)
    → Keeps text read fresh z → Keeps text (read ++ record { class = class; lexeme = take n z } ∷ []) false (drop n z)
keeps_token text read fresh z class n is within whole_lexeme keeps ts stands =
    let t : Token = record { class = class; lexeme = take n z } in
    let whole = take-append-drop n z in
    let here = ap (first fresh) whole ∙ is ∙ ap (item.Token class) (sym (length-take-le n z within)) in
    let all : AreTokensFrom fresh (t ∷ ts) (take n z ++ drop n z) = token fresh t ts (drop n z) here whole_lexeme stands in
    subst (λ l. AreTokensOf l text) (sym (append_assoc read (t ∷ []) ts)) (keeps (t ∷ ts) (subst (AreTokensFrom fresh (t ∷ ts)) whole all))

-- the parts of what a step gives
tokens_of : Result (Progress × ℕ) LexFault → List Token
tokens_of (Ok next) = next.0.tokens
tokens_of (Err e) = []

fresh_of : Result (Progress × ℕ) LexFault → Bool
fresh_of (Ok next) = next.0.fresh
fresh_of (Err e) = false

length_of : Result (Progress × ℕ) LexFault → ℕ
length_of (Ok next) = next.1
length_of (Err e) = 0

moves : (text : Text) (p q : Progress) (n m : ℕ) (z : Text) (a : Result (Progress × ℕ) LexFault) → a ≡ Ok (p, n) → a ≡ Ok (q, m)
    → Keeps text p.tokens p.fresh (drop n z) → Keeps text q.tokens q.fresh (drop m z)
unfolding tokens_of fresh_of length_of
moves text p q n m z a first second keeps =
    let same = sym first ∙ second in
    let P : List Token → Type 0 = λ l. Keeps text l q.fresh (drop m z) in
    let F : Bool → Type 0 = λ f. Keeps text p.tokens f (drop m z) in
    let Q : ℕ → Type 0 = λ k. Keeps text p.tokens p.fresh (drop k z) in
    subst P (ap tokens_of same) (subst F (ap fresh_of same) (subst Q (ap length_of same) keeps))

-- one step of the scanner
pub keeps_step : (text : Text) (p q : Progress) (m : ℕ) (z : Text) (i : Item) → first p.fresh z ≡ i → IsWithin i z → 1 ≤ length z → after p z i ≡ Ok (q, m)
    → Keeps text p.tokens p.fresh z → Keeps text q.tokens q.fresh (drop m z)
keeps_step text p q m z item.Blank is within nonempty goes keeps = moves text _ q 1 m z _ refl goes (keeps_blank text p.tokens p.fresh z within nonempty keeps)
keeps_step text p q m z (item.Gap n) is within nonempty goes keeps =
    moves text _ q n m z _ refl goes (keeps_passed text p.tokens p.fresh z (item.Gap n) n is refl within.1 keeps)
keeps_step text p q m z (item.Marker n) is within nonempty goes keeps = by_end (eqb n (length z)) refl goes where
  ended : Progress
  ended = record p { files = with_file p.files (file_name (body z)); place = moved p.place z; fresh = false }

  by_end : (b : Bool) → eqb n (length z) ≡ b → cond {A = Result (Progress × ℕ) LexFault} b (Ok (ended, n)) (Ok (with_marker p z, n + 1)) ≡ Ok (q, m)
      → Keeps text q.tokens q.fresh (drop m z)
  by_end true ends goes = moves text ended q n m z _ refl goes (keeps_passed text p.tokens p.fresh z (item.Marker n) n is refl within.0.1 keeps)
  by_end false ends goes =
      let below : n < length z = grind (arith, nat_tests) in
      moves text (with_marker p z) q (n + 1) m z _ refl goes (keeps_marker text p.tokens p.fresh z n is below (within.2 below) keeps)
keeps_step text p q m z (item.Token class n) is within nonempty goes keeps =
    moves text _ q n m z _ refl goes (keeps_token text p.tokens p.fresh z class n is within.0.1 within.1 keeps)
keeps_step text p q m z (item.Fault refusal n) is within nonempty goes keeps = absurd (cc)

-- nothing is read before a text
pub keeps_start : (text : Text) (read : List Token) (fresh : Bool) → read ≡ [] → fresh ≡ true → Keeps text read fresh text
keeps_start text read fresh nothing new ts stands =
    subst (λ l. AreTokensOf (l ++ ts) text) (sym nothing) (subst (λ f. AreTokensFrom f ts text) new stands)

-- a turn of the scanner
pub keeps_turn : (text : Text) (p q : Progress) (m : ℕ) (z rest : Text) → rest ≡ drop m z → IsWithin (first p.fresh z) z → 1 ≤ length z → step p z ≡ Ok (q, m)
    → Keeps text p.tokens p.fresh z → Keeps text q.tokens q.fresh rest
unfolding step
keeps_turn text p q m z rest is within nonempty goes keeps =
    subst (Keeps text q.tokens q.fresh) (sym is) (keeps_step text p q m z (first p.fresh z) refl within nonempty goes keeps)

-- at the end the tokens that were read stand in the text
pub keeps_end : (text : Text) (read : List Token) (fresh : Bool) (z : Text) → length z ≡ 0 → Keeps text read fresh z → AreTokensOf read text
keeps_end text read fresh [] empty keeps = subst (λ l. AreTokensOf l text) (append-nil read) (keeps [] (end fresh))
keeps_end text read fresh (b ∷ z) empty keeps = absurd (omega arith)
