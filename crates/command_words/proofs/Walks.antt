-- How `clap` walks over words of the stated form.
use Rattle.std.proofs.Common.{◌≡◌, ◌∙◌, refl, ap, ℕ, false, List, [], ◌∷◌, ◌++◌, Option, None, cond, eqb, append_assoc}
use Rattle.std.specs.Prelude.{fold}
use Rattle.std.specs.Str.{bytes_eq}
use Rattle.std.proofs.lemmas.Bool.{ne_eqb}
use Rattle.clap.specs.Lexer.{long_of, short_of}
use Rattle.clap.specs.Walk.{Held, Rule, Row, Text, Waiting, Walk, Step, idle, option, positional, trailing, after_step, long_or_other, plain_word, short_or_plain, walked, word_met}
use Rattle.clap.specs.Simple.{Shape, built}
use Rattle.clap.specs.Kinds.{Kinds, or_else}
use Rattle.clap.specs.Faults.{flag_word_fault, step_fault, turn_fault, walk_fault, word_fault}
use Rattle.command_words.specs.Command.{command_app}
use Rattle.command_words.specs.Stated.{IsPlain}

-- the command as it is built
abbrev pub shape : Shape
shape = (built command_app).top

abbrev pub rules : List Rule
rules = shape.rules

abbrev pub Pending : Type 0
Pending = Option (Text × List Text)

abbrev pub held : List Row → Pending → Held
held rows pending = record { rows = rows; pending = pending; skip = 0 }

-- where the walk stands between two words
abbrev pub at : Waiting → ℕ → List Row → Pending → Walk
at waiting position rows pending = record { held = held rows pending; waiting = waiting; position = position; is_trailing = false; stopped = None }

-- ---- a plain word is no flag

dashes : (x : ℕ) (xs : Text) → eqb x 45 ≡ false → bytes_eq (x ∷ xs) (45 ∷ 45 ∷ []) ≡ false
dashes x xs other = rw other refl

no_long : (x : ℕ) (xs : Text) → eqb x 45 ≡ false → long_of (x ∷ xs) ≡ None
no_long x xs other = rw other refl

no_short : (x : ℕ) (xs : Text) → eqb x 45 ≡ false → short_of (x ∷ xs) ≡ None
no_short x xs other = rw other refl

plain_met : (c : List Rule) (waiting : Waiting) (position : ℕ) (word : Text) (h : Held) → IsPlain word
    → word_met c [] false waiting position word h ≡ plain_word c waiting word h
plain_met c waiting position [] h plain = absurd plain
plain_met c waiting position (x ∷ xs) h plain = go waiting
  where
    other : eqb x 45 ≡ false
    other = ne_eqb x 45 plain

    all : (w : Waiting) → cond (bytes_eq (x ∷ xs) (45 ∷ 45 ∷ [])) (h, trailing position) (long_or_other c w (x ∷ xs) (long_of (x ∷ xs)) h) ≡ plain_word c w (x ∷ xs) h
    all w =
        let one : cond (bytes_eq (x ∷ xs) (45 ∷ 45 ∷ [])) (h, trailing position) (long_or_other c w (x ∷ xs) (long_of (x ∷ xs)) h) ≡ long_or_other c w (x ∷ xs) (long_of (x ∷ xs)) h =
        ap (λ b. cond b (h, trailing position) (long_or_other c w (x ∷ xs) (long_of (x ∷ xs)) h)) (dashes x xs other) in
        let two : long_or_other c w (x ∷ xs) (long_of (x ∷ xs)) h ≡ short_or_plain c w (x ∷ xs) (short_of (x ∷ xs)) h = ap (λ o. long_or_other c w (x ∷ xs) o h) (no_long x xs other) in
        let three : short_or_plain c w (x ∷ xs) (short_of (x ∷ xs)) h ≡ plain_word c w (x ∷ xs) h = ap (λ o. short_or_plain c w (x ∷ xs) o h) (no_short x xs other) in
        one ∙ two ∙ three

    go : (w : Waiting) → word_met c [] false w position (x ∷ xs) h ≡ plain_word c w (x ∷ xs) h
    go idle = all idle
    go (option id) = all (option id)
    go positional = all positional

plain_no_fault : (waiting : Waiting) (word : Text) (h : Held) → IsPlain word → word_fault shape [] false waiting word h ≡ []
plain_no_fault waiting [] h plain = absurd plain
plain_no_fault waiting (x ∷ xs) h plain = go waiting
  where
    other : eqb x 45 ≡ false
    other = ne_eqb x 45 plain

    all : ◌≡◌ {A = Kinds} (cond (bytes_eq (x ∷ xs) (45 ∷ 45 ∷ [])) [] (flag_word_fault rules false (long_of (x ∷ xs)) (x ∷ xs) h)) []
    all =
        let one = ap (λ b. ◌≡◌ {A = Kinds} (cond b [] (flag_word_fault rules false (long_of (x ∷ xs)) (x ∷ xs) h)) []) (dashes x xs other) in
        rw (dashes x xs other, no_long x xs other, no_short x xs other) refl

    go : (w : Waiting) → word_fault shape [] false w (x ∷ xs) h ≡ []
    go idle = all
    go (option id) = all
    go positional = all

-- where it leads
abbrev pub behind : Waiting → ℕ → List Row → Pending → Text → Walk
behind waiting position rows pending word =
    after_step rules word (at waiting position rows pending) (plain_word rules waiting word (held rows pending)).0 (plain_word rules waiting word (held rows pending)).1

plain_walked : (waiting : Waiting) (position : ℕ) (rows : List Row) (pending : Pending) (word : Text) → IsPlain word
    → walked rules [] (at waiting position rows pending) word ≡ behind waiting position rows pending word
unfolding walked
plain_walked waiting position rows pending word plain =
    ap (λ (met : Held × Step). after_step rules word (at waiting position rows pending) met.0 met.1) (plain_met rules waiting position word (held rows pending) plain)

abbrev plain_fault : Waiting → ℕ → List Row → Pending → Text → Kinds
plain_fault waiting position rows pending word =
    step_fault shape position (plain_word rules waiting word (held rows pending)).0 (plain_word rules waiting word (held rows pending)).1

plain_turn : (waiting : Waiting) (position : ℕ) (rows : List Row) (pending : Pending) (word : Text) → IsPlain word
    → turn_fault shape [] (at waiting position rows pending) word ≡ plain_fault waiting position rows pending word
plain_turn waiting position rows pending word plain =
    let first : turn_fault shape [] (at waiting position rows pending) word
    ≡ step_fault shape position (word_met rules [] false waiting position word (held rows pending)).0 (word_met rules [] false waiting position word (held rows pending)).1 =
    ap (λ (k : Kinds). or_else k (step_fault shape position (word_met rules [] false waiting position word (held rows pending)).0 (word_met rules [] false waiting position word (held rows pending)).1))
    (plain_no_fault waiting word (held rows pending) plain) in
    first ∙ ap (λ (met : Held × Step). step_fault shape position met.0 met.1) (plain_met rules waiting position word (held rows pending) plain)

-- ---- walks over several words, in which nothing is at fault

pub record Steps (before : Walk) (words : List Text) (after : Walk) : Type 0 where
  pub goes : (rest : List Text) → fold (walked rules []) before (words ++ rest) ≡ fold (walked rules []) after rest
  pub passes : (rest : List Text) → walk_fault shape [] before (words ++ rest) ≡ walk_fault shape [] after rest

pub none : (w : Walk) → Steps w [] w
none w = record { goes = λ rest. refl; passes = λ rest. refl }

pub joined : (u v w : Walk) (xs ys : List Text) → Steps u xs v → Steps v ys w → Steps u (xs ++ ys) w
joined u v w xs ys first second = record {
  goes = λ rest. ap (fold (walked rules []) u) (append_assoc xs ys rest) ∙ first.goes (ys ++ rest) ∙ second.goes rest;
  passes = λ rest. ap (walk_fault shape [] u) (append_assoc xs ys rest) ∙ first.passes (ys ++ rest) ∙ second.passes rest;
}

pub one : (before after : Walk) (word : Text) → turn_fault shape [] before word ≡ [] → walked rules [] before word ≡ after → Steps before (word ∷ []) after
unfolding walk_fault
one before after word none leads = record {
  goes = λ rest. ap (λ (w : Walk). fold (walked rules []) w rest) leads;
  passes = λ rest.
      ap (λ (k : Kinds). or_else k (walk_fault shape [] (walked rules [] before word) rest)) none ∙ ap (λ (w : Walk). walk_fault shape [] w rest) leads;
}

-- a plain word
pub plain_step : (waiting : Waiting) (position : ℕ) (rows : List Row) (pending : Pending) (word : Text) → IsPlain word → plain_fault waiting position rows pending word ≡ []
    → Steps (at waiting position rows pending) (word ∷ []) (behind waiting position rows pending word)
plain_step waiting position rows pending word plain none =
    one (at waiting position rows pending) (behind waiting position rows pending word) word (plain_turn waiting position rows pending word plain ∙ none)
    (plain_walked waiting position rows pending word plain)
