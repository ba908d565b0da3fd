-- The first of two faults.
use Rattle.std.proofs.Common.{◌≡◌, ℕ, suc, ◌<◌, ◌≤◌, nat_lt, Bool, true, false, inl, inr, List, length, take, refl, sym, ◌∙◌, arith}
use Rattle.std.specs.Prelude.{if◌then◌else◌}
use Rattle.std.proofs.lemmas.Bool.Decides.{nat_tests}
use Rattle.std.proofs.lemmas.List.{take-take, length-take}
use Rattle.c_tree.specs.Marks.{Tokens}
use Rattle.c_tree.specs.Tree.{ItemTree}
use Rattle.c_tree.specs.Limits.{NestsAtMost}
use Rattle.c_parser.specs.declared.fault.ParseFault.{ParseFault}
use Rattle.c_parser.specs.declared.fault.ParseFault.TheVariants.{Syntax, Nested, Large, NoMemory}
use Rattle.c_parser.specs.Faults.{BeginsWith, NoneBegins, NoneWithinLimitsBegins, IsFirstNested}
use Rattle.c_parser.specs.Reading.{IsFault, IsFirstFault, earlier}
use Rattle.c_parser.proofs.Nesting.{nests_take, nests_before}

-- few enough brackets are open at each fault, where they are everywhere
pub first_of : (ts : Tokens) (fault : ParseFault) → NestsAtMost 100 ts → IsFirstFault ts fault
first_of ts (Syntax k) h = nests_take 100 (suc k) ts h
first_of ts (Nested k) h = tt
first_of ts (Large k) h = nests_take 100 (suc k) ts h
first_of ts NoMemory h = tt

-- a program that begins as the tokens do begins as those before token k do
begins_shorter : (ts : Tokens) (k j : ℕ) (xs : List ItemTree) → k ≤ length ts → j < k → BeginsWith ts j xs → BeginsWith (take k ts) j xs
begins_shorter ts k j xs within below (inl h) = inl (omega (arith, length-take k ts), h.1 ∙ sym (take-take (suc j) k ts (omega arith)))
begins_shorter ts k j xs within below (inr h) = absurd (omega (arith, h.0))

none_longer : (ts : Tokens) (k j : ℕ) → k ≤ length ts → j < k → NoneBegins (take k ts) j → NoneBegins ts j
none_longer ts k j within below h = record { within = omega arith; none = λ xs shape begins. h.none xs shape (begins_shorter ts k j xs within below begins) }

none_within_longer : (ts : Tokens) (k j : ℕ) → k ≤ length ts → j < k → NoneWithinLimitsBegins (take k ts) j → NoneWithinLimitsBegins ts j
none_within_longer ts k j within below h =
    record { within = omega arith; late = h.late; none = λ xs shape few shallow begins. h.none xs shape few shallow (begins_shorter ts k j xs within below begins) }

syntax_earlier : (ts : Tokens) (k j : ℕ) (b : Bool) → (b ≡ true → j < k) → IsFirstNested ts k → NoneBegins (take k ts) j → IsFault ts (if b then Syntax j else Nested k)
syntax_earlier ts k j true below n h = let l = n.within in none_longer ts k j (omega arith) (below refl) h
syntax_earlier ts k j false below n h = n

large_earlier : (ts : Tokens) (k j : ℕ) (b : Bool) → (b ≡ true → j < k) → IsFirstNested ts k → NoneWithinLimitsBegins (take k ts) j → IsFault ts (if b then Large j else Nested k)
large_earlier ts k j true below n h = let l = n.within in none_within_longer ts k j (omega arith) (below refl) h
large_earlier ts k j false below n h = n

-- it is in the tokens
pub earlier_fault : (ts : Tokens) (k : ℕ) (fault : ParseFault) → IsFirstNested ts k → IsFault (take k ts) fault → IsFault ts (earlier fault k)
earlier_fault ts k (Syntax j) n h = syntax_earlier ts k j (nat_lt j k) (λ e. grind (arith, nat_tests, e)) n h
earlier_fault ts k (Nested j) n h = n
earlier_fault ts k (Large j) n h = large_earlier ts k j (nat_lt j k) (λ e. grind (arith, nat_tests, e)) n h
earlier_fault ts k NoMemory n h = tt

syntax_first : (ts : Tokens) (k j : ℕ) (b : Bool) → (b ≡ true → j < k) → IsFirstNested ts k → IsFirstFault ts (if b then Syntax j else Nested k)
syntax_first ts k j true below n = let l = below refl in nests_before 100 (suc j) k ts (omega arith) n.first
syntax_first ts k j false below n = tt

large_first : (ts : Tokens) (k j : ℕ) (b : Bool) → (b ≡ true → j < k) → IsFirstNested ts k → IsFirstFault ts (if b then Large j else Nested k)
large_first ts k j true below n = let l = below refl in nests_before 100 (suc j) k ts (omega arith) n.first
large_first ts k j false below n = tt

-- and few enough brackets are open at it
pub earlier_first : (ts : Tokens) (k : ℕ) (fault : ParseFault) → IsFirstNested ts k → IsFirstFault ts (earlier fault k)
earlier_first ts k (Syntax j) n = syntax_first ts k j (nat_lt j k) (λ e. grind (arith, nat_tests, e)) n
earlier_first ts k (Nested j) n = tt
earlier_first ts k (Large j) n = large_first ts k j (nat_lt j k) (λ e. grind (arith, nat_tests, e)) n
earlier_first ts k NoMemory n = tt
