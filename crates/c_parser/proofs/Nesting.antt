-- Brackets that are open, at the beginnings of a list of tokens.
use Rattle.std.proofs.Common.{◌≡◌, ℕ, suc, ◌+◌, ◌<◌, ◌≤◌, ◌⊎◌, inl, inr, length, take, count_by, subst, sym, ◌∙◌, ⊎_elim, add-one, arith}
use Rattle.std.proofs.lemmas.List.{take-take, take_all, length-take}
use Rattle.std.proofs.str.Laws.{order}
use Rattle.c_tree.specs.Marks.{Tokens}
use Rattle.c_tree.specs.Limits.{NestsAtMost, is_opener, is_closer}
use Rattle.c_parser.specs.declared.fault.ParseFault.{ParseFault}
use Rattle.c_parser.specs.declared.fault.ParseFault.TheVariants.{Syntax, Large}
use Rattle.c_parser.specs.Faults.{IsFirstNested}
use Rattle.c_parser.specs.Reading.{IsFirstFault}

-- at one beginning
abbrev AtMost : ℕ → Tokens → Type 0
AtMost limit ts = count_by is_opener ts ≤ limit + count_by is_closer ts

-- a part that begins the tokens nests no more
pub nests_take : (limit n : ℕ) (ts : Tokens) → NestsAtMost limit ts → NestsAtMost limit (take n ts)
nests_take limit n ts h k =
    let P : Tokens → Type 0 = λ us. AtMost limit us in
    ⊎_elim
    (λ before. subst P (sym (take-take k n ts (omega (arith, before)))) (h k))
    (λ past. subst P (sym (take_all k (take n ts) (omega (arith, past, length-take n ts)))) (h n))
    (order k n)

pub nests_before : (limit m n : ℕ) (ts : Tokens) → m ≤ n → NestsAtMost limit (take n ts) → NestsAtMost limit (take m ts)
nests_before limit m n ts below h = subst (λ us. NestsAtMost limit us) (take-take m n ts below) (nests_take limit m (take n ts) h)

pub nests_none : (limit : ℕ) (ts : Tokens) → NestsAtMost limit (take 0 ts)
nests_none limit ts k = let e : take k (take 0 ts) ≡ take 0 ts = take_all k (take 0 ts) (omega (arith, length-take 0 ts)) in subst (λ us. AtMost limit us) (sym e) (omega arith)

-- one token more
pub nests_more : (limit n : ℕ) (ts : Tokens) → NestsAtMost limit (take n ts) → count_by is_opener (take (n + 1) ts) ≤ limit + count_by is_closer (take (n + 1) ts) → NestsAtMost limit (take (n + 1) ts)
nests_more limit n ts h more k =
    let P : Tokens → Type 0 = λ us. AtMost limit us in
    ⊎_elim
    (λ before. subst P (take-take k n ts (omega (arith, before)) ∙ sym (take-take k (n + 1) ts (omega (arith, before)))) (h k))
    (λ past. subst P (sym (take_all k (take (n + 1) ts) (omega (arith, past, length-take (n + 1) ts)))) more)
    (order k (n + 1))

-- at the end
pub nests_all : (limit : ℕ) (ts : Tokens) → NestsAtMost limit (take (length ts) ts) → NestsAtMost limit ts
nests_all limit ts h = subst (λ us. NestsAtMost limit us) (take_all (length ts) ts (omega arith)) h

-- the first token at which too many are open
pub first_at : (n : ℕ) (ts : Tokens) → n < length ts → NestsAtMost 100 (take n ts) → 100 + count_by is_closer (take (n + 1) ts) < count_by is_opener (take (n + 1) ts) → IsFirstNested ts n
first_at n ts below h more = record {
  within = below;
  more = subst (λ m. 100 + count_by is_closer (take m ts) < count_by is_opener (take m ts)) (add-one n) more;
  first = h;
}

-- where few enough are open up to its token, a fault is the first
pub first_fault : (ts : Tokens) (fault same : ParseFault) (k : ℕ) → (fault ≡ Syntax k) ⊎ (fault ≡ Large k) → same ≡ fault → NestsAtMost 100 (take (suc k) ts) → IsFirstFault ts same
first_fault ts fault same k (inl e) is h = subst (λ f. IsFirstFault ts f) (sym (is ∙ e)) h
first_fault ts fault same k (inr e) is h = subst (λ f. IsFirstFault ts f) (sym (is ∙ e)) h
