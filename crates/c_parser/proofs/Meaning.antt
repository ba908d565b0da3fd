-- What an end of reading says of the tokens.
use Rattle.std.proofs.Common.{◌≡◌, ℕ, zero, suc, ◌+◌, ◌-◌, ◌<◌, ◌≤◌, ◌⊎◌, inl, inr, List, [], ◌∷◌, ◌++◌, length, take, drop, Some, Ok, Err, refl, sym, ap, subst, ◌∙◌, ⊎_elim, append_assoc, length-append, length-take-le, take-append-drop, arith}
use Rattle.std.proofs.str.Laws.{order}
use Rattle.base_core.specs.Limits.{most_open}
use Rattle.base_core.specs.declared.token.Token.{Token}
use Rattle.c_tree.specs.Marks.{Tokens}
use Rattle.c_tree.specs.Tree.{ItemTree}
use Rattle.c_tree.specs.Shape.{Shape, first_scope}
use Rattle.c_tree.specs.Spelling.{spell}
use Rattle.c_tree.specs.Limits.{WithinLimits, NestsAtMost}
use Rattle.c_grammar.specs.Body.{Outcome, got, refused, exceeded}
use Rattle.c_grammar.specs.Gauge.{Meter}
use Rattle.c_grammar.specs.Reading.{read, no_rule, past_limit, failure_of}
use Rattle.c_grammar.proofs.Programs.{whole, begun, found, unique, refused_means, refused_end, exceeded_means, exceeded_end}
use Rattle.grammar_limits.proofs.Late.{exceeded_late}
use Rattle.c_parser.specs.declared.fault.ParseFault.{ParseFault}
use Rattle.c_parser.specs.declared.fault.ParseFault.TheVariants.{Syntax, Nested, Large, NoMemory}
use Rattle.c_parser.specs.Faults.{BeginsWith, NoneBegins, NoneWithinLimitsBegins, IsFirstNested}
use Rattle.c_parser.specs.Reading.{IsRead, IsFault, IsNoMemory, earlier}
use Rattle.c_parser.specs.Answer.{answer_of, reading_of, stopped_at, IsAnswer, IsFaultOf, IsReadAs}
use Rattle.c_parser.proofs.AllStay.{got_fits}
use Rattle.c_parser.proofs.Leaving.{refused_within, exceeded_within}

-- the tokens before one, it, and those behind it
split_at : (ts : Tokens) (k : ℕ) → k < length ts → (t : Token) × (s : Tokens) × (ts ≡ take k ts ++ t ∷ s) × (take (suc k) ts ≡ take k ts ++ t ∷ [])
split_at [] k h = absurd (omega arith)
split_at (t ∷ ts) zero h = (t, ts, refl, refl)
split_at (t ∷ ts) (suc k) h = let r = split_at ts k (omega arith) in (r.0, r.1, ap (λ us. t ∷ us) r.2, ap (λ us. t ∷ us) r.3)

length-split : (n : ℕ) (ts s : Tokens) (t : Token) → n ≤ length ts → ts ≡ take n ts ++ t ∷ s → length ts ≡ n + suc (length s)
length-split n ts s t h e = ap length e ∙ length-append (take n ts) (t ∷ s) ∙ ap (λ m. m + suc (length s)) (length-take-le n ts h)

-- Tokens do not begin as these do, where none go on with the first token that is left, or are these where none is left.
none_begin : (ts zs : Tokens) (left : ℕ) → left ≤ length ts → ((u s s' : Tokens) (t : Token) → ts ≡ u ++ t ∷ s → left ≡ suc (length s) → zs ≡ u ++ t ∷ s' → ⊥) → (left ≡ 0 → zs ≡ ts → ⊥) →
    ((length ts - left < length ts) × (take (suc (length ts - left)) zs ≡ take (suc (length ts - left)) ts)) ⊎ ((length ts - left ≡ length ts) × (zs ≡ ts)) → ⊥
none_begin ts zs left within goes_on ends (inl h) =
    let k : ℕ = length ts - left in
    let p = split_at ts k h.0 in
    let size = length-split k ts p.1 p.0 (omega arith) p.2 in
    let begins : zs ≡ take k ts ++ p.0 ∷ drop (suc k) zs =
    sym (take-append-drop (suc k) zs) ∙ ap (λ us. us ++ drop (suc k) zs) (h.1 ∙ p.3) ∙ append_assoc (take k ts) (p.0 ∷ []) (drop (suc k) zs) in
    goes_on (take k ts) p.1 (drop (suc k) zs) p.0 p.2 (omega (arith, size, within, h.0)) begins
none_begin ts zs left within goes_on ends (inr h) = ends (omega (arith, within, h.0)) h.1

pub refused_fault : (ts : Tokens) (left : ℕ) → failure_of (read whole (begun ts)) ≡ Some (no_rule left) → NoneBegins ts (length ts - left)
refused_fault ts left e =
    let below = refused_within whole (begun ts) left e in record {
      within = omega arith;
      none = λ xs shape begins. none_begin ts (spell xs) left below
          (λ u s s' t is n z. refused_means u s t (subst (λ us. failure_of (read whole (begun us)) ≡ Some (no_rule (suc (length s)))) is (e ∙ ap (λ m. Some (no_rule m)) n)) xs shape s' z)
          (λ n z. refused_end ts (e ∙ ap (λ m. Some (no_rule m)) n) xs shape z)
          begins;
    }

exceeded_at : (o : Outcome Meter (List ItemTree)) (n : ℕ) → failure_of o ≡ Some (past_limit n) → (us : Tokens) × (o ≡ exceeded us) × (length us ≡ n)
exceeded_at (got a ts x) n e = absurd cc
exceeded_at (refused ts) n e = absurd cc
exceeded_at (exceeded ts) n e = let same : length ts ≡ n = cc in (ts, refl, same)

pub exceeded_fault : (ts : Tokens) (left : ℕ) → failure_of (read whole (begun ts)) ≡ Some (past_limit left) → NoneWithinLimitsBegins ts (length ts - left)
exceeded_fault ts left e =
    let below = exceeded_within whole (begun ts) left e in
    let at = exceeded_at (read whole (begun ts)) left e in
    let late = exceeded_late ts at.0 at.1 in record {
      within = omega arith;
      late = omega (arith, late, at.2);
      none = λ xs shape few shallow begins. none_begin ts (spell xs) left below
          (λ u s s' t is n z. exceeded_means u s t (subst (λ us. failure_of (read whole (begun us)) ≡ Some (past_limit (suc (length s)))) is (e ∙ ap (λ m. Some (past_limit m)) n)) xs shape few shallow s' z)
          (λ n z. exceeded_end ts (e ∙ ap (λ m. Some (past_limit m)) n) xs shape few shallow z)
          begins;
    }

-- what was read
pub got_read : (ts us : Tokens) (xs : List ItemTree) (m : Meter) → read whole (begun ts) ≡ got xs us m → IsRead ts xs
got_read ts us xs m e =
    let f = found ts us xs m e in
    let fits = got_fits first_scope (begun ts) xs us m (record { made = omega arith; peak = omega arith }) e in record {
      shape = f.shape;
      spelled = sym f.spelled;
      few = omega (arith, f.made, fits.made);
      shallow = omega (arith, f.peak, fits.peak);
    }

-- it is the only program with these tokens
pub read_only : (ts : Tokens) (xs ys : List ItemTree) → IsRead ts xs → Shape ys → spell ys ≡ ts → ys ≡ xs
read_only ts xs ys r shape e = unique ys xs shape r.shape (e ∙ sym r.spelled)

-- and within the limits, if that on brackets is kept
pub read_within : (ts : Tokens) (xs : List ItemTree) → IsRead ts xs → NestsAtMost 100 ts → WithinLimits xs
read_within ts xs r h = record { brackets = subst (λ us. NestsAtMost 100 us) (sym r.spelled) h; few = r.few; shallow = r.shallow }

begins_itself : (ts : Tokens) (k : ℕ) (xs : List ItemTree) → k ≤ length ts → spell xs ≡ ts → BeginsWith ts k xs
begins_itself ts k xs h e = ⊎_elim (λ below. inl (below, ap (take (suc k)) e)) (λ past. inr (omega (arith, past, h), e)) (order k (length ts))

-- a program within the limits has no fault
pub blameless : (ts : Tokens) (fault : ParseFault) (xs : List ItemTree) → IsFault ts fault → Shape xs → WithinLimits xs → spell xs ≡ ts → IsNoMemory fault
blameless ts (Syntax k) xs h shape limits e = absurd (h.none xs shape (begins_itself ts k xs h.within e))
blameless ts (Nested k) xs h shape limits e =
    let nests : NestsAtMost 100 ts = subst (λ us. NestsAtMost 100 us) e limits.brackets in
    absurd (omega (arith, nests (suc k), h.more))
blameless ts (Large k) xs h shape limits e = absurd (h.none xs shape limits.few limits.shallow (begins_itself ts k xs h.within e))
blameless ts NoMemory xs h shape limits e = tt

-- ---- what reading comes to

-- the program
pub read_as : (ts us : Tokens) (xs : List ItemTree) (m : Meter) → read whole (begun ts) ≡ got xs us m → Ok xs ≡ reading_of ts
read_as ts us xs m e = sym (ap (answer_of (length ts)) e)

refused_at : (o : Outcome Meter (List ItemTree)) (n left : ℕ) → failure_of o ≡ Some (no_rule left) → Err (Syntax (n - left)) ≡ answer_of n o
refused_at (got a ts x) n left e = absurd cc
refused_at (refused ts) n left e = let same : length ts ≡ left = cc in ap (λ m. Err (Syntax (n - m))) (sym same)
refused_at (exceeded ts) n left e = absurd cc

large_at : (o : Outcome Meter (List ItemTree)) (n left : ℕ) → failure_of o ≡ Some (past_limit left) → Err (Large (n - left)) ≡ answer_of n o
large_at (got a ts x) n left e = absurd cc
large_at (refused ts) n left e = absurd cc
large_at (exceeded ts) n left e = let same : length ts ≡ left = cc in ap (λ m. Err (Large (n - m))) (sym same)

-- or where it stops
pub refused_as : (ts : Tokens) (left : ℕ) → failure_of (read whole (begun ts)) ≡ Some (no_rule left) → IsReadAs ts (Syntax (length ts - left))
refused_as ts left e = inr (refused_at (read whole (begun ts)) (length ts) left e)

pub exceeded_as : (ts : Tokens) (left : ℕ) → failure_of (read whole (begun ts)) ≡ Some (past_limit left) → IsReadAs ts (Large (length ts - left))
exceeded_as ts left e = inr (large_at (read whole (begun ts)) (length ts) left e)

-- ---- the answer

pub answer_read : (ts : Tokens) (xs : List ItemTree) → NestsAtMost most_open ts → Ok xs ≡ reading_of ts → IsAnswer ts (Ok xs)
answer_read ts xs h e = inl (h, e)

pub answer_fault : (ts : Tokens) (fault : ParseFault) → NestsAtMost most_open ts → IsReadAs ts fault → IsFaultOf ts fault
answer_fault ts fault h (inl e) = inl e
answer_fault ts fault h (inr e) = inr (inl (h, e))

pub answer_nested : (ts : Tokens) (k : ℕ) (xs : List ItemTree) → IsFirstNested ts k → Ok xs ≡ reading_of (take k ts) → IsFaultOf ts (Nested k)
answer_nested ts k xs n e = inr (inr (k, n, ap (stopped_at k) e))

pub answer_before : (ts : Tokens) (k : ℕ) (fault : ParseFault) → IsFirstNested ts k → IsReadAs (take k ts) fault → IsFaultOf ts (earlier fault k)
answer_before ts k fault n (inl e) = inl (ap (λ f. earlier f k) e)
answer_before ts k fault n (inr e) = inr (inr (k, n, ap (stopped_at k) e))
