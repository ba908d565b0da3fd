-- Lists of codes that rise: what is in them, with a code more, and within one another.
use Rattle.std.proofs.Common.{inl, inr, ◌≡◌, ℕ, zero, suc, ◌+◌, ◌<◌, ◌≤◌, ◌^◌, List, [], ◌∷◌, drop, refl, ap, sym, zero-add, ◌∙◌, subst, arith, Bool, true, false, cond, nat_lt, ◌==◌, ◌||◌}
use Rattle.std.specs.Prelude.{◌↔◌, Option, None, Some, IfSome, slice_get}
use Rattle.std.specs.List.{insert}
use Rattle.std.proofs.lemmas.Bool.{eqb-true, cases_lt}
use Rattle.std.proofs.lemmas.Bool.Decides.{nat_tests}
use Rattle.abstract_values.specs.Places.{leading}
use Rattle.abstract_values.specs.Codes.{AreCodes, has_code, with_code, codes_join, CodesUnder}
use Rattle.abstract_values.proofs.Places.{behind_more, Met, past, Walk}

abbrev pub lower : ℕ → ℕ → Bool
lower a b = nat_lt a b

abbrev pub equal : ℕ → ℕ → Type 0
equal a b = a ≡ b

-- ---- what is in a list
pub codes_from : (m n : ℕ) (codes : List ℕ) → m ≤ n → AreCodes n codes → AreCodes m codes
codes_from m n [] le h = tt
codes_from m n (c ∷ codes) le h = let a = h.0 in (omega arith, h.1, h.2)

-- a code below all is not in the list
pub absent_below : (n : ℕ) (codes : List ℕ) (code : ℕ) → AreCodes n codes → code < n → has_code codes code ≡ false
absent_below n [] code h lt = refl
absent_below n (c ∷ codes) code h lt =
    let le = h.0 in
    let rest = absent_below (c + 1) codes code h.2 (omega arith) in
    let first : (c == code) ≡ false = grind (arith, nat_tests) in
    rw first rest

-- ---- one more code
pub has-with : (code : ℕ) (codes : List ℕ) (q : ℕ) → has_code (with_code code codes) q ≡ ((code == q) || has_code codes q)
has-with code [] q = refl
has-with code (c ∷ codes) q = by_tests (has-with code codes q) (nat_lt c code) (c == code) refl
  where
    swapped : (x y z : Bool) → (x || (y || z)) ≡ (y || (x || z))
    swapped true true z = refl
    swapped true false z = refl
    swapped false y z = refl

    twice : (x y : Bool) → (x || y) ≡ (x || (x || y))
    twice true y = refl
    twice false y = refl

    by_tests : has_code (with_code code codes) q ≡ ((code == q) || has_code codes q) → (t s : Bool) → (c == code) ≡ s
        → has_code (cond t (c ∷ with_code code codes) (cond s (c ∷ codes) (code ∷ c ∷ codes))) q ≡ ((code == q) || ((c == q) || has_code codes q))
    by_tests ih true s e = ap (λ b. (c == q) || b) ih ∙ swapped (c == q) (code == q) (has_code codes q)
    by_tests ih false true e = subst (λ x. ((c == q) || has_code codes q) ≡ ((x == q) || ((c == q) || has_code codes q))) (eqb-true c code e) (twice (c == q) (has_code codes q))
    by_tests ih false false e = refl

pub codes-with : (n code : ℕ) (codes : List ℕ) → n ≤ code → code < 2 ^ 32 + 2 → AreCodes n codes → AreCodes n (with_code code codes)
codes-with n code [] le lt h = (le, lt, tt)
codes-with n code (c ∷ codes) le lt h = by_tests (λ less. codes-with (c + 1) code codes less lt h.2) (nat_lt c code) refl (c == code) refl
  where
    by_tests : (c + 1 ≤ code → AreCodes (c + 1) (with_code code codes)) → (t : Bool) → nat_lt c code ≡ t → (s : Bool) → (c == code) ≡ s
        → AreCodes n (cond t (c ∷ with_code code codes) (cond s (c ∷ codes) (code ∷ c ∷ codes)))
    by_tests ih true less s e = (h.0, h.1, ih (grind (arith, nat_tests)))
    by_tests ih false less true e = h
    by_tests ih false less false e =
        let l : code + 1 ≤ c = grind (arith, nat_tests) in (le, lt, (l, h.1, h.2))

-- the place where the search for a code ends
abbrev pub place : ℕ → List ℕ → ℕ
place code codes = leading (λ c. lower c code) codes

abbrev Present : ℕ → List ℕ → Type 0
Present code codes = (with_code code codes ≡ codes) × (has_code codes code ≡ true)

pub present_at : (code : ℕ) (codes : List ℕ) → slice_get codes (place code codes) ≡ Some code → Present code codes
present_at code [] h = absurd cc
present_at code (c ∷ codes) h = by_test (present_at code codes) (nat_lt c code) refl h
  where
    by_test : (slice_get codes (place code codes) ≡ Some code → Present code codes) → (t : Bool) → nat_lt c code ≡ t → slice_get (c ∷ codes) (cond t (suc (place code codes)) 0) ≡ Some code
        → (cond t (c ∷ with_code code codes) (cond (c == code) (c ∷ codes) (code ∷ c ∷ codes)) ≡ c ∷ codes) × (((c == code) || has_code codes code) ≡ true)
    by_test ih true less h =
        let rest = ih h in
        let never : (c == code) ≡ false = grind (arith, nat_tests) in
        (ap (λ l. c ∷ l) rest.0, rw never rest.1)
    by_test ih false less h =
        let is : c ≡ code = cc in
        let same : (c == code) ≡ true = grind (arith, nat_tests) in
        rw same (refl, refl)

abbrev Absent : ℕ → List ℕ → Type 0
Absent code codes = (insert codes (place code codes) code ≡ with_code code codes) × (has_code codes code ≡ false)

pub absent_at : (n code : ℕ) (codes : List ℕ) → AreCodes n codes → (slice_get codes (place code codes) ≡ Some code → ⊥) → Absent code codes
absent_at n code [] h apart = (refl, refl)
absent_at n code (c ∷ codes) h apart = by_test (absent_at (c + 1) code codes h.2) (nat_lt c code) refl (c == code) refl apart
  where
    by_test : ((slice_get codes (place code codes) ≡ Some code → ⊥) → Absent code codes) → (t : Bool) → nat_lt c code ≡ t → (s : Bool) → (c == code) ≡ s
        → (slice_get (c ∷ codes) (cond t (suc (place code codes)) 0) ≡ Some code → ⊥)
        → (insert (c ∷ codes) (cond t (suc (place code codes)) 0) code ≡ cond t (c ∷ with_code code codes) (cond s (c ∷ codes) (code ∷ c ∷ codes))) × ((s || has_code codes code) ≡ false)
    by_test ih true less true same apart = let e = eqb-true c code same in absurd (grind (arith, nat_tests))
    by_test ih true less false same apart = let rest = ih apart in (ap (λ l. c ∷ l) rest.0, rest.1)
    by_test ih false less true same apart = absurd (apart (ap Some (eqb-true c code same)))
    by_test ih false less false same apart =
        let l : code < c + 1 = grind (arith, nat_tests) in (refl, absent_below (c + 1) codes code h.2 l)

-- ---- one list within another
or_true : (x y : Bool) → y ≡ true → (x || y) ≡ true
or_true true y e = refl
or_true false y e = e

or_cases : (x y z : Bool) → (x ≡ true → z ≡ true) → (y ≡ true → z ≡ true) → (x || y) ≡ true → z ≡ true
or_cases true y z h k e = h refl
or_cases false y z h k e = k e

-- what is behind the lower codes of a list is in the list
has_past : (c q : ℕ) (others : List ℕ) → has_code (past lower equal c others) q ≡ true → has_code others q ≡ true
has_past c q [] h = h
has_past c q (o ∷ others) h = by_test (has_past c q others) (nat_lt o c) (ap (λ l. has_code l q) (sym (behind_more (λ y. lower y c) o others)) ∙ h)
  where
    by_test : (has_code (past lower equal c others) q ≡ true → has_code others q ≡ true) → (t : Bool) → has_code (cond t (past lower equal c others) (o ∷ others)) q ≡ true → ((o == q) || has_code others q) ≡ true
    by_test ih true e = or_true (o == q) _ (ih e)
    by_test ih false e = e

-- a code that isn't lower is in what is behind
past_has : (c q : ℕ) (others : List ℕ) → c ≤ q → has_code others q ≡ true → has_code (past lower equal c others) q ≡ true
past_has c q [] le h = h
past_has c q (o ∷ others) le h = ap (λ l. has_code l q) (behind_more (λ y. lower y c) o others) ∙ by_test (past_has c q others le) (nat_lt o c) refl
  where
    by_test : (has_code others q ≡ true → has_code (past lower equal c others) q ≡ true) → (t : Bool) → nat_lt o c ≡ t → has_code (cond t (past lower equal c others) (o ∷ others)) q ≡ true
    by_test ih true less =
        let never : (o == q) ≡ false = grind (arith, nat_tests) in
        ih (ap (λ b. b || has_code others q) (sym never) ∙ h)
    by_test ih false less = h

codes_past : (n c : ℕ) (others : List ℕ) → AreCodes n others → AreCodes n (past lower equal c others)
codes_past n c [] h = tt
codes_past n c (o ∷ others) h = subst (AreCodes n) (sym (behind_more (λ y. lower y c) o others)) (by_test (codes_past (o + 1) c others h.2) (nat_lt o c))
  where
    by_test : AreCodes (o + 1) (past lower equal c others) → (t : Bool) → AreCodes n (cond t (past lower equal c others) (o ∷ others))
    by_test ih true = let le = h.0 in codes_from n (o + 1) _ (omega arith) ih
    by_test ih false = h

met_past : (n c : ℕ) (others : List ℕ) → AreCodes n others → has_code others c ≡ true → Met lower equal c (slice_get (past lower equal c others) 0)
met_past n c [] h m = absurd cc
met_past n c (o ∷ others) h m = subst (λ l. Met lower equal c (slice_get l 0)) (sym (behind_more (λ y. lower y c) o others)) (by_test (met_past (o + 1) c others h.2) (nat_lt o c) refl (o == c) refl)
  where
    by_test : (has_code others c ≡ true → Met lower equal c (slice_get (past lower equal c others) 0)) → (t : Bool) → nat_lt o c ≡ t → (s : Bool) → (o == c) ≡ s
        → Met lower equal c (slice_get (cond t (past lower equal c others) (o ∷ others)) 0)
    by_test ih true less s same =
        let never : (o == c) ≡ false = grind (arith, nat_tests) in
        ih (ap (λ b. b || has_code others c) (sym never) ∙ m)
    by_test ih false less true same = eqb-true o c same
    by_test ih false less false same =
        let le : c < o + 1 = grind (arith, nat_tests) in
        let gone = absent_below (o + 1) others c h.2 le in
        let rest : has_code others c ≡ true = ap (λ b. b || has_code others c) (sym same) ∙ m in
        absurd cc

has_met : (c : ℕ) (others : List ℕ) → Met lower equal c (slice_get others 0) → has_code others c ≡ true
has_met c [] h = absurd h
has_met c (o ∷ others) h =
    let is : o ≡ c = h in
    let same : (o == c) ≡ true = grind (arith, nat_tests) in ap (λ b. b || has_code others c) same

walk_under : (codes others : List ℕ) → Walk lower equal codes others → CodesUnder codes others
walk_under [] others w q h = absurd cc
walk_under (c ∷ codes) others w q h =
    has_past c q others (or_cases (c == q) (has_code codes q) _
    (λ e. subst (λ x. has_code (past lower equal c others) x ≡ true) (eqb-true c q e) (has_met c (past lower equal c others) w.0))
    (walk_under codes (past lower equal c others) w.1 q) h)

under_walk : (m n : ℕ) (codes others : List ℕ) → AreCodes m codes → AreCodes n others → CodesUnder codes others → Walk lower equal codes others
under_walk m n [] others h k u = tt
under_walk m n (c ∷ codes) others h k u =
    let self : (c == c) ≡ true = grind (arith, nat_tests) in (
      met_past n c others k (u c (ap (λ b. b || has_code codes c) self)),
      under_walk (c + 1) n codes (past lower equal c others) h.2 (codes_past n c others k) (λ q e. past_has c q others (above q e) (u q (or_true (c == q) _ e))),
    )
  where
    above : (q : ℕ) → has_code codes q ≡ true → c ≤ q
    above q e = elim (cases_lt q c) [
      | inl less ↦ let gone = absent_below (c + 1) codes q h.2 (omega arith) in absurd cc
      | inr le ↦ le
    ]

pub walk_is_under : (m n : ℕ) (codes others : List ℕ) → AreCodes m codes → AreCodes n others → Walk lower equal codes others ↔ CodesUnder codes others
walk_is_under m n codes others h k = (walk_under codes others, under_walk m n codes others h k)

-- ---- the order and the join
pub codes_refl : (codes : List ℕ) → CodesUnder codes codes
codes_refl codes q h = h

pub codes_trans : (a b c : List ℕ) → CodesUnder a b → CodesUnder b c → CodesUnder a c
codes_trans a b c h k q m = k q (h q m)

has-join : (codes others : List ℕ) (q : ℕ) → has_code (codes_join codes others) q ≡ (has_code codes q || has_code others q)
has-join codes [] q = none (has_code codes q)
  where
    none : (x : Bool) → x ≡ (x || false)
    none true = refl
    none false = refl
has-join codes (c ∷ others) q = has-join (with_code c codes) others q ∙ ap (λ b. b || has_code others q) (has-with c codes q) ∙ around (c == q) (has_code codes q) (has_code others q)
  where
    around : (x y z : Bool) → ((x || y) || z) ≡ (y || (x || z))
    around true true z = refl
    around true false z = refl
    around false y z = refl

pub codes_join_left : (codes others : List ℕ) → CodesUnder codes (codes_join codes others)
codes_join_left codes others q h = has-join codes others q ∙ ap (λ b. b || has_code others q) h

pub codes_join_right : (codes others : List ℕ) → CodesUnder others (codes_join codes others)
codes_join_right codes others q h = has-join codes others q ∙ or_true (has_code codes q) _ h

pub codes_join_least : (codes others upper : List ℕ) → CodesUnder codes upper → CodesUnder others upper → CodesUnder (codes_join codes others) upper
codes_join_least codes others upper h k q m = or_cases (has_code codes q) (has_code others q) _ (h q) (k q) (sym (has-join codes others q) ∙ m)

-- lists of the same codes are equal
pub codes_antisymmetric : (m n : ℕ) (codes others : List ℕ) → AreCodes m codes → AreCodes n others → CodesUnder codes others → CodesUnder others codes → codes ≡ others
codes_antisymmetric m n [] [] h k up down = refl
codes_antisymmetric m n [] (o ∷ others) h k up down =
    let self : (o == o) ≡ true = grind (arith, nat_tests) in
    let found = down o (ap (λ b. b || has_code others o) self) in absurd cc
codes_antisymmetric m n (c ∷ codes) [] h k up down =
    let self : (c == c) ≡ true = grind (arith, nat_tests) in
    let found = up c (ap (λ b. b || has_code codes c) self) in absurd cc
codes_antisymmetric m n (c ∷ codes) (o ∷ others) h k up down =
    let same = firsts (nat_lt c o) refl (nat_lt o c) refl in
    let rest = codes_antisymmetric (c + 1) (o + 1) codes others h.2 k.2 (tails c codes o others same h.2 up) (tails o others c codes (sym same) k.2 down) in
    λ i. same i ∷ rest i
  where
    self : (x : ℕ) (xs : List ℕ) → has_code (x ∷ xs) x ≡ true
    self x xs = let s : (x == x) ≡ true = grind (arith, nat_tests) in ap (λ b. b || has_code xs x) s

    firsts : (t : Bool) → nat_lt c o ≡ t → (s : Bool) → nat_lt o c ≡ s → c ≡ o
    firsts true less s e =
        let l : c < o = grind (arith, nat_tests) in
        let gone = absent_below o (o ∷ others) c (omega arith, k.1, k.2) l in
        let found = up c (self c codes) in absurd cc
    firsts false less true e =
        let l : o < c = grind (arith, nat_tests) in
        let gone = absent_below c (c ∷ codes) o (omega arith, h.1, h.2) l in
        let found = down o (self o others) in absurd cc
    firsts false less false e = grind (arith, nat_tests)

    tails : (x : ℕ) (xs : List ℕ) (y : ℕ) (ys : List ℕ) → x ≡ y → AreCodes (x + 1) xs → CodesUnder (x ∷ xs) (y ∷ ys) → CodesUnder xs ys
    tails x xs y ys same are under q m = by_test (y == q) refl (under q (or_true (x == q) _ m))
      where
        by_test : (t : Bool) → (y == q) ≡ t → (t || has_code ys q) ≡ true → has_code ys q ≡ true
        by_test true e found =
            let is = eqb-true y q e in
            let gone = absent_below (x + 1) xs q are (omega arith) in absurd cc
        by_test false e found = found

-- a join of lists keeps the form of lists of codes
pub codes-join : (codes others : List ℕ) (n : ℕ) → AreCodes 0 codes → AreCodes n others → AreCodes 0 (codes_join codes others)
codes-join codes [] n h k = h
codes-join codes (c ∷ others) n h k = codes-join (with_code c codes) others (c + 1) (codes-with 0 c codes (omega arith) k.1 h) k.2

pub join_is_some : (c : ℕ) (codes others : List ℕ) → codes_join (c ∷ codes) others ≡ [] → ⊥
join_is_some c codes others e =
    let self : (c == c) ≡ true = grind (arith, nat_tests) in
    let found = codes_join_left (c ∷ codes) others c (ap (λ b. b || has_code codes c) self) in
    let none : has_code (codes_join (c ∷ codes) others) c ≡ false = ap (λ l. has_code l c) e in
    absurd cc

-- ---- what stands at a place
pub met_at : (o : Option ℕ) (code : ℕ) → Met lower equal code o → o ≡ Some code
met_at None code h = absurd h
met_at (Some c) code h = ap Some h

pub at_met : (o : Option ℕ) (code : ℕ) → o ≡ Some code → Met lower equal code o
at_met None code e = absurd cc
at_met (Some c) code e = cc

-- ---- as the search for a place answers
place_is : (code p : ℕ) (l s : List ℕ) → l ≡ s → p ≡ 0 + leading (λ c. nat_lt c code) (drop 0 l) → p ≡ place code s
place_is code p l s e is = is ∙ zero-add _ ∙ ap (place code) e

pub present : (code p : ℕ) (l m s : List ℕ) → l ≡ s → m ≡ s → p ≡ 0 + leading (λ c. nat_lt c code) (drop 0 l) → slice_get m p ≡ Some code → (with_code code s ≡ s) × (has_code s code ≡ true)
present code p l m s e f is at =
    let here = place_is code p l s e is in
    present_at code s (ap (slice_get s) (sym here) ∙ ap (λ x. slice_get x p) (sym f) ∙ at)

pub added : (code p : ℕ) (l m s : List ℕ) → l ≡ s → m ≡ s → p ≡ 0 + leading (λ c. nat_lt c code) (drop 0 l) → AreCodes 0 s → (slice_get m p ≡ Some code → ⊥) → (insert s p code ≡ with_code code s) × (has_code s code ≡ false)
added code p l m s e f is are never =
    let here = place_is code p l s e is in
    let both = absent_at 0 code s are (λ at. never (ap (λ x. slice_get x p) f ∙ ap (slice_get s) here ∙ at)) in
    (ap (λ n. insert s n code) here ∙ both.0, both.1)

pub code_in_range : (codes : List ℕ) (k : ℕ) → AreCodes 0 codes → IfSome (slice_get codes k) (λ code. code < 2 ^ 32 + 2)
code_in_range codes k are = in_range 0 codes k are
  where
    in_range : (n : ℕ) (codes : List ℕ) (k : ℕ) → AreCodes n codes → IfSome (slice_get codes k) (λ code. code < 2 ^ 32 + 2)
    in_range n [] k h = tt
    in_range n (c ∷ codes) zero h = h.1
    in_range n (c ∷ codes) (suc k) h = in_range (c + 1) codes k h.2
