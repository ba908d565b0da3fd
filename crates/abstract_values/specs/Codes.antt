-- Lists of codes: 0 null or the default action, 1 ignore, n + 2 the function n.
use Rattle.std.specs.Prelude.{ℕ, ◌+◌, ◌^◌, ◌<◌, ◌≤◌, nat_lt, ◌==◌, List, [], ◌∷◌, Bool, cond, IsTrue}
use Rattle.std.specs.List.{list_any}

-- codes that strictly rise, from n on, each that of null, of ignore or of a function's number
abbrev pub AreCodes : ℕ → List ℕ → Type 0
AreCodes n [] = Unit {0}
AreCodes n (code ∷ codes) = (n ≤ code) × (code < 2 ^ 32 + 2) × AreCodes (code + 1) codes

abbrev pub has_code : List ℕ → ℕ → Bool
has_code codes code = list_any (λ c. c == code) codes

-- the list with the code too, in its place
abbrev pub with_code : ℕ → List ℕ → List ℕ
with_code code [] = code ∷ []
with_code code (c ∷ codes) = cond (nat_lt c code) (c ∷ with_code code codes) (cond (c == code) (c ∷ codes) (code ∷ c ∷ codes))

-- what is behind the code where a list begins with it, and else the list
abbrev pub after : ℕ → List ℕ → List ℕ
after code [] = []
after code (c ∷ codes) = cond (c == code) codes (c ∷ codes)

-- the first list with the codes of the second too
abbrev pub codes_join : List ℕ → List ℕ → List ℕ
codes_join codes [] = codes
codes_join codes (code ∷ more) = codes_join (with_code code codes) more

-- each code of the first is one of the second
abbrev pub CodesUnder : List ℕ → List ℕ → Type 0
CodesUnder codes others = (code : ℕ) → IsTrue (has_code codes code) → IsTrue (has_code others code)
