-- A name that joins a set of keys and a list of names.
use Rattle.std.proofs.Common.{◌≡◌, ℕ, Bool, true, false, not, ◌||◌, List, [], ◌∷◌, ◌++◌, refl, sym, ap, ◌∙◌, Vec, bytes_eq}
use Rattle.std.specs.Bool.{MatchBool}
use Rattle.std.specs.declared.alloc.Global.{Global}
use Rattle.std.specs.List.Sorted.{IsPermutation}
use Rattle.std.proofs.lemmas.List.Folds.{list_any-append}
use Rattle.std.proofs.lemmas.List.Sorted.{list_any-IsPermutation}
use Rattle.std.proofs.lemmas.Slice.Eq.{bytes_eq-Decides}
use Rattle.c_tree.specs.Tree.{Name}
use Rattle.c_tree.specs.TypeWords.{is_among}
use Rattle.c_grammar.specs.Known.{has_key, HoldSame}

-- what an insertion of a key leaves
abbrev pub Puts : Vec ℕ Global → List (Vec ℕ Global) → List (Vec ℕ Global) → Bool → Type 0
Puts key old new added = (added ≡ not (has_key old key.items)) × MatchBool added (IsPermutation (key ∷ old) new) (new ≡ old)

-- a key that was there is found as before
found_before : (key : Vec ℕ Global) (old : List (Vec ℕ Global)) (n : Name) (same : Bool) → bytes_eq n key.items ≡ same → has_key old key.items ≡ true → has_key old n ≡ (same || has_key old n)
found_before key old n true is was = ap (has_key old) ((bytes_eq-Decides n key.items).0 is) ∙ was
found_before key old n false is was = refl

-- a key that wasn't added was there
holds_from_not : (b : Bool) → false ≡ not b → b ≡ true
holds_from_not true e = refl
holds_from_not false e = e

-- what is found behind an insertion
found : (key : Vec ℕ Global) (old new : List (Vec ℕ Global)) (added : Bool) → Puts key old new added → (n : Name) → has_key new n ≡ (bytes_eq n key.items || has_key old n)
found key old new true p n = sym (list_any-IsPermutation (λ k. bytes_eq n k.items) (key ∷ old) new p.1)
found key old new false p n =
    ap (λ keys. has_key keys n) p.1 ∙ found_before key old n (bytes_eq n key.items) refl (holds_from_not (has_key old key.items) p.0)

flipped : (a b : Bool) → (a || b) ≡ (b || (a || false))
flipped true true = refl
flipped true false = refl
flipped false true = refl
flipped false false = refl

-- before the others
pub joins_first : (key : Vec ℕ Global) (old new : List (Vec ℕ Global)) (added : Bool) (names : List Name) (name : Name) → key.items ≡ name → HoldSame old names → Puts key old new added → HoldSame new (name ∷ names)
joins_first key old new added names name is same puts n =
    found key old new added puts n ∙ ap (λ b. bytes_eq n key.items || b) (same n) ∙ ap (λ k. bytes_eq n k || is_among names n) is

-- behind the others
pub joins_last : (key : Vec ℕ Global) (old new : List (Vec ℕ Global)) (added : Bool) (names : List Name) (name : Name) → key.items ≡ name → HoldSame old names → Puts key old new added → HoldSame new (names ++ name ∷ [])
joins_last key old new added names name is same puts n =
    joins_first key old new added names name is same puts n ∙ flipped (bytes_eq n name) (is_among names n) ∙ sym (list_any-append (bytes_eq n) names (name ∷ []))
