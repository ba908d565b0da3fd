-- What single tokens at the head of a list are.
use Rattle.std.proofs.Common.{◌≡◌, ℕ, List, [], ◌∷◌, Bool, true, false, cond, ◌&&◌, nat_le, Option, Some, None, refl, ap, bytes_eq, arith}
use Rattle.std.proofs.lemmas.Bool.{and_parts}
use Rattle.std.proofs.lemmas.Bool.Decides.{nat_tests}
use Rattle.std.proofs.lemmas.Slice.Eq.{bytes_eq-Decides}
use Rattle.base_core.specs.declared.token.Class.{Class}
use Rattle.base_core.specs.declared.token.Class.TheVariants.{Keyword, Name, Integer, Character, Text, Punctuator}
use Rattle.base_core.specs.declared.token.Token.{Token}
use Rattle.flat_programs.specs.FlatShape.{IsLetter}
use Rattle.flat_programs.specs.Expect.{same_class, is_token, is_name, expect, letter_at, letter_of, first_as}
use Rattle.flat_programs.proofs.Holding.{Holds, map_holds}

pub same_class_is : (a b : Class) → same_class a b ≡ true → a ≡ b
same_class_is Keyword Keyword is = refl
same_class_is Name Name is = refl
same_class_is Integer Integer is = refl
same_class_is Character Character is = refl
same_class_is Text Text is = refl
same_class_is Punctuator Punctuator is = refl
same_class_is Keyword Name is = absurd cc
same_class_is Keyword Integer is = absurd cc
same_class_is Keyword Character is = absurd cc
same_class_is Keyword Text is = absurd cc
same_class_is Keyword Punctuator is = absurd cc
same_class_is Name Keyword is = absurd cc
same_class_is Name Integer is = absurd cc
same_class_is Name Character is = absurd cc
same_class_is Name Text is = absurd cc
same_class_is Name Punctuator is = absurd cc
same_class_is Integer Keyword is = absurd cc
same_class_is Integer Name is = absurd cc
same_class_is Integer Character is = absurd cc
same_class_is Integer Text is = absurd cc
same_class_is Integer Punctuator is = absurd cc
same_class_is Character Keyword is = absurd cc
same_class_is Character Name is = absurd cc
same_class_is Character Integer is = absurd cc
same_class_is Character Text is = absurd cc
same_class_is Character Punctuator is = absurd cc
same_class_is Text Keyword is = absurd cc
same_class_is Text Name is = absurd cc
same_class_is Text Integer is = absurd cc
same_class_is Text Character is = absurd cc
same_class_is Text Punctuator is = absurd cc
same_class_is Punctuator Keyword is = absurd cc
same_class_is Punctuator Name is = absurd cc
same_class_is Punctuator Integer is = absurd cc
same_class_is Punctuator Character is = absurd cc
same_class_is Punctuator Text is = absurd cc

pub bytes_are : (a b : List ℕ) → bytes_eq a b ≡ true → a ≡ b
bytes_are a b is = (bytes_eq-Decides a b).0 is

pub token_is : (t : Token) (class : Class) (bytes : List ℕ) → same_class t.class class ≡ true → bytes_eq t.lexeme bytes ≡ true → t ≡ record { class = class; lexeme = bytes }
token_is t class bytes same equal = let a = same_class_is t.class class same in let b = bytes_are t.lexeme bytes equal in λ i. record { class = a i; lexeme = b i }

expect_by : (class : Class) (bytes : List ℕ) (t : Token) (ts : List Token) (b : Bool) → is_token t class bytes ≡ b
    → Holds (λ (rest : List Token). (t ∷ ts) ≡ record { class = class; lexeme = bytes } ∷ rest) (cond b (Some ts) None)
expect_by class bytes t ts true is =
    let parts = and_parts (same_class t.class class) (bytes_eq t.lexeme bytes) is in
    ap (λ (x : Token). x ∷ ts) (token_is t class bytes parts.0 parts.1)
expect_by class bytes t ts false is = tt

-- the token that is expected stands there
pub expect_sound : (class : Class) (bytes : List ℕ) (ts : List Token) → Holds (λ (rest : List Token). ts ≡ record { class = class; lexeme = bytes } ∷ rest) (expect class bytes ts)
expect_sound class bytes [] = tt
expect_sound class bytes (t ∷ ts) = expect_by class bytes t ts (is_token t class bytes) refl

-- a reader of one token reads that token
pub first_sound : {A : Type 0} (f : Token → Option A) (P : A → Token → Type 0) → ((t : Token) → Holds (λ x. P x t) (f t)) → (ts : List Token)
    → Holds (λ (p : A × List Token). (t : Token) × P p.0 t × (ts ≡ t ∷ p.1)) (first_as f ts)
first_sound f P each [] = tt
first_sound {A} f P each (t ∷ ts) = map_holds (λ x. P x t) (λ (p : A × List Token). (u : Token) × P p.0 u × ((t ∷ ts) ≡ u ∷ p.1)) (λ x. (x, ts)) (f t) (each t) (λ x held. (t, held, refl))

name_by : {A : Type 0} (f : List ℕ → Option A) (P : A → List ℕ → Type 0) → ((l : List ℕ) → Holds (λ x. P x l) (f l)) → (t : Token) (b : Bool) → is_name t ≡ b
    → Holds (λ x. (t.class ≡ Name) × P x t.lexeme) (cond b (f t.lexeme) None)
name_by f P each t true is = map_id (f t.lexeme) (each t.lexeme)
  where
    map_id : (o : Option _) → Holds (λ x. P x t.lexeme) o → Holds (λ x. (t.class ≡ Name) × P x t.lexeme) o
    map_id None held = tt
    map_id (Some x) held = (same_class_is t.class Name is, held)
name_by f P each t false is = tt

-- a reader of a name reads a name
pub name_sound : {A : Type 0} (f : List ℕ → Option A) (P : A → List ℕ → Type 0) → ((l : List ℕ) → Holds (λ x. P x l) (f l)) → (t : Token)
    → Holds (λ x. (t.class ≡ Name) × P x t.lexeme) (cond (is_name t) (f t.lexeme) None)
name_sound f P each t = name_by f P each t (is_name t) refl

-- the letter that is read stands there
letter_at_by : (b : ℕ) (t : Bool) → (nat_le 97 b && nat_le b 122) ≡ t → Holds (λ x. IsLetter x × ((b ∷ []) ≡ x ∷ [])) (cond t (Some b) None)
letter_at_by b true is = (record { least = grind (arith, nat_tests); greatest = grind (arith, nat_tests) }, refl)
letter_at_by b false is = tt

letter_at_sound : (l : List ℕ) → Holds (λ x. IsLetter x × (l ≡ x ∷ [])) (letter_at l)
letter_at_sound [] = tt
letter_at_sound (b ∷ []) = letter_at_by b (nat_le 97 b && nat_le b 122) refl
letter_at_sound (b ∷ c ∷ bs) = tt

pub letter_of_sound : (t : Token) → Holds (λ x. (t.class ≡ Name) × (IsLetter x × (t.lexeme ≡ x ∷ []))) (letter_of t)
letter_of_sound t = name_sound letter_at (λ x l. IsLetter x × (l ≡ x ∷ [])) letter_at_sound t
