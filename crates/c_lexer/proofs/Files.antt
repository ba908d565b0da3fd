-- The files of line markers.
use Rattle.std.proofs.Common.{◌≡◌, ℕ, ◌+◌, ◌≤◌, Bool, true, false, not, ◌||◌, cond, List, [], ◌∷◌, ◌++◌, length, map, length-append, ◌<◌, refl, sym, ap, ◌∙◌, arith, String, Global, string_bytes, bytes_eq}
use Rattle.std.specs.List.{list_any, position_or_len}
use Rattle.std.specs.String.{string_eq}
use Rattle.std.specs.Str.Lossy.{utf8_valid_len}
use Rattle.std.specs.Str.{IsValidUpTo}
use Rattle.std.proofs.lemmas.Str.{utf8_valid_len-IsValidUpTo}
use Rattle.std.proofs.lemmas.Bool.Decides.{nat_tests}
use Rattle.indexmap.specs.IndexSet.{insert_key}
use Rattle.c_lexer.specs.Directives.{is_utf8}
use Rattle.c_lexer.specs.Lexis.{with_file}

-- a file's name as the set holds it
abbrev pub Held : Type 0
Held = String Global

-- the names of the files
abbrev pub names : List Held → List (List ℕ)
names = map string_bytes

pub list_any-names : (key : Held) (files : List Held) → list_any (bytes_eq (string_bytes key)) (names files) ≡ list_any (string_eq key) files
list_any-names key [] = refl
list_any-names key (f ∷ files) = ap (λ b. bytes_eq (string_bytes key) (string_bytes f) || b) (list_any-names key files)

pub position-names : (key : Held) (files : List Held) → position_or_len (bytes_eq (string_bytes key)) (names files) ≡ position_or_len (string_eq key) files
position-names key [] = refl
position-names key (f ∷ files) = ap (λ n. cond (not (bytes_eq (string_bytes key) (string_bytes f))) (1 + n) 0) (position-names key files)

names-append : (files more : List Held) → names (files ++ more) ≡ names files ++ names more
names-append [] more = refl
names-append (f ∷ files) more = ap (λ l. string_bytes f ∷ l) (names-append files more)

names-cond : (b : Bool) (files more : List Held) → names (cond b files more) ≡ cond b (names files) (names more)
names-cond true files more = refl
names-cond false files more = refl

-- a key that is inserted joins the names as a file does
pub names-insert : (key : Held) (files : List Held) → names (insert_key string_eq files key) ≡ with_file (names files) (string_bytes key)
names-insert key files =
    names-cond (list_any (string_eq key) files) files (files ++ key ∷ [])
    ∙ ap (λ l. cond (list_any (string_eq key) files) (names files) l) (names-append files (key ∷ []))
    ∙ ap (λ b. cond b (names files) (names files ++ string_bytes key ∷ [])) (sym (list_any-names key files))

-- at most one file joins
pub with_file-length : (files : List (List ℕ)) (name : List ℕ) → length (with_file files name) ≤ length files + 1
with_file-length files name = by_cases (list_any (bytes_eq name) files) where
  by_cases : (b : Bool) → length (cond b files (files ++ name ∷ [])) ≤ length files + 1
  by_cases true = omega arith
  by_cases false = omega (arith, length-append files (name ∷ []))

-- bytes that aren't all UTF-8
pub not_utf8 : (z : List ℕ) (n : ℕ) → IsValidUpTo z n → is_utf8 z ≡ false
not_utf8 z n upto =
    let valid = utf8_valid_len-IsValidUpTo z n upto in
    let short : utf8_valid_len z < length z = omega (arith, valid, upto.short) in
    grind (arith, nat_tests, short)
