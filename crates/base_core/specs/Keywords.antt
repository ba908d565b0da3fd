-- The keywords of C (C11 6.4.1).
use Rattle.std.specs.Prelude.{ℕ, Bool, List, [], ◌∷◌, ◌++◌, codes}
use Rattle.std.specs.List.{list_any}
use Rattle.std.specs.Str.{bytes_eq}

-- the keywords of the subset
abbrev pub keywords : List (List ℕ)
keywords =
    codes "break" ∷ codes "case" ∷ codes "char" ∷ codes "const" ∷ codes "continue" ∷ codes "default" ∷ codes "do" ∷ codes "else" ∷
    codes "enum" ∷ codes "extern" ∷ codes "for" ∷ codes "goto" ∷ codes "if" ∷ codes "int" ∷ codes "long" ∷ codes "return" ∷
    codes "short" ∷ codes "signed" ∷ codes "sizeof" ∷ codes "static" ∷ codes "struct" ∷ codes "switch" ∷ codes "typedef" ∷
    codes "unsigned" ∷ codes "void" ∷ codes "volatile" ∷ codes "while" ∷ []

-- the other keywords of C11, which stand in no rule of the subset's grammar
abbrev pub refused_keywords : List (List ℕ)
refused_keywords =
    codes "auto" ∷ codes "double" ∷ codes "float" ∷ codes "inline" ∷ codes "register" ∷ codes "restrict" ∷ codes "union" ∷
    codes "_Alignas" ∷ codes "_Alignof" ∷ codes "_Atomic" ∷ codes "_Bool" ∷ codes "_Complex" ∷ codes "_Generic" ∷
    codes "_Imaginary" ∷ codes "_Noreturn" ∷ codes "_Static_assert" ∷ codes "_Thread_local" ∷ []

unfoldable pub is_keyword : List ℕ → Bool
is_keyword word = list_any (bytes_eq word) (keywords ++ refused_keywords)
