-- The lines that are printed for a text that is not in the subset.
use Rattle.std.specs.Prelude.{◌≡◌, ◌⊎◌, ℕ, List, [], ◌∷◌, ◌++◌, slice_get, unwrap_or, codes, decimal}
use Rattle.base_core.specs.declared.place.Place.{Place}
use Rattle.c_lexer.specs.FaultFile.{fault_file, file_named}
use Rattle.c_lexer.specs.Lexis.{Lexis}
use Rattle.asafe.specs.declared.token_fault.TokenFault.{TokenFault}
use Rattle.asafe.specs.declared.token_fault.TokenFault.TheVariants.{Syntax, Nested}

abbrev pub token_fault_kind : TokenFault → List ℕ
token_fault_kind Syntax = codes "Syntax"
token_fault_kind Nested = codes "Nested"

-- FILE:LINE:COLUMN: not in the subset: KIND
unfoldable pub line_at : List ℕ → Place → List ℕ → List ℕ
line_at file place kind =
    file ++ (codes ":" ++ (decimal place.line ++ (codes ":" ++ (decimal place.column ++ (codes ": not in the subset: " ++ (kind ++ codes "\n"))))))

-- the file is that of the line marker before the fault, or the one that the words name
abbrev pub fault_line : List ℕ → List ℕ → Place → List ℕ → List ℕ
fault_line file text place kind = line_at (unwrap_or (fault_file text) file) place kind

-- the place of token k, and for their number that of the end of the text
abbrev pub place_at : Lexis → ℕ → Place
place_at read k = unwrap_or (slice_get (read.places ++ read.end ∷ []) k) read.end

-- the file is that of token k by its line marker, or the one that the words name
abbrev pub token_fault_line : List ℕ → TokenFault → Lexis → ℕ → List ℕ
token_fault_line file fault read k =
    line_at (unwrap_or (file_named read.files (place_at read k).file) file) (place_at read k) (token_fault_kind fault)

-- ---- the form of these lines

abbrev pub IsKind : List ℕ → Type 0
IsKind kind =
    (kind ≡ codes "BadByte") ⊎ ((kind ≡ codes "OpenComment") ⊎ ((kind ≡ codes "OpenLiteral") ⊎ ((kind ≡ codes "NumberTooLarge")
    ⊎ ((kind ≡ codes "Directive") ⊎ ((kind ≡ codes "Syntax") ⊎ (kind ≡ codes "Nested"))))))

pub record IsFaultLine (bytes : List ℕ) : Type 0 where
  pub file : List ℕ
  pub place : Place
  pub kind : List ℕ
  pub known : IsKind kind
  pub is : bytes ≡ line_at file place kind
