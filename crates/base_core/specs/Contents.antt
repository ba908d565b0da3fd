-- What a shelf tells of the texts that it holds.
use Rattle.std.specs.Prelude.{◌≡◌, ℕ, ◌<◌, List, ◌++◌, length, Option, Some, None}

-- nothing is told, or the bytes of each name that the shelf holds
abbrev pub Contents : Type 0
Contents = Option (List ℕ → Option (List ℕ))

-- what the contents tell of a name: its bytes, or nothing
abbrev pub text_of : Contents → List ℕ → Option (List ℕ)
text_of None name = None
text_of (Some texts) name = texts name

-- the contents are told, and lack the name
abbrev pub Lacks : Contents → List ℕ → Type 0
Lacks None name = ⊥
Lacks (Some texts) name = texts name ≡ None

-- where the contents are told, the name has more bytes than the limit
abbrev pub IsOverLimit : Contents → List ℕ → ℕ → Type 0
IsOverLimit None name limit = Unit {0}
IsOverLimit (Some texts) name limit = (bytes : List ℕ) × (texts name ≡ Some bytes) × (limit < length bytes)

-- where the contents are told, the name holds these bytes
abbrev pub Holds : Contents → List ℕ → List ℕ → Type 0
Holds None name bytes = Unit {0}
Holds (Some texts) name bytes = texts name ≡ Some bytes

-- a name holds a prefix of these bytes
abbrev pub HoldsPrefix : Option (List ℕ) → List ℕ → Type 0
HoldsPrefix None bytes = ⊥
HoldsPrefix (Some held) bytes = (rest : List ℕ) × (bytes ≡ held ++ rest)
