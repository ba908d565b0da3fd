-- The scopes of names (C11 6.2.1): a list of blocks, the innermost first, each with the names that it has declared.
use Rattle.std.specs.Prelude.{ℕ, List, [], ◌∷◌, Option, Some, None, if◌then◌else◌, bytes_eq}

abbrev pub Name : Type 0
Name = List ℕ

-- a block: the names that it has declared, the latest first, each with what it stands for
abbrev pub Block : Type 0
Block = List (Name × ℕ)

abbrev pub Scope : Type 0
Scope = List Block

-- what a block declares a name as
abbrev pub declared : Block → Name → Option ℕ
declared [] n = None
declared (d ∷ ds) n = if bytes_eq d.0 n then Some d.1 else declared ds n

abbrev pub or_else : Option ℕ → Option ℕ → Option ℕ
or_else (Some x) o = Some x
or_else None o = o

-- what a name stands for: as the innermost block has it that declares it
abbrev pub look_up : Scope → Name → Option ℕ
look_up [] n = None
look_up (b ∷ bs) n = or_else (declared b n) (look_up bs n)

-- what the innermost block declares it as
abbrev pub declared_here : Scope → Name → Option ℕ
declared_here [] n = None
declared_here (b ∷ bs) n = declared b n

abbrev pub enter : Scope → Scope
enter bs = [] ∷ bs

-- the innermost block ends; the outermost is left empty
abbrev pub leave : Scope → Scope
leave [] = []
leave (b ∷ []) = [] ∷ []
leave (b ∷ c ∷ bs) = c ∷ bs

-- in the innermost block a name stands for this from now on
abbrev pub declare : Name → ℕ → Scope → Scope
declare n x [] = []
declare n x (b ∷ bs) = ((n, x) ∷ b) ∷ bs

-- the same in the block around the innermost, where there is one
abbrev pub declare_around : Name → ℕ → Scope → Scope
declare_around n x [] = []
declare_around n x (b ∷ []) = b ∷ []
declare_around n x (b ∷ c ∷ bs) = b ∷ ((n, x) ∷ c) ∷ bs
