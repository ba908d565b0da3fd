-- What the job that the words ask for reads.
use Rattle.std.specs.Prelude.{◌≡◌, ℕ, List, Bool, Option, Some, None}
use Rattle.base_core.specs.Contents.{Contents, text_of, Lacks}
use Rattle.command_words.specs.Jobs.{Asked, certify, table}

-- the file to certify, and whether the report is JSON
abbrev pub certified : Option Asked → Option (List ℕ × Bool)
certified (Some (certify file rules depth None json)) = Some (file, json)
certified _ = None

-- the job isn't built yet: `check`, `show`, `gen`, and `certify` with `--cert`
abbrev pub IsLater : Option Asked → Type 0
IsLater None = ⊥
IsLater (Some (certify file rules depth None json)) = ⊥
IsLater (Some table) = ⊥
IsLater (Some job) = Unit {0}

-- the job certifies this file
pub record Certifies (job : Option Asked) (file : List ℕ) : Type 0 where
  pub json : Bool
  pub asked : certified job ≡ Some (file, json)

-- the job certifies a file, and the contents tell that it holds this text
pub record HasText (job : Option Asked) (contents : Contents) (text : List ℕ) : Type 0 where
  pub file : List ℕ
  pub certifies : Certifies job file
  pub held : text_of contents file ≡ Some text

-- the job certifies a file, and the contents are told and lack it
pub record LacksFile (job : Option Asked) (contents : Contents) : Type 0 where
  pub file : List ℕ
  pub certifies : Certifies job file
  pub lacked : Lacks contents file
