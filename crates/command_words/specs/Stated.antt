-- The words of the synopsis: a job, then its names, then its options in the order of the table.
use Rattle.std.specs.Prelude.{◌≡◌, ◌≢◌, ℕ, Bool, true, false, List, [], ◌∷◌, ◌++◌, Option, Some, None, codes, unwrap_or, option_map}
use Rattle.base_core.specs.declared.rules.Rules.{Rules}
use Rattle.base_core.specs.declared.rules.Rules.TheVariants.{Usual, Strict, Later}
use Rattle.clap.specs.Words.{Text}
use Rattle.command_words.specs.declared.job.Depth.{Depth}
use Rattle.command_words.specs.declared.job.Depth.TheVariants.{One, Two}
use Rattle.command_words.specs.Jobs as jobs
use Rattle.command_words.specs.Jobs.{Asked}
use Rattle.command_words.specs.Values.{number_of}
use Rattle.command_words.specs.Words.{asked}

-- a job as it is stated, where an option may be left out
pub data Stated : Type 0 where
  certify : Text → Option Rules → Option Depth → Option Text → Bool → Stated
  check : Text → Text → Option Rules → Stated
  show : Text → Stated
  table : Stated
  -- the word of the number, and the number
  generate : Text → ℕ → Stated

abbrev pub rules_word : Rules → Text
rules_word Usual = codes "usual"
rules_word Strict = codes "strict"
rules_word Later = codes "later"

abbrev pub depth_word : Depth → Text
depth_word One = codes "1"
depth_word Two = codes "2"

-- an option with its value, where it is given
abbrev pub option_words : Text → Option Text → List Text
option_words flag None = []
option_words flag (Some value) = flag ∷ value ∷ []

abbrev pub json_words : Bool → List Text
json_words true = codes "--json" ∷ []
json_words false = []

abbrev pub stated_words : Stated → List Text
stated_words (certify file rules depth certificate json) =
    codes "certify" ∷ file ∷ (option_words (codes "--rules") (option_map rules_word rules) ++ (option_words (codes "--depth") (option_map depth_word depth)
    ++ (option_words (codes "--cert") certificate ++ json_words json)))
stated_words (check file certificate rules) = codes "check" ∷ file ∷ certificate ∷ option_words (codes "--rules") (option_map rules_word rules)
stated_words (show file) = codes "show" ∷ file ∷ []
stated_words table = codes "table" ∷ []
stated_words (generate word n) = codes "gen" ∷ word ∷ []

-- the job with the options that were left out
abbrev pub stated_job : Stated → Asked
stated_job (certify file rules depth certificate json) = jobs.certify file (unwrap_or rules Usual) (unwrap_or depth Two) certificate json
stated_job (check file certificate rules) = jobs.check file certificate (unwrap_or rules Usual)
stated_job (show file) = jobs.show file
stated_job table = jobs.table
stated_job (generate word n) = jobs.generate n

-- neither empty nor begun by a hyphen
abbrev pub IsPlain : Text → Type 0
IsPlain [] = ⊥
IsPlain (x ∷ xs) = x ≢ 45

abbrev pub IsPlainIfGiven : Option Text → Type 0
IsPlainIfGiven None = Unit {0}
IsPlainIfGiven (Some name) = IsPlain name

-- its names are plain, and the word of a number is the number's
abbrev pub IsOfForm : Stated → Type 0
IsOfForm (certify file rules depth certificate json) = IsPlain file × IsPlainIfGiven certificate
IsOfForm (check file certificate rules) = IsPlain file × IsPlain certificate
IsOfForm (show file) = IsPlain file
IsOfForm table = Unit {0}
IsOfForm (generate word n) = IsPlain word × (number_of word ≡ Some n)

-- words of the stated form ask for the job that they state
abbrev pub StatedFormsAreAsked : Type 0
StatedFormsAreAsked = (s : Stated) → IsOfForm s → asked (stated_words s) ≡ Some (stated_job s)
