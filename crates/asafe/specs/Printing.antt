-- What is put into the sink.
use Rattle.std.specs.Prelude.{◌≡◌, ◌≢◌, ◌⊎◌, ℕ, List, [], ◌++◌, Bool, Option, Some, None}
use Rattle.base_core.specs.Count.{Rose}
use Rattle.base_core.specs.Taken.{appended}
use Rattle.command_words.specs.Jobs.{Asked, certify, table}
use Rattle.asafe.specs.declared.status.Status.{Status}
use Rattle.asafe.specs.declared.status.Status.TheVariants.{Yes, Refused, Usage, Text, ReadFault, WriteFault, NoMemory, TooLarge, NotYet}
use Rattle.asafe.specs.Answers.{TellsFault}
use Rattle.asafe.specs.FaultLine.{IsFaultLine}
use Rattle.asafe.specs.Lines.{usage_line, report, cannot_read_line, too_large_line, table_text}
use Rattle.asafe.specs.Text.{KeepsTheRules, IsTooLarge, IsShort}

-- the sink took a proper prefix of the bytes
pub record PutsPart (before after : Option (List ℕ)) (bytes : List ℕ) : Type 0 where
  pub front : List ℕ
  pub rest : List ℕ
  pub split : bytes ≡ front ++ rest
  pub proper : rest ≢ []
  pub taken : after ≡ appended before front

-- ---- over any shelf

-- what is printed with each status of `certify FILE`
abbrev pub CertifyPrints : List ℕ → Bool → Status → List ℕ → Type 0
CertifyPrints file json Yes bytes = bytes ≡ report json
CertifyPrints file json Refused bytes = bytes ≡ []
CertifyPrints file json Text bytes = IsFaultLine bytes
CertifyPrints file json ReadFault bytes = bytes ≡ cannot_read_line file
CertifyPrints file json TooLarge bytes = bytes ≡ too_large_line file
CertifyPrints file json NotYet bytes = bytes ≡ []
CertifyPrints file json _ bytes = ⊥

abbrev pub UsagePrints : Status → List ℕ → Type 0
UsagePrints Usage bytes = bytes ≡ usage_line
UsagePrints _ bytes = ⊥

abbrev pub TablePrints : Status → List ℕ → Type 0
TablePrints Yes bytes = bytes ≡ table_text
TablePrints _ bytes = ⊥

abbrev pub LaterPrints : Status → List ℕ → Type 0
LaterPrints NotYet bytes = bytes ≡ []
LaterPrints _ bytes = ⊥

-- what is printed with each status of a job, but for a fault of the sink and want of memory
abbrev pub JobPrints : Option Asked → Status → List ℕ → Type 0
JobPrints None status bytes = UsagePrints status bytes
JobPrints (Some (certify file rules depth None json)) status bytes = CertifyPrints file json status bytes
JobPrints (Some table) status bytes = TablePrints status bytes
JobPrints (Some _) status bytes = LaterPrints status bytes

-- the sink took the text of the status; after a fault of the sink a proper prefix of that of another one
abbrev pub Prints : Option Asked → Status → Option (List ℕ) → Option (List ℕ) → Type 0
Prints job WriteFault before after = (status : Status) × (bytes : List ℕ) × JobPrints job status bytes × PutsPart before after bytes
Prints job NoMemory before after = after ≡ before
Prints job status before after = (bytes : List ℕ) × JobPrints job status bytes × (after ≡ appended before bytes)

-- ---- of a text that is told

-- the sink took the line of the text's fault
abbrev pub PutsLine : List ℕ → List ℕ → Option (List ℕ) → Option (List ℕ) → Type 0
PutsLine file text before after = (line : List ℕ) × TellsFault file text line × (after ≡ appended before line)

-- what is printed of a text, read from this file, where anything is: the report, the line of its fault, that it is too large, or
-- that the read failed
abbrev pub IsPrintedOf : List ℕ → List ℕ → Bool → ℕ → ℕ → List ℕ → Type 0
IsPrintedOf file text json before after bytes =
    (IsShort text × KeepsTheRules text × (bytes ≡ report json))
    ⊎ ((IsShort text × TellsFault file text bytes) ⊎ ((IsTooLarge text × (bytes ≡ too_large_line file)) ⊎ (Rose before after × (bytes ≡ cannot_read_line file))))
