-- What each ending of the command says of the job, the shelf and the text.
use Rattle.std.specs.Prelude.{◌≡◌, ◌⊎◌, ℕ, List, Bool, Option, Some, None, Err, string_bytes}
use Rattle.base_core.specs.Contents.{Contents, text_of, Lacks}
use Rattle.base_core.specs.Count.{Rose}
use Rattle.base_core.specs.declared.place.Place.{Place}
use Rattle.c_lexer.specs.Faults.{place_of, kind_of}
use Rattle.c_lexer.specs.Lexis.{Lexis, lexis}
use Rattle.c_lexer.specs.declared.fault.LexFault.{LexFault}
use Rattle.command_words.specs.Jobs.{Asked, certify, table}
use Rattle.asafe.specs.declared.token_fault.TokenFault.{TokenFault}
use Rattle.asafe.specs.declared.status.Status.{Status}
use Rattle.asafe.specs.declared.status.Status.TheVariants as status
use Rattle.asafe.specs.declared.ending.Ending.{Ending}
use Rattle.asafe.specs.declared.ending.Ending.TheVariants.{Accepted, Refused, Listed, Usage, Faulty, Unread, NoMemory, TooLarge, NotYet}
use Rattle.asafe.specs.FaultLine.{fault_line, token_fault_line, IsFaultLine}
use Rattle.asafe.specs.Lines.{cannot_read_line, too_large_line, table_text}
use Rattle.asafe.specs.Text.{KeepsTheRules, IsRefusedText, IsNotFlat, HasFault, HasTokenFault, PassesLimits, IsTooLarge, IsShort}

-- the text, read from this file, has a fault of the lexis, which the line tells
pub record TellsLexFault (file text line : List ℕ) : Type 0 where
  pub fault : LexFault
  pub first : lexis text ≡ Err fault
  pub place : Place
  pub at : place_of fault ≡ Some place
  pub line_is : line ≡ fault_line file text place (kind_of fault)

-- the text, read from this file, has tokens of which one doesn't fit, which the line tells with its place
pub record TellsTokenFault (file text line : List ℕ) : Type 0 where
  pub fault : TokenFault
  pub read : Lexis
  pub token : ℕ
  pub has : HasTokenFault text fault read token
  pub line_is : line ≡ token_fault_line file fault read token

abbrev pub TellsFault : List ℕ → List ℕ → List ℕ → Type 0
TellsFault file text line = TellsLexFault file text line ⊎ TellsTokenFault file text line

-- ---- what a status says of a text that is certified

abbrev pub Says : List ℕ → Status → Type 0
Says text status.Yes = IsShort text × KeepsTheRules text
Says text status.Refused = IsShort text × IsRefusedText text
Says text status.NotYet = IsShort text × IsNotFlat text
Says text status.Text = IsShort text × HasFault text
Says text status.TooLarge = IsTooLarge text
Says text status.ReadFault = Unit {0}
Says text status.WriteFault = Unit {0}
Says text status.NoMemory = Unit {0}
Says text status.Usage = ⊥

-- ---- what an ending says

-- of a text of this file, before it is known what the shelf tells
abbrev pub TextEnds : List ℕ → Bool → List ℕ → Ending → Type 0
TextEnds file json text (Accepted as_json) = (as_json ≡ json) × KeepsTheRules text
TextEnds file json text Refused = IsRefusedText text
TextEnds file json text NotYet = IsNotFlat text
TextEnds file json text (Faulty line) = IsFaultLine (string_bytes line) × TellsFault file text (string_bytes line)
TextEnds file json text NoMemory = Unit {0}
TextEnds file json text (TooLarge line) = (string_bytes line ≡ too_large_line file) × PassesLimits text
TextEnds file json text _ = ⊥

-- of a text of this file that is too large
abbrev pub IsOfTooLarge : List ℕ → Ending → Type 0
IsOfTooLarge file (TooLarge line) = string_bytes line ≡ too_large_line file
IsOfTooLarge file NoMemory = Unit {0}
IsOfTooLarge file _ = ⊥

-- of a file to certify: the shelf's contents, and its counts of failed reads before and after
abbrev pub FileEnds : List ℕ → Bool → Contents → ℕ → ℕ → Ending → Type 0
FileEnds file json contents before after (Accepted as_json) = (as_json ≡ json) × ((text : List ℕ) → text_of contents file ≡ Some text → IsShort text × KeepsTheRules text)
FileEnds file json contents before after Refused = (text : List ℕ) → text_of contents file ≡ Some text → IsShort text × IsRefusedText text
FileEnds file json contents before after NotYet = (text : List ℕ) → text_of contents file ≡ Some text → IsShort text × IsNotFlat text
FileEnds file json contents before after (Faulty line) =
    IsFaultLine (string_bytes line) × ((text : List ℕ) → text_of contents file ≡ Some text → IsShort text × TellsFault file text (string_bytes line))
FileEnds file json contents before after (Unread line) = (string_bytes line ≡ cannot_read_line file) × (Rose before after ⊎ Lacks contents file)
FileEnds file json contents before after NoMemory = Unit {0}
FileEnds file json contents before after (TooLarge line) =
    (string_bytes line ≡ too_large_line file) × ((text : List ℕ) → text_of contents file ≡ Some text → IsTooLarge text)
FileEnds file json contents before after _ = ⊥

-- of the job that lists the function table
abbrev pub TableEnds : Ending → Type 0
TableEnds (Listed text) = string_bytes text ≡ table_text
TableEnds NoMemory = Unit {0}
TableEnds _ = ⊥

-- of a job that isn't built yet
abbrev pub LaterEnds : Ending → Type 0
LaterEnds NotYet = Unit {0}
LaterEnds NoMemory = Unit {0}
LaterEnds _ = ⊥

-- of words that ask for no job
abbrev pub UsageEnds : Ending → Type 0
UsageEnds Usage = Unit {0}
UsageEnds NoMemory = Unit {0}
UsageEnds _ = ⊥

-- of a job
abbrev pub Ends : Option Asked → Contents → ℕ → ℕ → Ending → Type 0
Ends None contents before after ending = UsageEnds ending
Ends (Some (certify file rules depth None json)) contents before after ending = FileEnds file json contents before after ending
Ends (Some table) contents before after ending = TableEnds ending
Ends (Some _) contents before after ending = LaterEnds ending

-- of a job that certifies a file which told contents lack
abbrev pub IsUnread : Ending → Type 0
IsUnread (Unread line) = Unit {0}
IsUnread NoMemory = Unit {0}
IsUnread _ = ⊥
