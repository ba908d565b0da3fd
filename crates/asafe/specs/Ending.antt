-- How a phase ends the command, before anything is put.
use Rattle.std.specs.Prelude.{ℕ, List, [], string_bytes}
use Rattle.asafe.specs.declared.status.Status.{Status}
use Rattle.asafe.specs.declared.status.Status.TheVariants as status
use Rattle.asafe.specs.declared.ending.Ending.{Ending}
use Rattle.asafe.specs.declared.ending.Ending.TheVariants.{Accepted, Refused, Listed, Usage, Faulty, Unread, NoMemory, TooLarge, NotYet}
use Rattle.asafe.specs.Lines.{usage_line, report}

abbrev pub ending_status : Ending → Status
ending_status (Accepted json) = status.Yes
ending_status Refused = status.Refused
ending_status (Listed text) = status.Yes
ending_status Usage = status.Usage
ending_status (Faulty line) = status.Text
ending_status (Unread line) = status.ReadFault
ending_status NoMemory = status.NoMemory
ending_status (TooLarge line) = status.TooLarge
ending_status NotYet = status.NotYet

abbrev pub ending_text : Ending → List ℕ
ending_text (Accepted json) = report json
ending_text Refused = []
ending_text (Listed text) = string_bytes text
ending_text Usage = usage_line
ending_text (Faulty line) = string_bytes line
ending_text (Unread line) = string_bytes line
ending_text NoMemory = []
ending_text (TooLarge line) = string_bytes line
ending_text NotYet = []
