-- The exit statuses.
use Rattle.std.specs.Prelude.{ℕ}
use Rattle.asafe.specs.declared.status.Status.{Status}
use Rattle.asafe.specs.declared.status.Status.TheVariants.{Yes, Refused, Usage, Text, ReadFault, WriteFault, NoMemory, TooLarge, NotYet}

abbrev pub code_of : Status → ℕ
code_of Yes = 0
code_of Refused = 1
code_of Usage = 2
code_of Text = 3
code_of ReadFault = 4
code_of WriteFault = 5
code_of NoMemory = 6
code_of TooLarge = 7
code_of NotYet = 8
