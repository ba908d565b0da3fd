-- Which statuses may come where.
use Rattle.asafe.specs.declared.status.Status.{Status}
use Rattle.asafe.specs.declared.status.Status.TheVariants.{Yes, Refused, Usage, ReadFault, WriteFault, NoMemory, TooLarge, NotYet}

-- of words that ask for no job
abbrev pub IsUsageOrFault : Status → Type 0
IsUsageOrFault Usage = Unit {0}
IsUsageOrFault WriteFault = Unit {0}
IsUsageOrFault NoMemory = Unit {0}
IsUsageOrFault _ = ⊥

-- of the job that lists the function table
abbrev pub IsYesOrFault : Status → Type 0
IsYesOrFault Yes = Unit {0}
IsYesOrFault WriteFault = Unit {0}
IsYesOrFault NoMemory = Unit {0}
IsYesOrFault _ = ⊥

-- of a job that isn't built yet, which prints nothing
abbrev pub IsNotYetOrNoMemory : Status → Type 0
IsNotYetOrNoMemory NotYet = Unit {0}
IsNotYetOrNoMemory NoMemory = Unit {0}
IsNotYetOrNoMemory _ = ⊥

-- of a file that told contents lack
abbrev pub IsReadFaultOrFault : Status → Type 0
IsReadFaultOrFault ReadFault = Unit {0}
IsReadFaultOrFault WriteFault = Unit {0}
IsReadFaultOrFault NoMemory = Unit {0}
IsReadFaultOrFault _ = ⊥

-- of a file whose text is too long
abbrev pub IsTooLargeOrFault : Status → Type 0
IsTooLargeOrFault TooLarge = Unit {0}
IsTooLargeOrFault ReadFault = Unit {0}
IsTooLargeOrFault WriteFault = Unit {0}
IsTooLargeOrFault NoMemory = Unit {0}
IsTooLargeOrFault _ = ⊥

-- of a file whose text is in the subset
abbrev pub IsDecidedOrFault : Status → Type 0
IsDecidedOrFault Yes = Unit {0}
IsDecidedOrFault Refused = Unit {0}
IsDecidedOrFault NotYet = Unit {0}
IsDecidedOrFault ReadFault = Unit {0}
IsDecidedOrFault WriteFault = Unit {0}
IsDecidedOrFault NoMemory = Unit {0}
IsDecidedOrFault _ = ⊥
