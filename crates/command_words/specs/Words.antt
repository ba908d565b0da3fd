-- What the words ask for.
use Rattle.std.specs.Prelude.{List, [], ◌∷◌, Option, None}
use Rattle.clap.specs.Words.{Kinds, Text, fault_of, matches_of}
use Rattle.command_words.specs.Command.{command_app}
use Rattle.command_words.specs.Given.{found_in}
use Rattle.command_words.specs.Jobs.{Asked}
use Rattle.command_words.specs.Table.{job_of}

-- the job, where `clap` has no fault to find
abbrev pub unless_refused : Kinds → Option Asked → Option Asked
unless_refused [] job = job
unless_refused (kind ∷ kinds) job = None

-- the job of what `clap` finds in the words; None where `clap` refuses them, or a form of the table fails
unfoldable pub asked : List Text → Option Asked
asked words = unless_refused (fault_of command_app words) (job_of (found_in (matches_of command_app words)))
