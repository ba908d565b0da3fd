-- The command as `clap` sees it.
use Rattle.std.specs.Prelude.{Some, true, codes}
use Rattle.clap.specs.Words.{App, Rule, Text, new_app, new_rule, with_rule}
use Rattle.clap.specs.declared.builder.action.ArgAction.TheVariants.{Append, SetTrue}

abbrev pub job_argument : Rule
job_argument = new_rule (codes "job")

abbrev pub names_argument : Rule
names_argument = record (new_rule (codes "names")) { action = Some Append }

-- `--NAME VALUE`
abbrev pub option : Text → Rule
option name = record (new_rule name) { long = Some name }

-- `--NAME`
abbrev pub flag : Text → Rule
flag name = record (option name) { action = Some SetTrue }

-- the words are those behind the program's name, and there is no help
abbrev pub bare_app : App
bare_app = record (new_app (codes "asafe")) { top = record ((new_app (codes "asafe")).top) { no_binary_name = true; disable_help_flag = true } }

-- a positional for the job, one last positional for its names, three options with a value and one flag
abbrev pub command_app : App
command_app = with_rule (with_rule (with_rule (with_rule (with_rule (with_rule bare_app job_argument) names_argument) (option (codes "rules"))) (option (codes "depth"))) (option (codes "cert"))) (flag (codes "json"))
