-- The table of jobs: the names and options of each.
use Rattle.std.specs.Prelude.{Bool, not, ◌&&◌, List, [], ◌∷◌, Option, Some, None, if◌then◌else◌, is_some, codes, option_map, option_and_then}
use Rattle.std.specs.Str.{bytes_eq}
use Rattle.base_core.specs.declared.rules.Rules.{Rules}
use Rattle.clap.specs.Words.{Text}
use Rattle.command_words.specs.declared.job.Depth.{Depth}
use Rattle.command_words.specs.Given.{Found}
use Rattle.command_words.specs.Jobs.{Asked, certify, check, show, table, generate}
use Rattle.command_words.specs.Values.{rules_value, depth_value, number_of}

-- neither `--depth`, `--cert` nor `--json`
abbrev pub has_rules_alone : Found → Bool
has_rules_alone found = not (is_some found.depth) && not (is_some found.certificate) && not found.json

abbrev pub has_no_option : Found → Bool
has_no_option found = not (is_some found.rules) && has_rules_alone found

abbrev pub certify_with : Text → Option Rules → Option Depth → Option Text → Bool → Option Asked
certify_with file (Some rules) (Some depth) certificate json = Some (certify file rules depth certificate json)
certify_with file _ _ certificate json = None

-- certify FILE [--rules RULES] [--depth DEPTH] [--cert OUT] [--json]
abbrev pub certify_named : List Text → Found → Option Asked
certify_named (file ∷ []) found = certify_with file (rules_value found.rules) (depth_value found.depth) found.certificate found.json
certify_named _ found = None

-- check FILE CERT [--rules RULES]
abbrev pub check_named : List Text → Found → Option Asked
check_named (file ∷ certificate ∷ []) found =
    if has_rules_alone found then option_map (check file certificate) (rules_value found.rules) else None
check_named _ found = None

-- show FILE
abbrev pub show_named : List Text → Found → Option Asked
show_named (file ∷ []) found = if has_no_option found then Some (show file) else None
show_named _ found = None

-- table
abbrev pub table_named : List Text → Found → Option Asked
table_named [] found = if has_no_option found then Some table else None
table_named _ found = None

-- gen N
abbrev pub generate_named : List Text → Found → Option Asked
generate_named (word ∷ []) found = if has_no_option found then option_map generate (number_of word) else None
generate_named _ found = None

abbrev pub job_named : Text → Found → Option Asked
job_named job found =
    if bytes_eq job (codes "certify") then certify_named found.names found
    else (if bytes_eq job (codes "check") then check_named found.names found
    else (if bytes_eq job (codes "show") then show_named found.names found
    else (if bytes_eq job (codes "table") then table_named found.names found
    else (if bytes_eq job (codes "gen") then generate_named found.names found else None))))

-- the job that was found; None where a form of the table fails
abbrev pub job_of : Found → Option Asked
job_of found = option_and_then (λ job. job_named job found) found.job
