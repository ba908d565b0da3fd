use Rattle.std.proofs.Common.{◌∙◌, ap, map, option_map, string_bytes}
use Rattle.clap.specs.Words.{app_of, found_of, rows_of}
use Rattle.command_words.specs.Jobs.{asked_by}
use Rattle.command_words.specs.Table.{job_of}
use Rattle.command_words.proofs.Found.{asked_taken, asked_refused}
use Rattle.command_words.proofs.words.asked.Goals as goal

pub returns-in-Ok-try_get_matches_from : goal.returns-in-Ok-try_get_matches_from
returns-in-Ok-try_get_matches_from c =
    asked_taken (app_of c.in-Ok.command) (map string_bytes c.args.words.now) (rows_of (found_of c.in-Ok-try_get_matches_from.matches)) (option_map asked_by c.job_of.result)
    c.in-Ok.ensures (c.job_of.ensures ∙ ap job_of c.given_in.ensures) c.in-Ok-try_get_matches_from.ensures.matches c.in-Ok-try_get_matches_from.ensures.kinds

pub returns : goal.returns
returns c =
    asked_refused (app_of c.in-Ok.command) (map string_bytes c.args.words.now) c.in-Err-try_get_matches_from.error c.in-Ok.ensures
    (λ memory. c.in_default.not-OutOfMemory (c.kind.ensures ∙ memory)) c.in-Err-try_get_matches_from.ensures.kinds
