-- The jobs, with the texts of their names.
use Rattle.std.specs.Prelude.{ℕ, Option, Bool, option_map}
use Rattle.base_core.specs.declared.rules.Rules.{Rules}
use Rattle.clap.specs.Words.{Text}
use Rattle.command_words.specs.declared.job.Depth.{Depth}
use Rattle.command_words.specs.declared.job.Job.{Job}
use Rattle.command_words.specs.declared.job.Job.TheVariants.{Certify, Check, Show, Table, Generate}

pub data Asked : Type 0 where
  -- the file, the certificate's file where one is wanted, and whether the report is JSON
  certify : Text → Rules → Depth → Option Text → Bool → Asked
  -- the file and that of its certificate
  check : Text → Text → Rules → Asked
  show : Text → Asked
  table : Asked
  generate : ℕ → Asked

abbrev pub asked_by : Job → Asked
asked_by (Certify file rules depth certificate json) = certify file.now rules depth (option_map (λ name. name.now) certificate) json
asked_by (Check file certificate rules) = check file.now certificate.now rules
asked_by (Show file) = show file.now
asked_by Table = table
asked_by (Generate n) = generate n
