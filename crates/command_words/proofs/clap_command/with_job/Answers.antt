use Rattle.std.proofs.Common.{ap, ◌∙◌}
use Rattle.std.proofs.lemmas.Result.{IfOk-weaker}
use Rattle.clap.specs.Simple.{app_of, with_rule}
use Rattle.command_words.proofs.clap_command.with_job.Goals as goal

pub returns : goal.returns
returns c = IfOk-weaker c.arg.result _ _ (λ longer adds. adds.shape c.new.ensures.optional.1 ∙ ap (with_rule (app_of c.args.command)) c.new.ensures.rule) c.arg.ensures
