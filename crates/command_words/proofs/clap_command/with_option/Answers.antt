use Rattle.std.proofs.Common.{ap, Some, ◌≡◌, ◌∙◌}
use Rattle.std.proofs.lemmas.Result.{IfOk-weaker}
use Rattle.clap.specs.Walk.{Rule, rule_of}
use Rattle.clap.specs.declared.builder.arg.Arg.{Arg}
use Rattle.clap.specs.Simple.{app_of, with_rule}
use Rattle.command_words.specs.Command.{option}
use Rattle.command_words.proofs.clap_command.with_option.Goals as goal

pub returns : goal.returns
returns c =
    let is : rule_of c.long.result ≡ option c.args.name.now = ap rule_of c.long.ensures ∙ ap (λ (r : Rule). record r { long = Some c.args.name.now }) c.new.ensures.rule in
    let local = ap (λ (a : Arg). a.global) c.long.ensures ∙ c.new.ensures.optional.1 in
    IfOk-weaker c.arg.result _ _ (λ longer adds. adds.shape local ∙ ap (with_rule (app_of c.args.command)) is) c.arg.ensures
