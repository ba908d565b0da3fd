use Rattle.std.proofs.Common.{ap, Some, ◌≡◌, ◌∙◌}
use Rattle.std.proofs.lemmas.Result.{IfOk-weaker}
use Rattle.clap.specs.Walk.{Rule, rule_of}
use Rattle.clap.specs.declared.builder.arg.Arg.{Arg}
use Rattle.clap.specs.declared.builder.action.ArgAction.TheVariants.{Append}
use Rattle.clap.specs.Simple.{app_of, with_rule}
use Rattle.command_words.specs.Command.{names_argument}
use Rattle.command_words.proofs.clap_command.with_names.Goals as goal

pub returns : goal.returns
returns c =
    let is : rule_of c.action.result ≡ names_argument = ap rule_of c.action.ensures ∙ ap (λ (r : Rule). record r { action = Some Append }) c.new.ensures.rule in
    let local = ap (λ (a : Arg). a.global) c.action.ensures ∙ c.new.ensures.optional.1 in
    IfOk-weaker c.arg.result _ _ (λ longer adds. adds.shape local ∙ ap (with_rule (app_of c.args.command)) is) c.arg.ensures
