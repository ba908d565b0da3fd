use Rattle.std.proofs.Common.{ap, true, ◌∙◌}
use Rattle.clap.specs.declared.builder.command.Command.{Command}
use Rattle.clap.specs.declared.builder.command.Command.TheOpen.{Command-F}
use Rattle.clap.specs.Simple.{App, app_of_fields}
use Rattle.command_words.proofs.clap_command.bare_command.Goals as goal

abbrev bare : App → App
bare app = record app { top = record app.top { no_binary_name = true; disable_help_flag = true } }

pub returns : goal.returns
returns c =
    ap app_of_fields (c.disable_help_flag.ensures ∙ ap (λ (f : Command-F Command). record f { disable_help_flag = true }) c.no_binary_name.ensures)
    ∙ ap bare c.new.ensures.app
