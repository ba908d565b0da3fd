use Rattle.std.proofs.Common.{◌∙◌, codes}
use Rattle.std.specs.Str.{bytes_eq}
use Rattle.clap.specs.Words.{found_of}
use Rattle.clap.proofs.WalkLemmas.{first_value-rows}
use Rattle.command_words.proofs.Found.{some_flag, no_flag}
use Rattle.command_words.proofs.given.json_in.Goals as goal

pub returns-in-Some : goal.returns-in-Some
returns-in-Some c =
    c.eq.ensures
    ∙ some_flag _ (λ value. bytes_eq value (codes "true")) c.in-Some.value.now (c.in-Some.ensures ∙ first_value-rows (found_of c.args.matches.now) (codes "json"))

pub returns-in-None : goal.returns-in-None
returns-in-None c = no_flag _ (λ value. bytes_eq value (codes "true")) (c.in-None.ensures ∙ first_value-rows (found_of c.args.matches.now) (codes "json"))
