use Rattle.std.proofs.Common.{◌∙◌, [], ap, codes, unwrap_or}
use Rattle.clap.specs.Words.{found_of}
use Rattle.clap.proofs.WalkLemmas.{first_value-rows, raw_values-rows}
use Rattle.command_words.proofs.given.given_in.Goals as goal

pub returns : goal.returns
returns c =
    let job_is = c.get_str.ensures ∙ first_value-rows (found_of c.args.matches.now) (codes "job") in
    let names_is = ap (λ o. unwrap_or o []) (c.get_strs.ensures ∙ raw_values-rows (found_of c.args.matches.now) (codes "names")) in
    let rules_is = c.get_str-2.ensures ∙ first_value-rows (found_of c.args.matches.now) (codes "rules") in
    let depth_is = c.get_str-3.ensures ∙ first_value-rows (found_of c.args.matches.now) (codes "depth") in
    let certificate_is = c.get_str-4.ensures ∙ first_value-rows (found_of c.args.matches.now) (codes "cert") in
    λ i. record { job = job_is i; names = names_is i; rules = rules_is i; depth = depth_is i; certificate = certificate_is i; json = c.json_in.ensures i }
