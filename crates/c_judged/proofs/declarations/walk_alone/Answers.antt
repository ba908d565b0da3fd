use Rattle.std.proofs.Common.{sym, ap, ◌∙◌, ◌≡◌, map, option_map, None}
use Rattle.std.proofs.lemmas.Result.{IfOk-weaker}
use Rattle.c_tree.specs.View.{view_specifier, specifiers_of}
use Rattle.c_environment.specs.Seen.{seen_environment}
use Rattle.c_environment.specs.Tags.{tag_alone}
use Rattle.c_declared.specs.Faults.{faults_specifiers}
use Rattle.c_judged.specs.Declarations.{alone_faults}
use Rattle.c_judged.proofs.Alone.{other_faults}
use Rattle.c_judged.proofs.declarations.walk_alone.Goals as goal

pub returns-in-None-clause-faults : goal.returns-in-None-clause-faults
returns-in-None-clause-faults c =
    let env = seen_environment c.args.env.now in
    let ws = specifiers_of (map view_specifier c.args.specs.now) in
    let none : None ≡ tag_alone ws = sym (ap (option_map (λ n. n.now)) c.in-None.is) ∙ c.tag_alone.ensures in
    IfOk-weaker c.walk_specifiers.result (λ p. p.faults ≡ faults_specifiers env ws) (λ p. p.faults ≡ alone_faults env ws)
    (λ p h. h ∙ sym (other_faults env ws none)) c.walk_specifiers.ensures.faults
