use Rattle.std.proofs.Common.{rules, ap, ◌∙◌, ◌≡◌, ◌++◌, map, option_map}
use Rattle.c_judgements.specs.Parts.{added}
use Rattle.c_tree.specs.View.{view_specifier, specifiers_of}
use Rattle.c_tree.specs.StatementView.{view_named}
use Rattle.c_environment.specs.Behind.{behind_specifiers}
use Rattle.c_environment.specs.Seen.{seen_type, seen_environment}
use Rattle.c_environment.specs.Types.{specified}
use Rattle.c_declared.specs.Faults.{tag_word}
use Rattle.c_declared.specs.Nodes as nodes
use Rattle.c_declared.specs.Seen.{shown}
use Rattle.c_declared.proofs.Steps as steps
use Rattle.c_judged.specs.Declarations as spec
use Rattle.c_judged.proofs.declarations.walk_list.Goals as goal

pub returns-in_ok-settled-in-len1-up-clause-all : goal.returns-in_ok-settled-in-len1-up-clause-all
returns-in_ok-settled-in-len1-up-clause-all c =
    let rows = c.args.table.now in
    let storage = c.args.storage in
    let env = seen_environment c.args.env.now in
    let at = seen_environment c.walk_specifiers.new.env in
    let ws = specifiers_of (map view_specifier c.args.specs.now) in
    let ns = map view_named c.args.names.now in
    let given = seen_type c.get.result.now in
    let of : given ≡ specified env ws = search rules in
    let first = (nodes.said_specifiers rows env ws).all in
    let word = option_map (λ w. view_specifier w.now) c.tag_word-word.result in
    steps.joined first (spec.said_names rows at storage word given ns).all (shown c.args.out.now) (shown c.walk_specifiers.new.out) (shown c.walk_names.new.out)
    c.in_ok-part-in-len1-up.ensures.all c.in_ok-settled-in-len1-up.ensures.all
    ∙ ap (λ e. added (first ++ (spec.said_names rows e storage word given ns).all) (shown c.args.out.now)) c.in_ok-part-in-len1-up.ensures.behind
    ∙ ap (λ w. added (first ++ (spec.said_names rows (behind_specifiers env ws) storage w given ns).all) (shown c.args.out.now)) c.tag_word-word.ensures
    ∙ ap (λ t. added (first ++ (spec.said_names rows (behind_specifiers env ws) storage (tag_word ws) t ns).all) (shown c.args.out.now)) of
