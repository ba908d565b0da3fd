use Rattle.std.proofs.Common.{sym, ap, ◌∙◌, ◌≡◌, ◌&&◌, map, option_map, is_some}
use Rattle.std.proofs.lemmas.Result.{IfOk-weaker}
use Rattle.c_tree.specs.View.{view_declarator, view_specifier}
use Rattle.c_tree.specs.DeclaredNames.{declarator_name}
use Rattle.c_tree.specs.StatementView.{view_init, view_named}
use Rattle.c_environment.specs.Behind.{behind_declarator, declared}
use Rattle.c_environment.specs.Environment.{at_file_scope}
use Rattle.c_environment.specs.Scopes as scopes
use Rattle.c_environment.specs.Seen.{seen_type, seen_environment}
use Rattle.c_rules.specs.Judgement.{is_settled}
use Rattle.c_declared.specs.Faults.{is_own}
use Rattle.c_judged.proofs.Named.{closed_is}
use Rattle.c_declared.proofs.Steps as steps
use Rattle.c_judged.specs.Declarations as spec
use Rattle.c_judged.specs.Parts as parts
use Rattle.c_judged.proofs.declarations.walk_named.Goals as goal

-- in the initialiser
entered : (c : goal.After-drop-by-inside-2) → seen_environment c.enter_name.new.env ≡ spec.in_initializer (seen_environment c.args.env.now) c.args.storage (seen_type c.args.of.now) (view_named c.args.n.now)
entered c =
    let env = seen_environment c.args.env.now in
    let t = seen_type c.args.of.now in
    let d = view_declarator c.args.n.now.declarator in
    let name = declarator_name d in
    let init = option_map view_init c.args.n.now.init in
    let storage = c.args.storage in
    let at = seen_environment c.walk_declarator.new.env in
    let of = seen_type c.get.result.now.of in
    let given : of ≡ declared env t d = ap (λ w. seen_type w.of) c.get.ensures ∙ c.in_ok-by.ensures.of in
    let here : at ≡ behind_declarator env d = c.in_ok-by.ensures.behind in
    c.in_ok-name.ensures.env
    ∙ ap (λ o. scopes.initialised_by (scopes.with_name at storage name of) (parts.linked_at o storage of.is_function) name init) c.at_file_scope-outside.ensures
    ∙ ap (λ e. scopes.initialised_by (scopes.with_name e storage name of) (parts.linked_at (at_file_scope env) storage of.is_function) name init) here
    ∙ ap (λ u. scopes.initialised_by (scopes.with_name (behind_declarator env d) storage name u) (parts.linked_at (at_file_scope env) storage u.is_function) name init) given

pub returns-clause-settled : goal.returns-clause-settled
returns-clause-settled c =
    let rows = c.args.table.now in
    let env = seen_environment c.args.env.now in
    let word = option_map (λ w. view_specifier w.now) c.args.word in
    let t = seen_type c.args.of.now in
    let n = view_named c.args.n.now in
    let d = view_declarator c.args.n.now.declarator in
    let storage = c.args.storage in
    let outside = c.at_file_scope-outside.result in
    let by = c.get-3.result.now in
    let at = seen_environment c.walk_declarator.new.env in
    let inner = seen_environment c.enter_name.new.env in
    let said = parts.name_closed outside storage by.settled by.are_sizes (seen_type by.of).kind c.in_ok-name.name c.in_ok-init.init in
    let whole : by ≡ c.in_ok-by.by = c.get-3.ensures in
    let of : seen_type by.of ≡ declared env t d = ap (λ w. seen_type w.of) whole ∙ c.in_ok-by.ensures.of in
    let first : c.get.result.now ≡ by = c.get.ensures ∙ sym whole in
    let kind : c.get-2.result.now ≡ by = c.get-2.ensures ∙ sym whole in
    let same = closed_is rows env at inner storage word t (seen_type by.of) n outside c.both-unknown.result by.settled by.are_sizes by.faults c.in_ok-name.name c.in_ok-init.init
    c.at_file_scope-outside.ensures
    (c.both-unknown.ensures ∙ ap (λ v. v && c.tag_unknown.result) c.is_own.ensures ∙ ap (λ v. is_own d && v) c.tag_unknown.ensures)
    (ap (λ w. w.settled) whole ∙ c.in_ok-by.ensures.settled) (ap (λ w. w.are_sizes) whole ∙ c.in_ok-by.ensures.sizes) of
    (ap (λ w. w.faults) whole ∙ c.in_ok-by.ensures.faults) c.in_ok-by.ensures.behind
    (c.in_ok-name.ensures.first
    ∙ ap (λ w. spec.declared_misfit at (parts.linked_at outside storage (seen_type w.of).is_function) (seen_type w.of) (declarator_name d) (is_some n.init) (parts.faults_behind at storage c.both-unknown.result (seen_type w.of) d w.faults)) first)
    (c.in_ok-name.ensures.complete
    ∙ ap (λ w. spec.is_complete_by storage (is_some n.init) (parts.faults_behind at storage c.both-unknown.result (seen_type w.of) d w.faults) (seen_type w.of)) first)
    (entered c)
    (c.in_ok-init.ensures.settled ∙ ap (λ w. (spec.said_optional rows inner (seen_type w.of).kind n.init).settled) kind)
    c.in_ok-init.ensures.fixed
    (c.in_ok-init.ensures.misfit ∙ ap (λ w. spec.mismatched rows inner (seen_type w.of).kind n.init) kind) in
    IfOk-weaker c.end_name.result (λ s. s ≡ is_settled said) (λ s. s ≡ (spec.said_named rows env c.args.storage word t n).settled) (λ s h. h ∙ ap is_settled same) c.end_name.ensures.settled

pub returns-clause-behind : goal.returns-clause-behind
returns-clause-behind c =
    steps.on_ok c.end_name.result
    (c.in_ok-init.ensures.behind ∙ ap (λ e. scopes.behind_optional_initializer e (option_map view_init c.args.n.now.init)) (entered c))
